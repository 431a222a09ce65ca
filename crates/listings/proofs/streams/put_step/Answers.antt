-- Five parts, one after another.
use Rattle.listings.specs.LawsStreams.{step_printed}
use Rattle.listings.proofs.streams.put_step.Goals as goal

pub returns : goal.returns
returns c = step_printed _ _ _ _ _ _ _ _ _ _
    c.put_byte.ensures
    c.put.ensures
    c.put_byte-2.ensures c.put_byte-3.ensures
    c.put-2.ensures
