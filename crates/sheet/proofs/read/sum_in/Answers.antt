-- The words are stored aside and summed.
use Rattle.sheet.specs.LawsBody.{body_sound}
use Rattle.sheet.specs.LawsRead.{aside_long, sum_of_stored}
use Rattle.sheet.proofs.read.sum_in.Goals as goal

pub store-requires : goal.store-requires
store-requires c = (c.args.sound.rules.most, aside_long _ c.args.sound.rules, body_sound _ _ c.requires)

pub unwrap-requires : goal.unwrap-requires
unwrap-requires c = rw (sum_of_stored _ c.args.sound.rules _ c.requires _ c.store.ensures _ _ c.checksum.ensures)

pub returns : goal.returns
returns c = let h = sum_of_stored _ c.args.sound.rules _ c.requires _ c.store.ensures _ _ c.checksum.ensures in let k = c.unwrap.ensures in cc
