-- The words of configuration space, asked one by one.
use mathlib.Core.Bool.{true, false}
use mathlib.Core.Path.{◌≡◌}
use native.Mathlib.Omega.{arith}
use borrow.Author.Rules.{rules}
use Rattle.std.proofs.lemmas.Iterator.{cases_from_any, YieldsList-from_range}
use Rattle.target.specs.Chip.{chip_of}
use Rattle.aim.specs.Wanted.{known, wanted, config_writes}
use Rattle.aim.specs.LawsSome.{some_found}
use Rattle.plan.proofs.task.Task.some_written.Goals as goal

pub returns : goal.returns
returns c =
    let a = c.args.self.now.aim in
    let writes = config_writes (chip_of a.device) (wanted a.device a.image.now a.reading.now) (known a.reading.now) c.args.self.now.all_ids in
    some_found 9 writes _
    (cases_from_any _ _ _ (λ k. writes k ≡ true) (λ k. writes k ≡ false) c.any.ensures.ran (YieldsList-from_range 0 9 9 (cc) (omega arith)) (λ k q e. search rules) (λ k q e. search rules))
