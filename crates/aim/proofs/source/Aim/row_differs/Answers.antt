-- The words of one row.
use mathlib.Core.Bool.{true, false}
use mathlib.Core.Path.{◌≡◌, ◌∙◌}
use Prim.Native.Nat.{ℕ, ◌+◌, ◌*◌}
use native.Mathlib.Omega.{arith}
use borrow.Author.Rules.{rules}
use Rattle.std.proofs.lemmas.Iterator.{cases_from_any, YieldsList-from_range}
use Rattle.target.specs.Chip.{chip_of}
use Rattle.aim.specs.Wanted.{known, wanted, differs}
use Rattle.aim.specs.LawsSome.{some_found}
use Rattle.aim.specs.LawsAim.{row_differs_lem}
use Rattle.aim.proofs.source.Aim.row_differs.Goals as goal

pub returns : goal.returns
returns c =
    let a = c.args.self.now in
    let row = a.device.row in
    let holds = λ (j : ℕ). differs (wanted a.device a.image.now a.reading.now) (known a.reading.now) (c.args.k * row + j) in
    some_found row holds _
    (cases_from_any _ _ _ (λ j. holds j ≡ true) (λ j. holds j ≡ false) c.any.ensures.ran (YieldsList-from_range 0 row row (cc) (omega arith)) (λ j q e. search rules) (λ j q e. search rules))
    ∙ row_differs_lem (chip_of a.device) _ _ _
