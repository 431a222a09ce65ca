-- How tight a promise is: two results that are both equal to what a definition gives are equal to each other.
use Rattle.std.specs.Prelude.{◌≡◌}
use Rattle.std.proofs.Common.{sym, ◌∙◌}

pub determined : {A : Type 0} {what r s : A} → r ≡ what → s ≡ what → r ≡ s
determined p q = p ∙ sym q
