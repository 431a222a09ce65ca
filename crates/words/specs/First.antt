-- The first place at which a test holds, by definition.
use Rattle.std.specs.Prelude.{ℕ, zero, suc, Bool, ltb}
use Rattle.words.specs.Choice.{pick}

-- the first of 0 to n-1 at which the test holds; n if there is none
unfoldable pub first_to : ℕ → (ℕ → Bool) → ℕ
first_to zero f = zero
first_to (suc n) f = pick (ltb (first_to n f) n) (first_to n f) (pick (f n) n (suc n))
