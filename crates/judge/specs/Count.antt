-- Counting, by definition.
use Rattle.std.specs.Prelude.{ℕ, zero, suc, ◌+◌, Bool}
use Rattle.words.specs.Choice.{pick}

-- at how many of 0 to n-1 the test holds
unfoldable pub count_to : ℕ → (ℕ → Bool) → ℕ
count_to zero f = 0
count_to (suc n) f = count_to n f + pick (f n) 1 0
