-- Each place below c has the value of its character.
use Rattle.std.proofs.Common.{◌≡◌, ℕ, ◌<◌, get_or}
use Rattle.numerals.specs.Hex.{digit_of}
use Rattle.numerals.proofs.hex.digits.Given as goal

abbrev pub invariant-loop-c : goal.invariant-loop-c
invariant-loop-c l = (k : ℕ) → k < l.c → get_or l.value-items k 0 ≡ digit_of k
