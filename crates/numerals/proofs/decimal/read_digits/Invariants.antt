-- What is left to read, digit by digit.
use Rattle.std.proofs.Common.{◌≡◌, ◌≤◌, drop}
use Rattle.numerals.specs.LawsDecimal.{left_of}
use Rattle.numerals.proofs.decimal.read_digits.Given as goal

abbrev pub invariant-loop-c : goal.invariant-loop-c
invariant-loop-c l = (l.value ≤ l.bound) × (left_of l.bound 0 l.s ≡ left_of l.bound l.value (drop l.c-index l.s))
