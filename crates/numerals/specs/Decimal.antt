-- Decimal numbers without a leading zero ('The device table').
use Rattle.std.specs.Prelude.{ℕ, ◌+◌, ◌-◌, ◌*◌, Bool, true, ◌&&◌, not, List, [], ◌∷◌, ltb, leb, eqb, length, get_or}
use Rattle.words.specs.Choice.{pick}
use Rattle.numerals.specs.Hex.{within}

-- every character is a digit 0-9
unfoldable pub all_digits : List ℕ → Bool
all_digits [] = true
all_digits (c ∷ l) = within 0x30 0x39 c && all_digits l

-- the value of digits that stand after the value `before`
unfoldable pub value_after : ℕ → List ℕ → ℕ
value_after before [] = before
value_after before (c ∷ l) = value_after (10 * before + (c - 0x30)) l

-- the value of a text of digits
unfoldable pub value_of : List ℕ → ℕ
value_of l = value_after 0 l

-- more digits after a first 0
unfoldable pub leading_zero : List ℕ → Bool
leading_zero l = eqb (get_or l 0 0) 0x30 && ltb 1 (length l)

-- at least one digit, digits alone, and no leading zero
unfoldable pub is_decimal : List ℕ → Bool
is_decimal l = ltb 0 (length l) && not (leading_zero l) && all_digits l

-- the number that a text gives, if it is a decimal up to the bound; bound + 1 if not
unfoldable pub decimal_of : (bound : ℕ) → List ℕ → ℕ
decimal_of bound l = pick (is_decimal l && leb (value_of l) bound) (value_of l) (bound + 1)
