-- Laws of decimal numbers: what is left to read of one, digit by digit.
use Rattle.std.specs.Prelude.{ℕ, suc, ◌+◌, ◌-◌, ◌*◌, ◌≤◌, ◌<◌, ◌≡◌, Bool, true, ◌&&◌, List, [], ◌∷◌, None, ltb, eqb, length, get_or}
use native.Mathlib.Nat.{le_refl, le_trans}
use Rattle.std.proofs.Math.Numerals.{add-one}
use Rattle.std.proofs.Common.{arith, sym, ◌∙◌, drop_of_length-le, drop-cons}
use Rattle.std.proofs.Math.Path.{refl, ap}
use Rattle.std.proofs.Math.Bool.{false}
use Rattle.std.proofs.Math.Dec.{leb}
use Rattle.std.proofs.Math.ListN.{drop}
use borrow.Author.Tests.{lt-ltb, le-ltb, le-leb, lt-leb, eq-eqb, ne_eqb}
use Rattle.words.specs.Choice.{pick, below}
use Rattle.words.specs.LawsChoice.{pick_true, pick_false, both, second_fails, first_holds}
use Rattle.numerals.specs.LawsHex.{within_yes, within_no, below_no}
use Rattle.numerals.specs.Decimal.{all_digits, value_after, value_of, leading_zero, is_decimal, decimal_of}

-- the answer when `before` has been read and l is left
unfoldable pub left_of : (bound before : ℕ) → List ℕ → ℕ
left_of bound before l = pick (all_digits l && leb (value_after before l) bound) (value_after before l) (bound + 1)

-- ---- the tests before the first digit

pub decimal_empty : (bound : ℕ) (l : List ℕ) → length l ≡ 0 → decimal_of bound l ≡ bound + 1
unfolding decimal_of is_decimal pick
decimal_empty bound l h = rw (le-ltb 0 (length l) (omega arith))

pub decimal_leading : (bound : ℕ) (l : List ℕ) → get_or l 0 0 ≡ 0x30 → 1 < length l → decimal_of bound l ≡ bound + 1
unfolding decimal_of is_decimal leading_zero pick
decimal_leading bound l z h = rw (eq-eqb (get_or l 0 0) 0x30 z, lt-ltb 1 (length l) h, lt-ltb 0 (length l) (omega arith))

pub decimal_other : (bound : ℕ) (l : List ℕ) → 0 < length l → (get_or l 0 0 ≡ 0x30 → ⊥) → decimal_of bound l ≡ left_of bound 0 l
unfolding decimal_of is_decimal leading_zero left_of value_of
decimal_other bound l h z = rw (lt-ltb 0 (length l) h, ne_eqb (get_or l 0 0) 0x30 z)

pub decimal_single : (bound : ℕ) (l : List ℕ) → 0 < length l → length l ≤ 1 → decimal_of bound l ≡ left_of bound 0 l
unfolding decimal_of is_decimal leading_zero left_of value_of
decimal_single bound l h s = rw (lt-ltb 0 (length l) h, second_fails (eqb (get_or l 0 0) 0x30) (ltb 1 (length l)) (le-ltb 1 (length l) s))

-- what the calls answer
module _ (bound : ℕ) (l : List ℕ) where
  pub told_empty : length l ≡ 0 → below (bound + 1) (decimal_of bound l) ≡ None
  told_empty h = sym (below_no (bound + 1) _ (decimal_empty bound l h))

  pub told_leading : get_or l 0 0 ≡ 0x30 → 1 < length l → below (bound + 1) (decimal_of bound l) ≡ None
  told_leading z h = sym (below_no (bound + 1) _ (decimal_leading bound l z h))

  pub told_other : 0 < length l → (get_or l 0 0 ≡ 0x30 → ⊥) → below (bound + 1) (decimal_of bound l) ≡ below (bound + 1) (left_of bound 0 l)
  told_other h z = ap (below (bound + 1)) (decimal_other bound l h z)

  pub told_single : 0 < length l → length l ≤ 1 → below (bound + 1) (decimal_of bound l) ≡ below (bound + 1) (left_of bound 0 l)
  told_single h s = ap (below (bound + 1)) (decimal_single bound l h s)

pub ruleset decimal_told = (told_empty, told_leading, told_other, told_single)

-- ---- digit by digit

-- more digits never make a number smaller
pub value_grows : (before : ℕ) (l : List ℕ) → before ≤ value_after before l
unfolding value_after
value_grows before [] = le_refl before
value_grows before (c ∷ l) = le_trans (omega arith) (value_grows (10 * before + (c - 0x30)) l)

module _ (bound before : ℕ) (l : List ℕ) (i : ℕ) where
  pub left_end : length l ≤ i → before ≤ bound → left_of bound before (drop i l) ≡ before
  unfolding left_of all_digits value_after pick
  left_end h p = rw (drop_of_length-le l h, le-leb before bound p)

  pub left_on : (next : ℕ) → i < length l → 0x30 ≤ get_or l i 0 → get_or l i 0 ≤ 0x39 → next ≡ 10 * before + (get_or l i 0 - 0x30) → left_of bound before (drop i l) ≡ left_of bound next (drop (i + 1) l)
  unfolding left_of all_digits value_after
  left_on next h p q e = rw (drop-cons l i 0 h, within_yes 0x30 0x39 (get_or l i 0) p q, add-one i, e)

  pub left_none : i < length l → (0x30 ≤ get_or l i 0 → 0x39 < get_or l i 0) → left_of bound before (drop i l) ≡ bound + 1
  unfolding left_of all_digits pick
  left_none h p = rw (drop-cons l i 0 h, within_no 0x30 0x39 (get_or l i 0) p)

  pub left_over : i < length l → bound < 10 * before + (get_or l i 0 - 0x30) → left_of bound before (drop i l) ≡ bound + 1
  unfolding left_of
  left_over h p = pick_false _ _ _ (second_fails (all_digits (drop i l)) (leb (value_after before (drop i l)) bound) (lt-leb (value_after before (drop i l)) bound large))
    where
      opened : value_after before (drop i l) ≡ value_after (10 * before + (get_or l i 0 - 0x30)) (drop (suc i) l)
      opened = ap (value_after before) (drop-cons l i 0 h) ∙ step
        where
          step : value_after before (get_or l i 0 ∷ drop (suc i) l) ≡ value_after (10 * before + (get_or l i 0 - 0x30)) (drop (suc i) l)
          step = unfold value_after in refl

      grown : 10 * before + (get_or l i 0 - 0x30) ≤ value_after (10 * before + (get_or l i 0 - 0x30)) (drop (suc i) l)
      grown = value_grows (10 * before + (get_or l i 0 - 0x30)) (drop (suc i) l)

      large : bound < value_after before (drop i l)
      large = rw opened (native.Mathlib.Nat.lt_of_lt_of_le p grown)

-- ---- what an answer tells

-- an answer up to the bound is the value of a decimal text
pub decimal_read : (bound : ℕ) (l : List ℕ) → decimal_of bound l ≤ bound → (is_decimal l ≡ true) × (decimal_of bound l ≡ value_of l)
decimal_read bound l h = by (is_decimal l && leb (value_of l) bound) refl
  where
    by : (t : Bool) → (is_decimal l && leb (value_of l) bound) ≡ t → (is_decimal l ≡ true) × (decimal_of bound l ≡ value_of l)
    by true e = (first_holds (is_decimal l) (leb (value_of l) bound) e, (unfold decimal_of in pick_true (is_decimal l && leb (value_of l) bound) (value_of l) (bound + 1) e))
    by false e =
        let none : decimal_of bound l ≡ bound + 1 = (unfold decimal_of in pick_false (is_decimal l && leb (value_of l) bound) (value_of l) (bound + 1) e) in
        absurd (omega arith)

-- a decimal text up to the bound is read as its value
pub decimal_value : (bound : ℕ) (l : List ℕ) → is_decimal l ≡ true → value_of l ≤ bound → decimal_of bound l ≡ value_of l
unfolding decimal_of
decimal_value bound l d h = pick_true (is_decimal l && leb (value_of l) bound) (value_of l) (bound + 1) (both (is_decimal l) (leb (value_of l) bound) d (le-leb (value_of l) bound h))
