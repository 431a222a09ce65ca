-- Laws of one line of HEX text: its bytes, and its judgement part by part.
use Rattle.std.specs.Prelude.{ℕ, ◌+◌, ◌*◌, ◌%◌, ◌≤◌, ◌<◌, ◌≡◌, Bool, ◌&&◌, ◌||◌, not, List, [], ◌∷◌, length, get_or}
use Rattle.std.proofs.Math.Numerals.{add-one}
use Rattle.std.proofs.Math.Decide.{dec_lt}
use native.Mathlib.Omega.{arith}
use Rattle.std.proofs.Math.Path.{refl, sym}
use Rattle.std.proofs.Common.{◌∙◌}
use Rattle.std.proofs.Math.Bool.{true, false}
use Rattle.std.proofs.Math.Dec.{ltb, eqb}
use borrow.Author.Tests.{lt-ltb, le-ltb, eq-eqb, ne_eqb}
use Rattle.words.specs.Choice.{pick}
use Rattle.words.specs.Lists.{every}
use Rattle.numerals.specs.Hex.{digit_of, byte_by, joined}
use Rattle.words.specs.LawsChoice.{pick_true, pick_false, first_fails, second_fails}
use Rattle.numerals.specs.LawsHex.{joined_both, joined_no_high, joined_no_low}
use Rattle.words.specs.LawsLists.{every_more, every_no}
use Rattle.hexread.specs.Line.{byte_at, count_of, offset_of, type_of, is_record, bytes_to, sum_ok, type_ok, shape_ok, data_ok, line_number}

-- ---- bytes

pub joined_most : (high low : ℕ) → joined 16 high low ≤ 256
joined_most high low = by (dec_lt high 16) (dec_lt low 16)
  where
    by : Dec (high < 16) → Dec (low < 16) → joined 16 high low ≤ 256
    by (yes p) (yes q) = rw (joined_both 16 high low p q) (omega arith)
    by (yes p) (no q) = rw (joined_no_low 16 high low (omega arith)) (omega arith)
    by (no p) q = rw (joined_no_high 16 high low (omega arith)) (omega arith)

pub byte_most : (line : List ℕ) (j : ℕ) → byte_at line j ≤ 256
unfolding byte_at byte_by
byte_most line j = joined_most (digit_of (get_or line (1 + 2 * j) 0)) (digit_of (get_or line (1 + 2 * j + 1) 0))

-- a byte as the code reads it
pub record ByteRead (line : List ℕ) (j r : ℕ) : Type 0 where
  pub value : r ≡ byte_at line j
  pub most : r ≤ 256

pub record OffsetRead (line : List ℕ) (r : ℕ) : Type 0 where
  pub value : r ≡ offset_of line
  pub most : r ≤ 65792

-- ---- all bytes and their sum

-- the first n bytes added up mod 256; 256 if one of them is not two digits
unfoldable pub sum_read : ℕ → List ℕ → ℕ
sum_read n line = pick (every n (λ j. ltb (byte_at line j) 256)) (bytes_to n line % 256) 256

-- j bytes are added up
pub record Summed (line : List ℕ) (n j sum : ℕ) : Type 0 where
  pub within : j ≤ n
  pub digits : every j (λ k. ltb (byte_at line k) 256) ≡ true
  pub value : sum ≡ bytes_to j line
  pub most : sum ≤ 255 * j

module _ (line : List ℕ) (n : ℕ) where
  pub summed_none : Summed line n 0 0
  unfolding every bytes_to
  summed_none = record { within = omega arith; digits = refl; value = refl; most = omega arith }

  module _ (j sum b : ℕ) (s : Summed line n j sum) (here : j < n) (e : ByteRead line j b) where
    pub summed_more : b < 256 → Summed line n (j + 1) (sum + b)
    unfolding bytes_to
    summed_more h =
        record {
          within = omega arith;
          digits = every_more j (λ k. ltb (byte_at line k) 256) s.digits (lt-ltb (byte_at line j) 256 (rw (← e.value) h));
          value = rw add-one (rw (s.value, e.value));
          most = omega arith;
        }

    pub summed_bad : 256 ≤ b → 256 ≡ sum_read n line
    unfolding sum_read
    summed_bad h =
        sym (pick_false _ _ _ (every_no n (λ k. ltb (byte_at line k) 256) j here (le-ltb (byte_at line j) 256 (rw (← e.value) h))))

  pub summed_all : (j sum : ℕ) → Summed line n j sum → n ≤ j → sum % 256 ≡ sum_read n line
  unfolding sum_read
  summed_all j sum s h =
      let all : j ≡ n = omega arith in
      rw (s.value, all) (sym (pick_true _ _ _ (rw all at s.digits)))

-- ---- type, address and count

-- the first of 4, 5, 6 that holds of these numbers
unfoldable pub kind_number : (kind offset count : ℕ) → ℕ
kind_number kind offset count =
    pick (eqb kind 0 || eqb kind 1 || eqb kind 4)
    (pick (eqb kind 0 || (eqb offset 0 && ((eqb kind 1 && eqb count 0) || (eqb kind 4 && eqb count 2))))
    (pick (not (eqb kind 0) || (eqb (offset % 2) 0 && eqb (count % 2) 0)) 0
    6) 5) 4

-- an end record with bytes
pub end_count : (kind offset count : ℕ) → kind ≡ 1 → offset ≡ 0 → (count ≡ 0 → ⊥) → 5 ≡ kind_number kind offset count
unfolding kind_number pick
end_count kind offset count k o n = rw (k, o, ne_eqb count 0 n)

-- ---- the judgement

module _ (line : List ℕ) where
  not_record : is_record line ≡ false → 2 ≡ line_number line
  unfolding line_number
  not_record f = sym (pick_false (is_record line) _ 2 f)

  pub no_colon : (get_or line 0 0 ≡ 0x3a → ⊥) → 2 ≡ line_number line
  no_colon h = not_record (unfold is_record in rw (ne_eqb (get_or line 0 0) 0x3a h))

  pub no_line : length line ≡ 0 → 2 ≡ line_number line
  no_line h = no_colon (λ e. absurd (by line h e))
    where
      by : (l : List ℕ) → length l ≡ 0 → get_or l 0 0 ≡ 0x3a → ⊥
      by [] q e = omega arith
      by (c ∷ l) q e = omega arith

  module _ (count : ℕ) (c : ByteRead line 0 count) where
    count_is : count ≡ count_of line
    count_is = unfold count_of in c.value

    pub no_count : 256 ≤ count → 2 ≡ line_number line
    no_count h =
        not_record (unfold is_record in rw (← count_is, le-ltb count 256 h)
        (first_fails ((eqb (get_or line 0 0) 0x3a && false) && eqb (length line) (1 + 2 * (count + 5))) (every (count + 5) (λ j. ltb (byte_at line j) 256))
        (first_fails (eqb (get_or line 0 0) 0x3a && false) (eqb (length line) (1 + 2 * (count + 5)))
        (second_fails (eqb (get_or line 0 0) 0x3a) false refl))))

    pub wrong_length : (length line ≡ 1 + 2 * (count + 5) → ⊥) → 2 ≡ line_number line
    wrong_length h =
        not_record (unfold is_record in rw (← count_is, ne_eqb (length line) (1 + 2 * (count + 5)) h)
        (first_fails ((eqb (get_or line 0 0) 0x3a && ltb count 256) && false) (every (count + 5) (λ j. ltb (byte_at line j) 256))
        (second_fails (eqb (get_or line 0 0) 0x3a && ltb count 256) false refl)))

    module _ (colon : get_or line 0 0 ≡ 0x3a) (low : count < 256) (long : length line ≡ 1 + 2 * (count + 5)) (sum : ℕ) (s : sum ≡ sum_read (count + 5) line) where
      record_is : is_record line ≡ every (count + 5) (λ j. ltb (byte_at line j) 256)
      record_is = unfold is_record in rw (← count_is, eq-eqb (get_or line 0 0) 0x3a colon, lt-ltb count 256 low, eq-eqb (length line) (1 + 2 * (count + 5)) long)

      digits_of : (t : Bool) → sum ≡ pick t (bytes_to (count + 5) line % 256) 256 → sum < 256 → (t ≡ true) × (sum ≡ bytes_to (count + 5) line % 256)
      unfolding pick
      digits_of true e h = (refl, e)
      digits_of false e h = absurd (omega arith)

      no_digits_of : (t : Bool) → sum ≡ pick t (bytes_to (count + 5) line % 256) 256 → 256 ≤ sum → t ≡ false
      unfolding pick
      no_digits_of true e h = absurd (omega arith)
      no_digits_of false e h = refl

      opened : sum ≡ pick (every (count + 5) (λ j. ltb (byte_at line j) 256)) (bytes_to (count + 5) line % 256) 256
      opened = unfold sum_read in s

      pub no_digits : 256 ≤ sum → 2 ≡ line_number line
      no_digits h = not_record (record_is ∙ no_digits_of _ opened h)

      module _ (h : sum < 256) where
        is_record_lem : is_record line ≡ true
        is_record_lem = record_is ∙ (digits_of _ opened h).0

        sum_is : sum_ok line ≡ eqb sum 0
        sum_is = unfold sum_ok in rw (← count_is, ← (digits_of _ opened h).1)

        pub wrong_sum : (sum ≡ 0 → ⊥) → 3 ≡ line_number line
        unfolding line_number pick
        wrong_sum n = rw (is_record_lem, sum_is, ne_eqb sum 0 n)

        pub right_sum : sum ≡ 0 → (kind offset r : ℕ) → ByteRead line 3 kind → OffsetRead line offset → r ≡ kind_number kind offset count → r ≡ line_number line
        unfolding line_number pick kind_number type_ok shape_ok data_ok type_of
        right_sum n kind offset r k o e = rw (is_record_lem, sum_is, eq-eqb sum 0 n, ← k.value, ← o.value, ← count_is) e
