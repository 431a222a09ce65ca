-- Laws of printing: a text stored where the one before it ends, and decimal numbers digit by digit.
use Rattle.std.specs.Prelude.{ℕ, zero, suc, ◌+◌, ◌*◌, ◌/◌, ◌%◌, ◌≤◌, ◌<◌, ◌≡◌, refl, Bool, true, List, [], ◌∷◌, ◌++◌, ltb, length, get_or, set, drop}
use Rattle.std.proofs.Common.{zero-add, add-one, sym, ap, ◌∙◌, drop_of_length-le, drop-cons, lt-ltb, le-ltb}
use native.Mathlib.Omega.{arith}
use Rattle.std.proofs.Math.Bool.{false}
use Rattle.std.proofs.Math.ListN.{length-append}
use Rattle.std.proofs.lemmas.List.Edits.{sets}
use Rattle.words.specs.Choice.{pick}
use Rattle.numerals.specs.Hex.{word_text}
use Rattle.words.specs.LawsChoice.{pick_true, pick_false}
use Rattle.numerals.specs.LawsHex.{length_word_text}
use Rattle.words.specs.LawsLists.{sets_append}
use Rattle.print.specs.Print.{digits, decimal_text, Prints}

-- a text stored from a place on, as far as there is room, and where it ends
pub record Wrote (at : ℕ) (text out : List ℕ) (r : ℕ) (out' : List ℕ) : Type 0 where
  pub end : r ≡ at + length text
  pub bytes : out' ≡ sets out at text

-- ---- texts one after another

module _ (at : ℕ) (out : List ℕ) where
  pub wrote_then : (x y : List ℕ) (r s : ℕ) (out' out'' : List ℕ) → Wrote at x out r out' → Wrote r y out' s out'' → Wrote at (x ++ y) out s out''
  wrote_then x y r s out' out'' p q =
      record {
        end = let a : r ≡ at + length x = p.end in let b : s ≡ r + length y = q.end in rw length-append (omega arith);
        bytes = q.bytes ∙ (rw (p.end, p.bytes) (sets_append out at x y));
      }

  pub wrote_as : (x y : List ℕ) (r : ℕ) (out' : List ℕ) → x ≡ y → Wrote at x out r out' → Wrote at y out r out'
  wrote_as x y r out' e p = rw e at p

  pub wrote_word : (word : ℕ) (out' : List ℕ) → out' ≡ sets out at (word_text word) → Wrote at (word_text word) out (at + 4) out'
  wrote_word word out' e = record { end = rw length_word_text; bytes = e }

pub prints : (text out : List ℕ) (r : ℕ) (out' : List ℕ) → Wrote 0 text out r out' → Prints text out r out'
prints text out r out' p = record { count = p.end ∙ zero-add (length text); stored = p.bytes }

-- a text printed is a part from the start on
pub part : (text out : List ℕ) (r : ℕ) (out' : List ℕ) → Prints text out r out' → Wrote 0 text out r out'
part text out r out' p = record { end = p.count ∙ sym (zero-add (length text)); bytes = p.stored }

pub prints_as : (x y out : List ℕ) (r : ℕ) (out' : List ℕ) → x ≡ y → Prints x out r out' → Prints y out r out'
prints_as x y out r out' e p = rw e at p

-- a text whose length is bounded is printed with that bound
pub printed : {text out : List ℕ} {r : ℕ} {out' : List ℕ} (most : ℕ) → length text ≤ most → Prints text out r out' → (Prints text out r out') × (r ≤ most)
printed {text} {out} {r} {out'} most short p = (p, let e : r ≡ length text = p.count in omega arith)

-- ---- decimal numbers

-- ten to the power of k and one more
limit : ℕ → ℕ
limit zero = 10
limit (suc k) = 10 * limit k

-- a digit more makes no difference to a number that has no more digits
digits_enough : (k n : ℕ) → n < limit k → digits (suc k) n ≡ digits (suc (suc k)) n
unfolding digits limit
digits_enough zero n h = rw (lt-ltb n 10 h) (unfold pick in refl)
digits_enough (suc k) n h =
    ap (λ x. pick (ltb n 10) ((0x30 + n) ∷ []) (x ++ ((0x30 + n % 10) ∷ []))) (digits_enough k (n / 10) (omega arith))

pub decimal_low : (n : ℕ) → n < 10 → decimal_text n ≡ (0x30 + n) ∷ []
unfolding decimal_text digits
decimal_low n h = pick_true (ltb n 10) _ _ (lt-ltb n 10 h)

digits_more : (k n : ℕ) → 10 ≤ n → digits (suc k) n ≡ digits k (n / 10) ++ ((0x30 + n % 10) ∷ [])
unfolding digits
digits_more k n h = pick_false (ltb n 10) _ _ (le-ltb n 10 h)

nine_digits : (n : ℕ) → n < 1000000000 → n < limit 8
unfolding limit
nine_digits n h = h

pub decimal_more : (n : ℕ) → 10 ≤ n → n < 4294967296 → decimal_text n ≡ decimal_text (n / 10) ++ ((0x30 + n % 10) ∷ [])
unfolding decimal_text
decimal_more n h small =
    digits_more 9 n h ∙ ap (λ x. x ++ ((0x30 + n % 10) ∷ [])) (digits_enough 8 (n / 10) (nine_digits (n / 10) (omega arith)))

length_digits : (k n : ℕ) → length (digits k n) ≤ k
unfolding digits
length_digits zero n = omega arith
length_digits (suc k) n = by (ltb n 10) (length_digits k (n / 10))
  where
    by : (t : Bool) → length (digits k (n / 10)) ≤ k → length (pick t ((0x30 + n) ∷ []) (digits k (n / 10) ++ ((0x30 + n % 10) ∷ []))) ≤ suc k
    by true rest = unfold pick in omega arith
    by false rest = unfold pick in rw length-append (omega arith)

pub length_decimal : (n : ℕ) → length (decimal_text n) ≤ 10
unfolding decimal_text
length_decimal n = length_digits 10 n

module _ (at n : ℕ) (out : List ℕ) where
  pub decimal_wrote_low : n < 10 → (r : ℕ) (out' : List ℕ) → Wrote at ((0x30 + n) ∷ []) out r out' → Wrote at (decimal_text n) out r out'
  decimal_wrote_low h r out' p = wrote_as at out ((0x30 + n) ∷ []) (decimal_text n) r out' (sym (decimal_low n h)) p

  pub decimal_wrote_more : 10 ≤ n → n < 4294967296 → (r s : ℕ) (out' out'' : List ℕ)
      → Wrote at (decimal_text (n / 10)) out r out' → Wrote r ((0x30 + n % 10) ∷ []) out' s out'' → Wrote at (decimal_text n) out s out''
  decimal_wrote_more h small r s out' out'' p q =
      wrote_as at out (decimal_text (n / 10) ++ ((0x30 + n % 10) ∷ [])) (decimal_text n) s out'' (sym (decimal_more n h small))
      (wrote_then at out (decimal_text (n / 10)) ((0x30 + n % 10) ∷ []) r s out' out'' p q)

-- where a printed number ends
pub decimal_end : (at n : ℕ) (out : List ℕ) (r : ℕ) (out' : List ℕ) → Wrote at (decimal_text n) out r out' → r ≤ at + 10
decimal_end at n out r out' p = let l : length (decimal_text n) ≤ 10 = length_decimal n in let e : r ≡ at + length (decimal_text n) = p.end in omega arith

pub number_end : (at n mark : ℕ) (out : List ℕ) (r : ℕ) (out' : List ℕ) → Wrote at (decimal_text n ++ mark ∷ []) out r out' → r ≤ at + 11
number_end at n mark out r out' p =
    let l : length (decimal_text n) ≤ 10 = length_decimal n in
    let e : r ≡ at + (length (decimal_text n) + 1) = p.end ∙ ap (λ x. at + x) (length-append (decimal_text n) (mark ∷ [])) in
    omega arith

pub hex_end : (at word mark : ℕ) (out : List ℕ) (r : ℕ) (out' : List ℕ) → Wrote at (word_text word ++ mark ∷ []) out r out' → r ≡ at + 5
hex_end at word mark out r out' p = p.end ∙ ap (λ x. at + x) (length-append (word_text word) (mark ∷ []) ∙ ap (λ x. x + 1) (length_word_text word))

-- ---- a text byte by byte

pub text_turn : (text o p : List ℕ) (i : ℕ) → i < length text → p ≡ set o i (get_or text i 0) → sets o i (drop i text) ≡ sets p (i + 1) (drop (i + 1) text)
text_turn text o p i h e = ap (sets o i) (drop-cons text i 0 h) ∙ (rw (e, add-one))

pub text_done : (text out₀ out : List ℕ) (i : ℕ) → i ≤ length text → length text ≤ i → sets out₀ 0 text ≡ sets out i (drop i text) → Prints text out₀ i out
text_done text out₀ out i p q e = record { count = omega arith; stored = sym (e ∙ ap (sets out i) (drop_of_length-le text q)) }

-- ---- how tight the promise is

pub prints_determined : {text out : List ℕ} {r s : ℕ} {a b : List ℕ} → Prints text out r a → Prints text out s b → (r ≡ s) × (a ≡ b)
prints_determined p q = (p.count ∙ sym q.count, p.stored ∙ sym q.stored)
