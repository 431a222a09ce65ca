-- Laws of the bits of several numbers together: they are a word's exactly when each number is a word.
use Rattle.std.specs.Prelude.{ℕ, ◌+◌, ◌≤◌, ◌<◌, ◌≡◌, List, ltb, length, get_or}
use Rattle.std.proofs.Common.{le_trans, lt_of_le_of_lt, not-suc-le-zero, arith, sym, ◌∙◌, below_more, lt-ltb, le-ltb}
use Rattle.std.specs.Int.Bits.{bit_or, bit_and, or_add_and}
use Rattle.std.proofs.lemmas.Nat.{or_lt, and_le_l, and_le_r}
use Rattle.words.specs.Word.{words_of}
use Rattle.words.specs.LawsTests.{by_lt, fails}
use Rattle.words.specs.LawsWord.{words_of_lem, words_each}

-- `all` is no less than any of the first n numbers, and is a word if each of them is
pub record Joined (n : ℕ) (f : ℕ → ℕ) (all : ℕ) : Type 0 where
  pub under : (k : ℕ) → k < n → f k ≤ all
  pub fits : ((k : ℕ) → k < n → f k < 0x4000) → all < 0x4000

pub joined_none : (f : ℕ → ℕ) → Joined 0 f 0
joined_none f = record { under = λ k h. absurd (not-suc-le-zero h); fits = λ h. omega arith }

or_left : (a b : ℕ) → a ≤ bit_or a b
or_left a b =
    let whole : bit_or a b + bit_and a b ≡ a + b = or_add_and a b in
    let part : bit_and a b ≤ b = and_le_r a b in
    omega arith

or_right : (a b : ℕ) → b ≤ bit_or a b
or_right a b =
    let whole : bit_or a b + bit_and a b ≡ a + b = or_add_and a b in
    let part : bit_and a b ≤ a = and_le_l a b in
    omega arith

-- where no bit stands in either, both are 0
pub or_none : (a b : ℕ) → bit_or a b ≡ 0 → (a ≡ 0) × (b ≡ 0)
or_none a b e = (omega (arith, or_left a b), omega (arith, or_right a b))

module _ (n : ℕ) (f : ℕ → ℕ) (all : ℕ) (j : Joined n f all) where
  pub joined_more : (x : ℕ) → x ≡ f n → Joined (n + 1) f (bit_or all x)
  joined_more x e =
      record {
        under = below_more (λ k. f k ≤ bit_or all x) n (λ k h. le_trans (j.under k h) (or_left all x)) (rw (← e) (or_right all x));
        fits = λ h. or_lt 14 all x (j.fits (λ k p. h k (omega arith))) (rw e (h n (omega arith)));
      }

pub joined_end : (i n : ℕ) (f : ℕ → ℕ) (all : ℕ) → Joined i f all → i ≡ n → Joined n f all
joined_end i n f all j e = rw e at j

-- the test of the joined bits is the test of each entry
pub joined_words : (n : ℕ) (l : List ℕ) (all : ℕ) → length l ≡ n → Joined (length l) (λ k. get_or l k 0) all → ltb all 0x4000 ≡ words_of n l
joined_words n l all e j =
    by_lt all 0x4000
    (λ h. lt-ltb all 0x4000 h ∙ sym (words_of_lem n l e (λ k p. lt_of_le_of_lt (j.under k (omega arith)) h)))
    (λ h. le-ltb all 0x4000 h ∙ sym (fails (words_of n l) (λ t. let f : all < 0x4000 = j.fits (λ k p. words_each n l t k) in omega arith)))
