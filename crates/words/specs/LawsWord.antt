-- Laws of 14-bit words, stated over the width where it has no say: AND, containment, and words between an old and a new one.
use Rattle.std.specs.Prelude.{ℕ, zero, suc, ◌+◌, ◌*◌, ◌/◌, ◌%◌, ◌^◌, ◌≤◌, ◌<◌, min, ◌≡◌, refl, true, false, List, eqb}
use native.Mathlib.Nat.{mod-eq_of_lt, div-one, div-div-eq-div-mul, div-eq_of_lt, pow-succ', min-le_left, zero-div, zero-mod, div-lt_iff_lt-mul}
use Rattle.std.proofs.Common.{arith, sym, ap, ◌∙◌, inr, ⊎_elim}
use lib.Pow.{pow_pos, shr-shr}
use Rattle.std.specs.Int.Bits.{bit_and, and_step}
use Rattle.std.proofs.lemmas.Nat.{and_comm, and_mask, and_shr}
use borrow.Author.Tests.{ltb-true, lt-ltb, le-ltb, eqb-true, eq-eqb, ne_eqb}
use Rattle.std.proofs.Math.ListN.{length, get_or}
use Rattle.std.proofs.Math.Decide.{dec_lt}
use Rattle.words.specs.Lists.{every}
use Rattle.words.specs.LawsChoice.{both, first_holds, second_holds, first_fails}
use Rattle.words.specs.LawsLists.{every_at, every_all, get_d_past}
use Rattle.words.specs.Word.{erased, is_word, bit, Between, words_of}

-- ---- what 14 bits hold

pub is_word_lem : (w : ℕ) → w < 0x4000 → is_word w ≡ true
unfolding is_word
is_word_lem w h = lt-ltb w 0x4000 h

pub not_word : (w : ℕ) → 0x4000 ≤ w → is_word w ≡ false
unfolding is_word
not_word w h = le-ltb w 0x4000 h

pub word_lt : (w : ℕ) → is_word w ≡ true → w < 0x4000
unfolding is_word
word_lt w e = ltb-true w 0x4000 e

-- ---- AND

-- an erased word takes what is written over it
pub and_erased : (x : ℕ) → x < 0x4000 → bit_and erased x ≡ x
and_erased x h = and_comm erased x ∙ (and_mask x 14 ∙ mod-eq_of_lt h)

-- ---- single bits

pub bit_zero : (w : ℕ) → bit w 0 ≡ w % 2
unfolding bit
bit_zero w = rw div-one

pub bit_suc : (w i : ℕ) → bit w (suc i) ≡ bit (w / 2) i
unfolding bit
bit_suc w i = ap (λ n. n % 2) (ap (λ n. w / n) (pow-succ' 2 i) ∙ sym (div-div-eq-div-mul w 2 (2 ^ i)))

pub bit_of_zero : (i : ℕ) → bit 0 i ≡ 0
unfolding bit
bit_of_zero i = rw (zero-div, zero-mod)

-- a number of k bits has no bit at k or above
pub bit_high : (k w i : ℕ) → w < 2 ^ k → k ≤ i → bit w i ≡ 0
unfolding bit
bit_high k w i h p =
    let wide : w < 2 ^ i = native.Mathlib.Nat.lt_of_lt_of_le h (lib.Pow.pow_mono p) in
    rw (div-eq_of_lt wide)

pub bit_and_lem : (a b i : ℕ) → bit (bit_and a b) i ≡ min (bit a i) (bit b i)
unfolding bit
bit_and_lem a b i = rw (and_shr a b i) (low (a / 2 ^ i) (b / 2 ^ i))
  where
    low : (x y : ℕ) → bit_and x y % 2 ≡ min (x % 2) (y % 2)
    low x y =
        let m : ℕ = min (x % 2) (y % 2) in
        let small : m < 2 = native.Mathlib.Nat.lt_of_le_of_lt (min-le_left (x % 2) (y % 2)) (omega arith) in
        let whole : bit_and x y ≡ bit_and (x / 2) (y / 2) * 2 + m = and_step x y in
        omega arith

-- numbers with the same bits are the same number
same_below : (k a b : ℕ) → a < 2 ^ k → b < 2 ^ k → ((i : ℕ) → bit a i ≡ bit b i) → a ≡ b
same_below zero a b p q h =
    let a0 : a < 1 = p in
    let b0 : b < 1 = q in
    omega arith
same_below (suc k) a b p q h =
    let pa : a < 2 * 2 ^ k = rw pow-succ' at p in
    let pb : b < 2 * 2 ^ k = rw pow-succ' at q in
    let halves : a / 2 ≡ b / 2 = same_below k (a / 2) (b / 2) (omega arith) (omega arith) (λ i. sym (bit_suc a i) ∙ (h (suc i) ∙ bit_suc b i)) in
    let lows : a % 2 ≡ b % 2 = sym (bit_zero a) ∙ (h 0 ∙ bit_zero b) in
    omega arith

below_pow : (n : ℕ) → n < 2 ^ n
below_pow zero = omega arith
below_pow (suc n) =
    let ih : n < 2 ^ n = below_pow n in
    rw pow-succ' (omega arith)

pub same_bits : (a b : ℕ) → ((i : ℕ) → bit a i ≡ bit b i) → a ≡ b
same_bits a b h =
    same_below (a + b) a b
    (native.Mathlib.Nat.lt_of_lt_of_le (below_pow a) (lib.Pow.pow_mono (omega arith)))
    (native.Mathlib.Nat.lt_of_lt_of_le (below_pow b) (lib.Pow.pow_mono (omega arith))) h

-- a number with no bit at k or above has k bits
pub high_bits : (k w : ℕ) → ((i : ℕ) → k ≤ i → bit w i ≡ 0) → w < 2 ^ k
unfolding bit
high_bits k w h = rw one_mul_pow at ((div-lt_iff_lt-mul (pow_pos k)).0 one)
  where
    none : w / 2 ^ k ≡ 0
    none = same_bits (w / 2 ^ k) 0 (λ i. ap (λ n. n % 2) (shr-shr w k i) ∙ (h (k + i) (omega arith) ∙ sym (bit_of_zero i)))

    one : w / 2 ^ k < 1
    one = rw none (omega arith)

    one_mul_pow : 1 * 2 ^ k ≡ 2 ^ k
    one_mul_pow = native.Mathlib.Nat.one-mul (2 ^ k)

-- ---- containment

-- w has every bit that x has
unfoldable pub Contains : ℕ → ℕ → Type 0
Contains w x = bit_and w x ≡ x

pub contains_bits : (w x : ℕ) → Contains w x → (i : ℕ) → bit x i ≤ bit w i
unfolding Contains
contains_bits w x c i =
    let e : bit x i ≡ min (bit w i) (bit x i) = ap (λ n. bit n i) (sym c) ∙ bit_and_lem w x i in
    rw e (min-le_left (bit w i) (bit x i))

pub erased_contains : (x : ℕ) → x < 0x4000 → Contains erased x
unfolding Contains
erased_contains x h = and_erased x h

-- ---- between an old word and a new one

pub between_new : (old new : ℕ) → Between old new new
unfolding Between
between_new old new i = inr refl

-- a word that does not change cannot be torn
pub between_same : (x w : ℕ) → Between x x w → w ≡ x
unfolding Between
between_same x w b = same_bits w x (λ i. ⊎_elim (λ e. e) (λ e. e) (b i))

-- over the width: a torn word fits where both words fit
pub between_lt : (k old new w : ℕ) → old < 2 ^ k → new < 2 ^ k → Between old new w → w < 2 ^ k
unfolding Between
between_lt k old new w p q b =
    high_bits k w (λ i h. ⊎_elim (λ e. e ∙ bit_high k old i p h) (λ e. e ∙ bit_high k new i q h) (b i))

-- ---- bit 7

pub erased_bit_seven : bit erased 7 ≡ 1
unfolding bit
erased_bit_seven = refl

-- ---- lists of words

module _ (n : ℕ) (l : List ℕ) where
  pub words_long : words_of n l ≡ true → length l ≡ n
  unfolding words_of
  words_long e = eqb-true (length l) n (first_holds (eqb (length l) n) (every n (λ i. is_word (get_or l i 0))) e)

  pub words_each : words_of n l ≡ true → (i : ℕ) → get_or l i 0 < 0x4000
  unfolding words_of
  words_each e i = by (dec_lt i n)
    where
      by : Dec (i < n) → get_or l i 0 < 0x4000
      by (yes h) = word_lt (get_or l i 0) (every_at n (λ k. is_word (get_or l k 0)) (second_holds (eqb (length l) n) (every n (λ k. is_word (get_or l k 0))) e) i h)
      by (no h) =
          let long : length l ≡ n = eqb-true (length l) n (first_holds (eqb (length l) n) (every n (λ k. is_word (get_or l k 0))) e) in
          rw (get_d_past l i (omega arith)) (omega arith)

  pub words_of_lem : length l ≡ n → ((i : ℕ) → i < n → get_or l i 0 < 0x4000) → words_of n l ≡ true
  unfolding words_of
  words_of_lem e h = both (eqb (length l) n) _ (eq-eqb (length l) n e) (every_all n (λ i. is_word (get_or l i 0)) (λ i p. is_word_lem (get_or l i 0) (h i p)))

  pub words_short : (length l ≡ n → ⊥) → words_of n l ≡ false
  unfolding words_of
  words_short h = first_fails (eqb (length l) n) _ (ne_eqb (length l) n h)
