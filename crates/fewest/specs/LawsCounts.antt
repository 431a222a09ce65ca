-- Laws of tests counted: a test that holds more often is counted no less, and by how much one place or one more place changes a count.
use Prim.Native.Nat.{ℕ, zero, suc, ◌+◌, ◌≤◌, ◌<◌}
use Rattle.std.proofs.Common.{add-zero, le_of_suc-le-suc, eq-or-lt_of_le, ap, ap₂, ◌∙◌, ⊎_elim}
use native.Mathlib.Omega.{arith}
use Rattle.std.specs.Prelude.{◌≡◌, refl, Bool, true, false}
use Rattle.words.specs.Choice.{pick}
use Rattle.words.specs.LawsTests.{by_eq}
use Rattle.judge.specs.Count.{count_to}
use Rattle.judge.specs.LawsCount.{count_same}

-- ---- one test

pub one_most : (x : Bool) → pick x 1 0 ≤ 1
unfolding pick
one_most false = omega arith
one_most true = omega arith

pub one_mono : (x y : Bool) → (x ≡ true → y ≡ true) → pick x 1 0 ≤ pick y 1 0
unfolding pick
one_mono false y h = omega arith
one_mono true y h = rw (h refl) (omega arith)

-- a test that counts for nothing fails
pub one_fails : (x : Bool) → pick x 1 0 ≤ 0 → x ≡ false
unfolding pick
one_fails false h = refl
one_fails true h = absurd (omega arith)

-- ---- tests of 0 to n-1

module _ (f g : ℕ → Bool) where
  -- where one test holds the other does
  pub count_mono : (n : ℕ) → ((i : ℕ) → i < n → f i ≡ true → g i ≡ true) → count_to n f ≤ count_to n g
  unfolding count_to
  count_mono zero h = omega arith
  count_mono (suc n) h =
      let before : count_to n f ≤ count_to n g = count_mono n (λ i q. h i (omega arith)) in
      let last : pick (f n) 1 0 ≤ pick (g n) 1 0 = one_mono (f n) (g n) (h n (omega arith)) in
      omega arith

  -- but at one place
  pub count_but_one : (k n : ℕ) → ((i : ℕ) → i < n → (i ≡ k → ⊥) → f i ≡ true → g i ≡ true) → count_to n f ≤ count_to n g + 1
  unfolding count_to
  count_but_one k zero h = omega arith
  count_but_one k (suc n) h =
      by_eq n k
      (λ e.
      let before : count_to n f ≤ count_to n g = count_mono n (λ i q. h i (omega arith) (λ x. omega arith)) in
      let last : pick (f n) 1 0 ≤ 1 = one_most (f n) in
      omega arith)
      (λ e.
      let before : count_to n f ≤ count_to n g + 1 = count_but_one k n (λ i q. h i (omega arith)) in
      let last : pick (f n) 1 0 ≤ pick (g n) 1 0 = one_mono (f n) (g n) (h n (omega arith) e) in
      omega arith)

-- ---- more places

-- the first place first
pub count_front : (n : ℕ) (f : ℕ → Bool) → count_to (suc n) f ≡ pick (f 0) 1 0 + count_to n (λ i. f (suc i))
unfolding count_to
count_front zero f = omega arith
count_front (suc n) f = let before : count_to (suc n) f ≡ pick (f 0) 1 0 + count_to n (λ i. f (suc i)) = count_front n f in omega arith

-- the same of places from k on
pub count_next : (n k : ℕ) (f : ℕ → Bool) → count_to (suc n) (λ j. f (k + j)) ≡ pick (f k) 1 0 + count_to n (λ j. f (k + 1 + j))
count_next n k f =
    count_front n (λ j. f (k + j))
    ∙ ap₂ (λ x y. pick x 1 0 + y) (ap f (add-zero k)) (count_same (λ j. f (k + suc j)) (λ j. f (k + 1 + j)) n (λ j p. ap f (omega arith)))

-- more places are counted no less
pub count_wider : (n m : ℕ) (f : ℕ → Bool) → n ≤ m → count_to n f ≤ count_to m f
unfolding count_to
count_wider n zero f h = let none : n ≡ 0 = omega arith in rw none (omega arith)
count_wider n (suc m) f h =
    ⊎_elim (λ e. rw e (omega arith))
    (λ p. let before : count_to n f ≤ count_to m f = count_wider n m f (le_of_suc-le-suc p) in omega arith) (eq-or-lt_of_le h)
