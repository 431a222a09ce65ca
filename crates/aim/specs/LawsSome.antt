-- Laws of 'the test holds somewhere'.
use Rattle.std.specs.Prelude.{ℕ, zero, suc, ◌+◌, ◌<◌, ◌≡◌, refl, Bool, true, false, length, get_or, MatchBool}
use Rattle.std.specs.List.{range_with_len, HoldsAt, AllWithin}
use Rattle.std.proofs.lemmas.List.FromFn.{length-range_with_len, get_or-range_with_len}
use Rattle.std.proofs.Common.{not-suc-le-zero, le_of_suc-le-suc, eq-or-lt_of_le, add-one, zero-add, arith, sym, ap, ◌∙◌, ⊎_elim}
use Rattle.words.specs.LawsTests.{or_cases, or_left, or_right, or_none}
use Rattle.aim.specs.Wanted.{some}

pub some_zero : (f : ℕ → Bool) → some 0 f ≡ false
unfolding some
some_zero f = refl

pub some_more : (n : ℕ) (f : ℕ → Bool) → some n f ≡ false → f n ≡ false → some (n + 1) f ≡ false
unfolding some
some_more n f p q = rw (add-one, p, q)

-- it holds nowhere
pub some_none : (n : ℕ) (f : ℕ → Bool) → some n f ≡ false → (k : ℕ) → k < n → f k ≡ false
unfolding some
some_none zero f e k h = absurd (not-suc-le-zero h)
some_none (suc n) f e k h =
    ⊎_elim (λ q. ap f q ∙ (or_none (some n f) (f n) e).1) (λ p. some_none n f (or_none (some n f) (f n) e).0 k p) (eq-or-lt_of_le (le_of_suc-le-suc h))

-- one that holds is enough
pub some_here : (n : ℕ) (f : ℕ → Bool) (k : ℕ) → k < n → f k ≡ true → some n f ≡ true
unfolding some
some_here zero f k h e = absurd (not-suc-le-zero h)
some_here (suc n) f k h e =
    ⊎_elim (λ q. or_right (some n f) (f n) (rw (← q) e)) (λ p. or_left (some n f) (f n) (some_here n f k p e)) (eq-or-lt_of_le (le_of_suc-le-suc h))

-- it fails everywhere
pub some_nowhere : (n : ℕ) (f : ℕ → Bool) → ((k : ℕ) → k < n → f k ≡ false) → some n f ≡ false
unfolding some
some_nowhere zero f h = refl
some_nowhere (suc n) f h = rw (some_nowhere n f (λ k p. h k (omega arith)), h n (omega arith))

-- where one test holds another does
pub some_weaken : (n : ℕ) (f g : ℕ → Bool) → ((k : ℕ) → k < n → f k ≡ true → g k ≡ true) → some n f ≡ true → some n g ≡ true
unfolding some
some_weaken zero f g h e = e
some_weaken (suc n) f g h e =
    ⊎_elim (λ p. or_left (some n g) (g n) (some_weaken n f g (λ k q. h k (omega arith)) p)) (λ p. or_right (some n g) (g n) (h n (omega arith) p)) (or_cases (some n f) (f n) e)

-- a search with `any` among the numbers below n
pub some_found : (n : ℕ) (f : ℕ → Bool) (r : Bool) → MatchBool r ((k : ℕ) × (k < length (range_with_len 0 n)) × HoldsAt (λ j. f j ≡ true) (range_with_len 0 n) k) (AllWithin (λ j. f j ≡ false) (range_with_len 0 n) 0 (length (range_with_len 0 n)))
    → r ≡ some n f
some_found n f true (k, h, e) =
    let l : k < n = omega (arith, length-range_with_len 0 n) in
    sym (some_here n f k l (ap f (sym (get_or-range_with_len 0 n k 0 l ∙ zero-add k)) ∙ e 0))
some_found n f false h = sym (some_nowhere n f (λ k l. let e : f (get_or (range_with_len 0 n) k 0) ≡ false = h k 0 (omega arith) (omega (arith, length-range_with_len 0 n)) in ap f (sym (get_or-range_with_len 0 n k 0 l ∙ zero-add k)) ∙ e))
