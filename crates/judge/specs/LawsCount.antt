-- Laws of counting: what the definition means, the first place that is counted, and one turn of a loop that carries both along.
use Prim.Native.Nat.{ℕ, zero, suc, ◌+◌, ◌≤◌, ◌<◌}
use native.Mathlib.Nat.{not-suc-le-zero, le_of_suc-le-suc, eq-or-lt_of_le}
use Rattle.std.proofs.Common.{add-one, add-zero, sym, ◌∙◌, ⊎_elim}
use native.Mathlib.Omega.{arith}
use Rattle.std.proofs.Math.Decide.{dec_lt}
use Rattle.std.proofs.Math.Path.{◌≡◌, refl, ap}
use Rattle.std.specs.Prelude.{◌⊎◌, Bool, true, false}
use Rattle.words.specs.Choice.{pick}
use Rattle.words.specs.First.{first_to}
use Rattle.words.specs.LawsChoice.{pick_true, pick_false, decided, true_not_false}
use Rattle.words.specs.LawsFirst.{first, first_stays, first_here}
use Rattle.judge.specs.Count.{count_to}
use Rattle.judge.specs.declared.verdicts.Differences.{Differences}
use Rattle.std.specs.Option.{unwrap_or}
use Rattle.std.specs.Prelude.{Option, Some, None}

-- ---- one place more

module _ (n : ℕ) (f : ℕ → Bool) where
  pub count_yes : f n ≡ true → count_to (suc n) f ≡ count_to n f + 1
  unfolding count_to
  count_yes e = ap (λ k. count_to n f + k) (pick_true (f n) 1 0 e)

  pub count_no : f n ≡ false → count_to (suc n) f ≡ count_to n f
  unfolding count_to
  count_no e =
      let none : ◌≡◌ {A = ℕ} (pick (f n) 1 0) 0 = pick_false (f n) 1 0 e in
      omega arith

-- ---- the count

-- a test that fails everywhere is counted 0 times
pub count_none : (n : ℕ) (f : ℕ → Bool) → ((i : ℕ) → i < n → f i ≡ false) → count_to n f ≡ 0
count_none zero f h = unfold count_to in refl
count_none (suc n) f h = count_no n f (h n (omega arith)) ∙ count_none n f (λ i p. h i (omega arith))

-- and only such a test is
pub count_some : (n : ℕ) (f : ℕ → Bool) (i : ℕ) → i < n → f i ≡ true → 0 < count_to n f
count_some zero f i h e = absurd (not-suc-le-zero h)
count_some (suc n) f i h e = ⊎_elim
    (λ q. rw (count_yes n f (rw (← q) e)) (omega arith))
    (λ p. more (count_some n f i p e) (decided (f n)))
    (eq-or-lt_of_le (le_of_suc-le-suc h))
  where
    more : 0 < count_to n f → (f n ≡ true) ⊎ (f n ≡ false) → 0 < count_to (suc n) f
    more p = ⊎_elim (λ t. rw (count_yes n f t) (omega arith)) (λ t. rw (count_no n f t) p)

pub count_zero : (n : ℕ) (f : ℕ → Bool) → count_to n f ≡ 0 → (i : ℕ) → i < n → f i ≡ false
count_zero n f e i h = ⊎_elim (λ t. absurd (let p : 0 < count_to n f = count_some n f i h t in omega arith)) (λ t. t) (decided (f i))

pub count_le : (n : ℕ) (f : ℕ → Bool) → count_to n f ≤ n
count_le zero f = unfold count_to in omega arith
count_le (suc n) f =
    let h : count_to n f ≤ n = count_le n f in
    ⊎_elim (λ t. rw (count_yes n f t) (omega arith)) (λ t. rw (count_no n f t) (omega arith)) (decided (f n))

-- ---- the first place that is counted

-- where something is counted there is a first place
pub first_counted : (n : ℕ) (f : ℕ → Bool) → 0 < count_to n f → first_to n f < n
first_counted n f c = by (dec_lt (first_to n f) n)
  where
    by : Dec (first_to n f < n) → first_to n f < n
    by (yes h) = h
    by (no h) =
        let none : count_to n f ≡ 0 = count_none n f (λ i p. (first n f).before i (omega arith)) in
        absurd (omega arith)

-- and where nothing is counted there is none
pub first_none : (n : ℕ) (f : ℕ → Bool) → count_to n f ≡ 0 → first_to n f ≡ n
first_none n f e = by (dec_lt (first_to n f) n)
  where
    by : Dec (first_to n f < n) → first_to n f ≡ n
    by (yes h) = absurd (true_not_false ((first n f).here h) (count_zero n f e (first_to n f) h))
    by (no h) = let w : first_to n f ≤ n = (first n f).within in omega arith

-- ---- tests that agree

module _ (f g : ℕ → Bool) where
  pub count_same : (n : ℕ) → ((i : ℕ) → i < n → f i ≡ g i) → count_to n f ≡ count_to n g
  unfolding count_to
  count_same zero h = refl
  count_same (suc n) h = rw (h n (omega arith), count_same n (λ i p. h i (omega arith)))

-- ---- a loop that carries both along

-- what is found of so many places: nothing holds, or so many do and the first is there
abbrev pub Seen : (n : ℕ) (f : ℕ → Bool) → Option Differences → Type 0
Seen n f None = count_to n f ≡ 0
Seen n f (Some d) = (0 < d.count) × (d.count ≡ count_to n f) × (d.first ≡ first_to n f)

-- one place more, which is n
module _ (n : ℕ) (f : ℕ → Bool) (i : ℕ) (is : i ≡ n) where
  pub seen_yes : f i ≡ true → (found : Option Differences) → Seen n f found → (seen : Differences) → seen ≡ unwrap_or found (record { first = i; count = 0 }) → Seen (n + 1) f (Some (record seen { count = seen.count + 1 }))
  seen_yes t None s seen e =
      let here : f n ≡ true = rw is at t in
      rw (add-one n, e, is) (omega arith, sym (count_yes n f here ∙ ap (λ k. k + 1) s), sym (first_here n f (omega (arith, first_none n f s)) here))
  seen_yes t (Some d) s seen e =
      let here : f n ≡ true = rw is at t in
      rw (add-one n, e) (omega arith, ap (λ k. k + 1) s.1 ∙ sym (count_yes n f here), s.2 ∙ sym (first_stays n f (first_counted n f (rw s.1 at s.0))))

  pub seen_no : f i ≡ false → (found : Option Differences) → Seen n f found → Seen (n + 1) f found
  seen_no t None s =
      let here : f n ≡ false = rw is at t in
      rw (add-one n, count_no n f here) s
  seen_no t (Some d) s =
      let here : f n ≡ false = rw is at t in
      rw (add-one n, count_no n f here, first_stays n f (first_counted n f (rw s.1 at s.0))) s

module _ (n : ℕ) (f : ℕ → Bool) where
  -- so many are no more than the places
  pub seen_few : (found : Option Differences) → Seen n f found → (seen : Differences) (i : ℕ) → seen ≡ unwrap_or found (record { first = i; count = 0 }) → seen.count ≤ n
  seen_few None s seen i e = rw e (omega arith)
  seen_few (Some d) s seen i e = rw (e, s.1) (count_le n f)

-- several places more at which the test fails
pub seen_over : (f : ℕ → Bool) (from n : ℕ) → ((k : ℕ) → from ≤ k → k < from + n → f k ≡ false) → (found : Option Differences) → Seen from f found → Seen (from + n) f found
seen_over f from zero h found s = rw add-zero s
seen_over f from (suc n) h found s =
    let more : from + n + 1 ≡ from + suc n = omega arith in
    rw more at (seen_no (from + n) f (from + n) refl (h (from + n) (omega arith) (omega arith)) found (seen_over f from n (λ k p q. h k p (omega arith)) found s))
