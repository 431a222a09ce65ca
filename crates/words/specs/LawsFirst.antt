-- Laws of the first place at which a test holds: one place more, what the definition means, and that nothing else means it.
use Rattle.std.specs.Prelude.{ℕ, zero, suc, ◌≤◌, ◌<◌, ◌≡◌, refl, ◌⊎◌, Bool, true, false, ltb}
use Rattle.std.proofs.Common.{not-suc-le-zero, le_of_suc-le-suc, eq-or-lt_of_le, arith, ◌∙◌, inl, inr, ⊎_elim, lt-ltb, le-ltb}
use Rattle.std.proofs.Math.Decide.{dec_lt}
use Rattle.words.specs.Choice.{pick}
use Rattle.words.specs.First.{first_to}
use Rattle.words.specs.LawsChoice.{pick_true, pick_false, decided, true_not_false}

-- ---- one place more

module _ (n : ℕ) (f : ℕ → Bool) where
  pub first_stays : first_to n f < n → first_to (suc n) f ≡ first_to n f
  unfolding first_to
  first_stays h = pick_true (ltb (first_to n f) n) (first_to n f) (pick (f n) n (suc n)) (lt-ltb (first_to n f) n h)

  pub first_here : n ≤ first_to n f → f n ≡ true → first_to (suc n) f ≡ n
  unfolding first_to
  first_here h e =
      pick_false (ltb (first_to n f) n) (first_to n f) (pick (f n) n (suc n)) (le-ltb (first_to n f) n h)
      ∙ pick_true (f n) n (suc n) e

  pub first_not_yet : n ≤ first_to n f → f n ≡ false → first_to (suc n) f ≡ suc n
  unfolding first_to
  first_not_yet h e =
      pick_false (ltb (first_to n f) n) (first_to n f) (pick (f n) n (suc n)) (le-ltb (first_to n f) n h)
      ∙ pick_false (f n) n (suc n) e

-- ---- what it means

pub record First (n : ℕ) (f : ℕ → Bool) (k : ℕ) : Type 0 where
  pub within : k ≤ n
  pub before : (i : ℕ) → i < k → f i ≡ false
  pub here : k < n → f k ≡ true

-- nothing before the first place, and the test holds there; n if it holds nowhere
pub first : (n : ℕ) (f : ℕ → Bool) → First n f (first_to n f)
first zero f = unfold first_to in record { within = omega arith; before = λ i h. absurd (not-suc-le-zero h); here = λ h. absurd (not-suc-le-zero h) }
first (suc n) f = by (first n f) (dec_lt (first_to n f) n) (decided (f n))
  where
    below : First n f (first_to n f) → (first_to n f < n → ⊥) → f n ≡ false → (i : ℕ) → i < suc n → f i ≡ false
    below r h t i p = ⊎_elim (λ e. rw e t) (λ l. r.before i (omega arith)) (eq-or-lt_of_le (le_of_suc-le-suc p))

    by : First n f (first_to n f) → Dec (first_to n f < n) → (f n ≡ true) ⊎ (f n ≡ false) → First (suc n) f (first_to (suc n) f)
    by r (yes h) t = rw (first_stays n f h) (record { within = omega arith; before = r.before; here = λ p. r.here h })
    by r (no h) (inl t) =
        rw (first_here n f (omega arith) t)
        (record { within = omega arith; before = λ i p. r.before i (omega arith); here = λ p. t })
    by r (no h) (inr t) =
        rw (first_not_yet n f (omega arith) t)
        (record { within = omega arith; before = below r h t; here = λ p. absurd (omega arith) })

-- and there is no other such place
pub first_is : (n : ℕ) (f : ℕ → Bool) (k : ℕ) → First n f k → k ≡ first_to n f
first_is n f k r = by (first n f) (dec_lt k (first_to n f)) (dec_lt (first_to n f) k)
  where
    by : First n f (first_to n f) → Dec (k < first_to n f) → Dec (first_to n f < k) → k ≡ first_to n f
    by s (yes p) q = absurd (true_not_false (r.here (omega (arith, s.within))) (s.before k p))
    by s (no p) (yes q) = absurd (true_not_false (s.here (omega (arith, r.within))) (r.before (first_to n f) q))
    by s (no p) (no q) = omega arith

-- ---- tests that agree

pub first_same : (f g : ℕ → Bool) (n : ℕ) → ((i : ℕ) → i < n → f i ≡ g i) → first_to n f ≡ first_to n g
unfolding first_to
first_same f g zero h = refl
first_same f g (suc n) h = rw (h n (omega arith), first_same f g n (λ i p. h i (omega arith)))
