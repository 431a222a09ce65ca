-- Laws of tests: both cases of a test, of an order and of an equality, and tests joined by 'and' and 'or'.
use Rattle.std.specs.Prelude.{ℕ, ◌≤◌, ◌<◌, ◌≡◌, refl, Bool, true, false, ◌&&◌, ◌||◌, not, ◌⊎◌}
use Rattle.std.proofs.Common.{arith, sym, inl, inr}
use Rattle.std.proofs.Math.Decide.{dec_lt, ℕ_discrete}
use Rattle.words.specs.LawsChoice.{first_holds, second_holds, true_not_false}

module _ {C : Type 0} where
  pub by_test : (b : Bool) → (b ≡ true → C) → (b ≡ false → C) → C
  by_test true f g = f refl
  by_test false f g = g refl

  pub by_lt : (m n : ℕ) → (m < n → C) → (n ≤ m → C) → C
  by_lt m n f g = by (dec_lt m n)
    where
      by : Dec (m < n) → C
      by (yes h) = f h
      by (no h) = g (omega arith)

  pub by_eq : (m n : ℕ) → (m ≡ n → C) → ((m ≡ n → ⊥) → C) → C
  by_eq m n f g = by (ℕ_discrete m n)
    where
      by : Dec (m ≡ n) → C
      by (yes h) = f h
      by (no h) = g h

-- a test that cannot hold fails
pub fails : (b : Bool) → (b ≡ true → ⊥) → b ≡ false
fails true h = absurd (h refl)
fails false h = refl

pub not_holds : (b : Bool) → not b ≡ true → b ≡ false
not_holds true e = sym e
not_holds false e = refl

pub not_fails : (b : Bool) → not b ≡ false → b ≡ true
not_fails true e = refl
not_fails false e = sym e

-- ---- and, or

pub three_hold : (a b c : Bool) → (a && b && c) ≡ true → (a ≡ true) × (b ≡ true) × (c ≡ true)
three_hold a b c e = let f : (a && b) ≡ true = first_holds (a && b) c e in (first_holds a b f, second_holds a b f, second_holds (a && b) c e)

pub all_three : (a b c : Bool) → a ≡ true → b ≡ true → c ≡ true → (a && b && c) ≡ true
all_three a b c p q r = rw (p, q, r)

pub or_cases : (a b : Bool) → (a || b) ≡ true → (a ≡ true) ⊎ (b ≡ true)
or_cases true b e = inl refl
or_cases false b e = inr e

pub or_left : (a b : Bool) → a ≡ true → (a || b) ≡ true
or_left a b e = rw e

pub or_right : (a b : Bool) → b ≡ true → (a || b) ≡ true
or_right true b e = refl
or_right false b e = e

pub or_none : (a b : Bool) → (a || b) ≡ false → (a ≡ false) × (b ≡ false)
or_none true b e = absurd (true_not_false {b = true} refl e)
or_none false b e = (refl, e)
