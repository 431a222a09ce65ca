-- Laws of a choice by a test, and of tests joined by 'and'.
use mathlib.Core.Path.{◌≡◌, refl, sym, ◌∙◌}
use Rattle.std.specs.Prelude.{◌⊎◌, Bool, true, false, ◌&&◌}
use Rattle.std.proofs.Common.{inl, inr, lt-ltb, le-ltb, le-leb, eq-eqb, ne_eqb}
use Rattle.std.proofs.lemmas.Bool.{lt-leb}
use Rattle.words.specs.Choice.{pick}

-- what the tests of code tell of the tests of definitions
pub ruleset tests = (lt-ltb, le-ltb, le-leb, lt-leb, eq-eqb, ne_eqb)

module _ {A : Type 0} (b : Bool) (x y : A) where
  pub pick_true : b ≡ true → pick b x y ≡ x
  unfolding pick
  pick_true e = rw e

  pub pick_false : b ≡ false → pick b x y ≡ y
  unfolding pick
  pick_false e = rw e

-- both answers the same: the test has no say
pub pick_same : {A : Type 0} (b : Bool) (x : A) → pick b x x ≡ x
unfolding pick
pick_same true x = refl
pick_same false x = refl

-- a function goes through a choice
pub pick_map : {A B : Type 0} (f : A → B) (b : Bool) (x y : A) → f (pick b x y) ≡ pick b (f x) (f y)
unfolding pick
pick_map f true x y = refl
pick_map f false x y = refl

-- every test holds or fails
pub decided : (b : Bool) → (b ≡ true) ⊎ (b ≡ false)
decided true = inl refl
decided false = inr refl

-- a test that holds does not fail
pub true_not_false : {b : Bool} → b ≡ true → b ≡ false → ⊥
true_not_false p q = let z : ◌≡◌ {A = Bool} true false = sym p ∙ q in apart z
  where
    Is : Bool → Type 0
    Is true = Unit
    Is false = ⊥

    apart : ◌≡◌ {A = Bool} true false → ⊥
    apart z = mathlib.Core.Path.subst Is z tt

module _ (a b : Bool) where
  pub both : a ≡ true → b ≡ true → (a && b) ≡ true
  both p q = rw (p, q)

  pub first_fails : a ≡ false → (a && b) ≡ false
  first_fails p = rw p

pub second_fails : (a b : Bool) → b ≡ false → (a && b) ≡ false
second_fails true b q = q
second_fails false b q = refl

pub first_holds : (a b : Bool) → (a && b) ≡ true → a ≡ true
first_holds true b q = refl
first_holds false b q = q

pub second_holds : (a b : Bool) → (a && b) ≡ true → b ≡ true
second_holds true b q = q
second_holds false b q = absurd (true_not_false {b = false} q refl)

-- two tests are the same if each holds where the other does
pub same_test : (a b : Bool) → (a ≡ true → b ≡ true) → (b ≡ true → a ≡ true) → a ≡ b
same_test true b f g = sym (f refl)
same_test false true f g = g refl
same_test false false f g = refl
