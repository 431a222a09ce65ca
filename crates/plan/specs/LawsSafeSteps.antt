-- The orders that leave the cells, safe against every cut: a walk of the counter, loads of a latch set, and the ways to each space.
use Prim.Native.Nat.{ℕ, zero, suc, ◌+◌, ◌-◌, ◌*◌, ◌%◌, ◌≤◌, ◌<◌}
use Rattle.std.proofs.Common.{add-zero, sym, ◌∙◌, get_or-set_same, get_or-set_other}
use native.Mathlib.Omega.{arith}
use Rattle.std.specs.Prelude.{◌≡◌, refl, Bool, ◌⊎◌, get_or, set, replicate}
use Rattle.std.proofs.Math.Path.{ap, subst}
use Rattle.std.proofs.Math.Bool.{true, false}
use Rattle.std.proofs.Math.Logic.{inl, inr, ⊎_elim}
use mathlib.Core.List.{List, [], ◌∷◌}
use Rattle.std.proofs.Math.Arith.{digits_mod}
use Rattle.std.proofs.Math.ListN.{length, length-set}
use Rattle.std.proofs.lemmas.List.{length-replicate}
use Rattle.words.specs.Choice.{pick}
use Rattle.words.specs.Word.{erased}
use Rattle.words.specs.Address.{successor}
use Rattle.words.specs.LawsAddress.{successor_program, successor_config}
use Rattle.target.specs.Chip.{Chip}
use Rattle.target.specs.Effects.{blank}
use Rattle.target.specs.Step.{Target, place, effect, unread}
use Rattle.target.specs.Run.{entered}
use Rattle.target.specs.Crash.{Safe}
use Rattle.target.specs.Board.{board_of}
use Rattle.target.specs.LawsCrash.{safe_stay, safe_first}
use Rattle.words.specs.LawsTests.{by_eq}
use Rattle.target.specs.LawsTorn.{torn_nothing}
use Rattle.target.specs.declared.Order.{Order}
use Rattle.target.specs.declared.Order.TheVariants.{LoadConfiguration, LoadData, Increment, ResetAddress}
use Rattle.plan.specs.Steps.{walk, loads}

-- ---- where a target stands

-- its counter, what is known of its latches, and what of its cells
pub record At (chip : Chip) (a : ℕ) (L Q : List ℕ → Type 0) (t : Target) : Type 0 where
  pub here : place t ≡ a
  pub wide : length t.registers.latches ≡ chip.places
  pub lies : L t.registers.latches
  pub holds : Q t.cells

-- wherever its counter stands
pub record Free (chip : Chip) (Q : List ℕ → Type 0) (t : Target) : Type 0 where
  pub wide : length t.registers.latches ≡ chip.places
  pub holds : Q t.cells

-- latches of which nothing is known, and latches whose first n hold these words
abbrev pub Any : List ℕ → Type 0
Any l = Unit {0}

abbrev pub Filled : (word : ℕ → ℕ) → (n : ℕ) → List ℕ → Type 0
Filled word n l = (i : ℕ) → i < n → get_or l i 0 ≡ word i

pub free_at : (chip : Chip) (a : ℕ) (Q : List ℕ → Type 0) (t : Target) → At chip a Any Q t → Free chip Q t
free_at chip a Q t q = record { wide = q.wide; holds = q.holds }

pub length_blank : (chip : Chip) → length (blank chip) ≡ chip.places
unfolding blank
length_blank chip = length-replicate chip.places erased

-- a target at its entry
pub enters : (chip : Chip) (words : List ℕ) (Q : List ℕ → Type 0) (c : List ℕ) → Q c → At chip 0 Any Q ((board_of chip words).entry c)
unfolding unread entered
enters chip words Q c q = record { here = refl; wide = length_blank chip; lies = tt; holds = q }

-- ---- one order, and then a stream

module _ (chip : Chip) (words : List ℕ) (I Q : List ℕ → Type 0) (safe : (c : List ℕ) → Q c → I c) where
  module _ {C : Target → Type 0} (s : List Order) where
    pub safe_increment : (a : ℕ) (L : List ℕ → Type 0) → (a + 1 < chip.base) ⊎ ((chip.base ≤ a) × (a + 1 < 2 * chip.base))
        → Safe (board_of chip words) I (At chip (a + 1) L Q) s C → Safe (board_of chip words) I (At chip a L Q) (Increment ∷ s) C
    unfolding effect
    safe_increment a L h f =
        safe_first (board_of chip words) I (At chip (a + 1) L Q) Increment s (λ x q. refl)
        (λ x q. record { here = ap (successor chip.base) q.here ∙ next; wide = q.wide; lies = q.lies; holds = q.holds })
        (λ x q c torn. subst I (sym (torn_nothing x.cells c torn)) (safe x.cells q.holds)) f
      where
        next : successor chip.base a ≡ a + 1
        next = ⊎_elim (λ p. successor_program chip.base a p) (λ p. successor_config chip.base a p.0 p.1) h

    pub safe_load : (a w : ℕ) (L L' : List ℕ → Type 0) → ((l : List ℕ) → length l ≡ chip.places → L l → L' (set l (a % chip.group) w))
        → Safe (board_of chip words) I (At chip a L' Q) s C → Safe (board_of chip words) I (At chip a L Q) (LoadData w ∷ s) C
    unfolding effect
    safe_load a w L L' h f =
        safe_first (board_of chip words) I (At chip a L' Q) (LoadData w) s (λ x q. refl)
        (λ x q.
        record {
          here = q.here;
          wide = length-set x.registers.latches (place x % chip.group) w ∙ q.wide;
          lies = rw q.here (h x.registers.latches q.wide q.lies);
          holds = q.holds;
        })
        (λ x q c torn. subst I (sym (torn_nothing x.cells c torn)) (safe x.cells q.holds)) f

    pub safe_reset : Safe (board_of chip words) I (At chip 0 Any Q) s C → Safe (board_of chip words) I (Free chip Q) (ResetAddress ∷ s) C
    unfolding effect
    safe_reset f =
        safe_first (board_of chip words) I (At chip 0 Any Q) ResetAddress s (λ x q. refl)
        (λ x q. record { here = refl; wide = put_back chip.reset_blanks x.registers.latches q.wide; lies = tt; holds = q.holds })
        (λ x q c torn. subst I (sym (torn_nothing x.cells c torn)) (safe x.cells q.holds)) f
      where
        put_back : (b : Bool) (l : List ℕ) → length l ≡ chip.places → length (pick b (blank chip) l) ≡ chip.places
        put_back true l e = unfold pick in length_blank chip
        put_back false l e = unfold pick in e

    pub safe_configuration : (w : ℕ) → Safe (board_of chip words) I (At chip chip.base Any Q) s C → Safe (board_of chip words) I (Free chip Q) (LoadConfiguration w ∷ s) C
    unfolding effect
    safe_configuration w f =
        safe_first (board_of chip words) I (At chip chip.base Any Q) (LoadConfiguration w) s (λ x q. refl)
        (λ x q. record { here = refl; wide = length-set x.registers.latches 0 w ∙ q.wide; lies = tt; holds = q.holds })
        (λ x q c torn. subst I (sym (torn_nothing x.cells c torn)) (safe x.cells q.holds)) f

  -- ---- segments

  -- Increments within a space
  safe_increments : (n a : ℕ) (L : List ℕ → Type 0) → (a + n < chip.base) ⊎ ((chip.base ≤ a) × (a + n < 2 * chip.base))
      → Safe (board_of chip words) I (At chip a L Q) (replicate n Increment) (At chip (a + n) L Q)
  safe_increments zero a L h = safe_stay (board_of chip words) I (λ x q. rw (add-zero a) q)
  safe_increments (suc n) a L h =
      safe_increment (replicate n Increment) a L (⊎_elim (λ (p : a + suc n < chip.base). inl (omega arith)) (λ p. let z : a + suc n < 2 * chip.base = p.1 in inr (p.0, omega arith)) h)
      (subst (λ m. Safe (board_of chip words) I (At chip (a + 1) L Q) (replicate n Increment) (At chip m L Q)) (sum a n)
      (safe_increments n (a + 1) L
      (⊎_elim (λ (p : a + suc n < chip.base). inl (omega arith)) (λ p. let z : a + suc n < 2 * chip.base = p.1 in let y : chip.base ≤ a = p.0 in inr (omega arith, omega arith)) h)))
    where
      sum : (a m : ℕ) → a + 1 + m ≡ a + suc m
      sum a m = omega arith

  -- up from one place to another, counted from the start of a space
  pub safe_walk : (from to start : ℕ) (L : List ℕ → Type 0) → from ≤ to → (start + to < chip.base) ⊎ ((chip.base ≤ start) × (start + to < 2 * chip.base))
      → Safe (board_of chip words) I (At chip (start + from) L Q) (walk from to) (At chip (start + to) L Q)
  unfolding walk
  safe_walk from to start L h p =
      let up : start + from + (to - from) ≡ start + to = omega arith in
      subst (λ m. Safe (board_of chip words) I (At chip (start + from) L Q) (replicate (to - from) Increment) (At chip m L Q)) up
      (safe_increments (to - from) (start + from) L
      (⊎_elim (λ (q : start + to < chip.base). inl (omega arith)) (λ q. let z : start + to < 2 * chip.base = q.1 in let y : chip.base ≤ start = q.0 in inr (omega arith, omega arith)) p))

  -- the words of latch set m, from its place j on
  module _ (word : ℕ → ℕ) (m : ℕ) (carried : chip.group ≤ chip.places) (low : m * chip.group + chip.group ≤ chip.base) where
    abbrev row : ℕ → ℕ
    row i = word (m * chip.group + i)

    filled : (j a : ℕ) → j < chip.group → a ≡ m * chip.group + j → (l : List ℕ) → length l ≡ chip.places → Filled row j l → Filled row (j + 1) (set l (a % chip.group) (word a))
    filled j a h e l wide f i q =
        rw (e, digits_mod m h)
        (by_eq i j
        (λ x. rw x (get_or-set_same l j (row j) 0 (omega arith)))
        (λ x. get_or-set_other l j i (row j) 0 x ∙ f i (omega arith)))

    pub safe_loads : (n j a : ℕ) → j + suc n ≡ chip.group → a ≡ m * chip.group + j
        → Safe (board_of chip words) I (At chip a (Filled row j) Q) (loads word a (suc n)) (At chip (m * chip.group + (chip.group - 1)) (Filled row chip.group) Q)
    unfolding loads
    safe_loads zero j a h e =
        safe_load [] a (word a) (Filled row j) (Filled row (j + 1)) (filled j a (omega arith) e)
        (safe_stay (board_of chip words) I (λ x q. record { here = q.here ∙ last; wide = q.wide; lies = λ i p. q.lies i (omega arith); holds = q.holds }))
      where
        last : a ≡ m * chip.group + (chip.group - 1)
        last = omega arith
    safe_loads (suc n) j a h e =
        safe_load (Increment ∷ loads word (a + 1) (suc n)) a (word a) (Filled row j) (Filled row (j + 1)) (filled j a (omega arith) e)
        (safe_increment (loads word (a + 1) (suc n)) a (Filled row (j + 1)) (inl (omega arith)) (safe_loads n (j + 1) (a + 1) (omega arith) (omega arith)))
