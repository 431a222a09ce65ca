-- Laws of a run of any model: turn by turn, and that a run that was refused stays where it stopped.
use Prim.Native.Nat.{ℕ, zero, suc, ◌+◌, ◌/◌, ◌≤◌, min}
use Rattle.std.proofs.Math.Nat.{min-le_left}
use Rattle.std.proofs.Common.{eq-or-lt_of_le, le_of_suc-le-suc, add-zero, sym, ◌∙◌, ⊎_elim, ne_eqb}
use native.Mathlib.Omega.{arith}
use Rattle.std.specs.Prelude.{◌≡◌, Bool, List, eqb, length}
use Rattle.std.proofs.Math.Path.{refl, ap}
use Rattle.std.proofs.Math.Bool.{true, false}
use Rattle.words.specs.Choice.{pick}
use Rattle.words.specs.LawsChoice.{pick_false}
use Rattle.target.specs.Model.{Effect, Model, Run, code_at, payload_at, done, stops, onward, turn, after, started, run_of}

-- where a run stands
abbrev pub stands : {T : Type 0} → T → (done number : ℕ) → Run T
stands t done number = record { target = t; done = done; number = number }

module _ (M : Model) (stream : List ℕ) where
  -- what the step of this place does to a target
  abbrev pub step_at : ℕ → M.Target → Effect M.Target
  step_at k t = M.step (code_at stream k) (payload_at stream k) t

  -- ---- one turn

  turned : (t : M.Target) (k : ℕ) → turn M stream (stands t k 0) ≡ onward (stands t k 0) (step_at k t)
  unfolding turn pick
  turned t k = refl

  pub turn_done : (t u : M.Target) (k : ℕ) → step_at k t ≡ done u → turn M stream (stands t k 0) ≡ stands u (k + 1) 0
  turn_done t u k e = turned t k ∙ (ap (onward (stands t k 0)) e ∙ opened)
    where
      opened : onward (stands t k 0) (done u) ≡ stands u (k + 1) 0
      opened = unfold onward pick in refl

  pub turn_refused : (t u : M.Target) (k n : ℕ) → step_at k t ≡ stops n u → (n ≡ 0 → ⊥) → turn M stream (stands t k 0) ≡ stands u k n
  turn_refused t u k n e h = turned t k ∙ (ap (onward (stands t k 0)) e ∙ (opened ∙ (λ i. stands u (same i) n)))
    where
      opened : onward (stands t k 0) (stops n u) ≡ stands u (k + pick (eqb n 0) 1 0) n
      opened = unfold onward in refl

      same : k + pick (eqb n 0) 1 0 ≡ k
      same = ap (λ m. k + m) (pick_false (eqb n 0) 1 0 (ne_eqb n 0 h)) ∙ add-zero k

  -- a run that was refused stays
  pub turn_stays : (r : Run M.Target) → (r.number ≡ 0 → ⊥) → turn M stream r ≡ r
  unfolding turn
  turn_stays r h = pick_false (eqb r.number 0) _ r (ne_eqb r.number 0 h)

  -- ---- turn after turn

  pub after_zero : (r : Run M.Target) → after M stream r 0 ≡ r
  unfolding after
  after_zero r = refl

  pub after_suc : (r : Run M.Target) (n : ℕ) → after M stream r (suc n) ≡ turn M stream (after M stream r n)
  unfolding after
  after_suc r n = refl

  -- the first turn first
  pub after_front : (r : Run M.Target) (n : ℕ) → after M stream r (suc n) ≡ after M stream (turn M stream r) n
  after_front r zero = after_suc r 0 ∙ (ap (turn M stream) (after_zero r) ∙ sym (after_zero (turn M stream r)))
  after_front r (suc n) = after_suc r (suc n) ∙ (ap (turn M stream) (after_front r n) ∙ sym (after_suc (turn M stream r) n))

  -- once refused, as many turns more as there are
  pub after_stays : (r s : Run M.Target) (n k : ℕ) → after M stream r n ≡ s → (s.number ≡ 0 → ⊥) → n ≤ k → after M stream r k ≡ s
  after_stays r s n zero e h p = let z : n ≡ 0 = omega arith in ap (after M stream r) (sym z) ∙ e
  after_stays r s n (suc k) e h p =
      ⊎_elim (λ q. ap (after M stream r) (sym q) ∙ e)
      (λ q. after_suc r k ∙ (ap (turn M stream) (after_stays r s n k e h (le_of_suc-le-suc q)) ∙ turn_stays s h))
      (eq-or-lt_of_le p)

  -- ---- a run

  pub started_is : (number : ℕ) (cells words : List ℕ) → started M number cells words ≡ stands (M.entry cells words) 0 number
  unfolding started
  started_is number cells words = refl

  -- a run that is refused before its first step
  pub run_refused_first : (allowance n : ℕ) (cells words : List ℕ) → M.judges stream cells ≡ n → (n ≡ 0 → ⊥)
      → run_of M stream allowance cells words ≡ stands (M.entry cells words) 0 n
  unfolding run_of
  run_refused_first allowance n cells words e h =
      after_stays _ (stands (M.entry cells words) 0 n) 0 (min allowance (length stream / 3))
      (after_zero _ ∙ (started_is _ cells words ∙ (λ i. stands (M.entry cells words) 0 (e i)))) h (omega arith)

  -- a run that is not, and that may take so many steps
  pub run_takes : (allowance n : ℕ) (cells words : List ℕ) → M.judges stream cells ≡ 0 → min allowance (length stream / 3) ≡ n
      → run_of M stream allowance cells words ≡ after M stream (stands (M.entry cells words) 0 0) n
  unfolding run_of
  run_takes allowance n cells words e m = (λ i. after M stream (started M (e i) cells words) (m i)) ∙ ap (λ r. after M stream r n) (started_is 0 cells words)

  -- ---- what every step keeps

  -- a turn completes one step or none
  turn_few : (r : Run M.Target) → (turn M stream r).done ≤ r.done + 1
  unfolding turn onward
  turn_few r = by (eqb r.number 0) (eqb (step_at r.done r.target).number 0)
    where
      by : (b c : Bool) → (pick b (stands (step_at r.done r.target).target (r.done + pick c 1 0) (step_at r.done r.target).number) r).done ≤ r.done + 1
      by true true = unfold pick in omega arith
      by true false = unfold pick in omega arith
      by false c = unfold pick in omega arith

  after_few : (r : Run M.Target) (n : ℕ) → (after M stream r n).done ≤ r.done + n
  unfolding after
  after_few r zero = omega arith
  after_few r (suc n) =
      let before : (after M stream r n).done ≤ r.done + n = after_few r n in
      let one : (turn M stream (after M stream r n)).done ≤ (after M stream r n).done + 1 = turn_few (after M stream r n) in
      omega arith

  -- no more steps than a run may take
  pub run_few : (allowance : ℕ) (cells words : List ℕ) → (run_of M stream allowance cells words).done ≤ allowance
  unfolding run_of started
  run_few allowance cells words =
      let few : _ = after_few (stands (M.entry cells words) 0 (M.judges stream cells)) (min allowance (length stream / 3)) in
      let least : min allowance (length stream / 3) ≤ allowance = min-le_left allowance (length stream / 3) in
      omega arith

  module _ (P : M.Target → Type 0) (keeps : (code payload : ℕ) (t : M.Target) → P t → P (M.step code payload t).target) where
    turn_keeps : (r : Run M.Target) → P r.target → P (turn M stream r).target
    unfolding turn onward
    turn_keeps r p = by (eqb r.number 0)
      where
        by : (b : Bool) → P (pick b (onward r (step_at r.done r.target)) r).target
        by true = unfold pick in keeps (code_at stream r.done) (payload_at stream r.done) r.target p
        by false = unfold pick in p

    pub after_keeps : (r : Run M.Target) (n : ℕ) → P r.target → P (after M stream r n).target
    unfolding after
    after_keeps r zero p = p
    after_keeps r (suc n) p = turn_keeps (after M stream r n) (after_keeps r n p)

    -- what entry has and every step keeps, a run leaves
    pub run_keeps : (allowance : ℕ) (cells words : List ℕ) → P (M.entry cells words) → P (run_of M stream allowance cells words).target
    unfolding run_of started
    run_keeps allowance cells words p = after_keeps (stands (M.entry cells words) 0 (M.judges stream cells)) (min allowance (length stream / 3)) p
