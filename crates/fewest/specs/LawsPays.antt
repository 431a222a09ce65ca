-- A run without Bulk Erase pays with Row Erases for the rows and user IDs that lack a wanted bit at its entry and not at its end, on any chip whose writes set no bit.
use Prim.Native.Nat.{ℕ, zero, suc, ◌+◌, ◌/◌, ◌≤◌, ◌<◌, min}
use Rattle.std.proofs.Common.{add-zero, add-one, arith}
use Rattle.std.specs.Prelude.{◌≡◌, Bool, List, eqb, length, get_or}
use Rattle.std.proofs.Math.Path.{refl}
use Rattle.std.proofs.Math.Bool.{true, false}
use Rattle.std.proofs.lemmas.Bool.{eqb-false}
use Rattle.words.specs.Choice.{pick}
use Rattle.words.specs.LawsWord.{Contains}
use Rattle.judge.specs.Count.{count_to}
use Rattle.target.specs.Chip.{Chip}
use Rattle.target.specs.Model.{Effect, Run, code_at, payload_at, onward, turn, after, started, run_of}
use Rattle.target.specs.Step.{Decoded, Target, decoded, step_effect, unread}
use Rattle.target.specs.Run.{model_on, entered}
use Rattle.target.specs.LawsChip.{SoundChip}
use Rattle.target.specs.LawsModel.{stands}
use Rattle.target.specs.declared.Order.{Order}
use Rattle.fewest.specs.Erases.{is_row_erase, is_bulk_erase, step_is, steps_of}
use Rattle.fewest.specs.LawsClears.{OnlyClears}
use Rattle.fewest.specs.LawsCounts.{one_fails}
use Rattle.fewest.specs.LawsLack.{lacking, lacking_none}
use Rattle.fewest.specs.LawsFalls.{holding, step_refused, step_falls}

-- ---- steps counted

-- one step more
steps_more : (kind : Order → Bool) (stream : List ℕ) (k : ℕ)
    → steps_of kind stream (k + 1) ≡ steps_of kind stream k + pick (step_is kind (decoded (code_at stream k) (payload_at stream k))) 1 0
unfolding steps_of count_to
steps_more kind stream k = rw add-one

-- ---- turn by turn

module _ (chip : Chip) (sound : SoundChip chip) (clears : OnlyClears chip) (word : ℕ → ℕ) (judges : (stream cells : List ℕ) → ℕ) (stream : List ℕ) (start : ℕ) where
  -- after so many steps, none of them Bulk Erase: what was lacking at the start and is not now was paid for with Row Erases
  abbrev Pays : (done : ℕ) → (cells : List ℕ) → Type 0
  Pays done cells = steps_of is_bulk_erase stream done ≡ 0 → start ≤ lacking chip word (holding cells) + steps_of is_row_erase stream done

  module _ (k : ℕ) (t : Target) where
    abbrev here : Decoded
    here = decoded (code_at stream k) (payload_at stream k)

    completed : Pays k t.cells → Pays (k + 1) (step_effect chip here t).target.cells
    completed p e =
        let bulk : steps_of is_bulk_erase stream (k + 1) ≡ steps_of is_bulk_erase stream k + pick (step_is is_bulk_erase here) 1 0 = steps_more is_bulk_erase stream k in
        let rows : steps_of is_row_erase stream (k + 1) ≡ steps_of is_row_erase stream k + pick (step_is is_row_erase here) 1 0 = steps_more is_row_erase stream k in
        let before : start ≤ lacking chip word (holding t.cells) + steps_of is_row_erase stream k = p (omega arith) in
        let step : lacking chip word (holding t.cells) ≤ lacking chip word (holding (step_effect chip here t).target.cells) + pick (step_is is_row_erase here) 1 0
        = step_falls chip sound clears word here t (one_fails (step_is is_bulk_erase here) (omega arith)) in
        omega arith

    taken : Pays k t.cells → (b : Bool) → eqb (step_effect chip here t).number 0 ≡ b → Pays (k + pick b 1 0) (step_effect chip here t).target.cells
    unfolding pick
    taken p true e = completed p
    taken p false e = rw (add-zero k, step_refused chip t here (eqb-false (step_effect chip here t).number 0 e)) p

  turn_pays : (r : Run Target) → Pays r.done r.target.cells
      → Pays (turn (model_on chip judges) stream r).done (turn (model_on chip judges) stream r).target.cells
  unfolding turn onward
  turn_pays r p = by (eqb r.number 0)
    where
      step : Effect Target
      step = step_effect chip (here r.done r.target) r.target

      by : (b : Bool) → Pays (pick b (onward r step) r).done (pick b (onward r step) r).target.cells
      by true = unfold pick onward in taken r.done r.target p (eqb step.number 0) refl
      by false = unfold pick in p

  after_pays : (r : Run Target) (n : ℕ) → Pays r.done r.target.cells
      → Pays (after (model_on chip judges) stream r n).done (after (model_on chip judges) stream r n).target.cells
  unfolding after
  after_pays r zero p = p
  after_pays r (suc n) p = turn_pays (after (model_on chip judges) stream r n) (after_pays r n p)

-- ---- a run

module _ (chip : Chip) (sound : SoundChip chip) (clears : OnlyClears chip) (word : ℕ → ℕ) (judges : (stream cells : List ℕ) → ℕ) (stream : List ℕ) (allowance : ℕ) (cells words : List ℕ) where
  abbrev ending : Run Target
  ending = run_of (model_on chip judges) stream allowance cells words

  run_pays : steps_of is_bulk_erase stream ending.done ≡ 0
      → lacking chip word (holding cells) ≤ lacking chip word (holding ending.target.cells) + steps_of is_row_erase stream ending.done
  unfolding run_of started unread
  run_pays =
      after_pays chip sound clears word judges stream (lacking chip word (holding cells)) (stands (unread (entered chip) cells words) 0 (judges stream cells))
      (min allowance (length stream / 3)) (λ e. omega arith)

  -- a run without Bulk Erase that leaves every wanted bit has a Row Erase for each row that lacked one, and one for the user IDs if they did
  pub chip_fewest : ((i : ℕ) → i < chip.words + chip.ids → Contains (get_or ending.target.cells i 0) (word i))
      → steps_of is_bulk_erase stream ending.done ≡ 0
      → lacking chip word (holding cells) ≤ steps_of is_row_erase stream ending.done
  chip_fewest has bulk =
      let paid : lacking chip word (holding cells) ≤ lacking chip word (holding ending.target.cells) + steps_of is_row_erase stream ending.done = run_pays bulk in
      let none : lacking chip word (holding ending.target.cells) ≡ 0 = lacking_none chip sound word (holding ending.target.cells) has in
      omega arith
