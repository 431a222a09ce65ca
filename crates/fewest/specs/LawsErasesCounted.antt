-- The Row Erases of a stream that is made of segments, counted: one for each row that is written and erased, and one for the user IDs.
use Prim.Native.Nat.{ℕ, zero, suc, ◌+◌, ◌-◌, ◌*◌, ◌/◌, ◌≤◌, ◌<◌}
use Rattle.std.proofs.Math.Nat.{add-zero}
use Rattle.std.proofs.Common.{zero-add, ◌∙◌}
use native.Mathlib.Omega.{arith}
use Rattle.std.specs.Prelude.{◌≡◌, Bool, true, false, ◌&&◌, replicate}
use Rattle.std.proofs.Math.Path.{refl, sym, ap, ap₂}
use mathlib.Core.List.{List, [], ◌∷◌, ◌++◌}
use Rattle.words.specs.Choice.{pick}
use Rattle.words.specs.Word.{erased}
use Rattle.words.specs.LawsChoice.{pick_map, pick_same, same_test, second_holds, both}
use Rattle.judge.specs.Count.{count_to}
use Rattle.judge.specs.LawsCount.{count_same}
use Rattle.device.specs.declared.Device.{Device}
use Rattle.target.specs.Chip.{Chip, chip_of}
use Rattle.target.specs.declared.Order.{Order}
use Rattle.target.specs.declared.Order.TheVariants.{LoadConfiguration, LoadData, Increment, Begin}
use Rattle.aim.specs.Wanted.{known, wanted, some, row_differs, row_rises, id_differs, id_rises, config_writes}
use Rattle.plan.specs.Steps.{walk, loads, set_steps, erasing, row_steps, rows_from, word_steps, writes_from, config_steps, task_of, body_of, update_task, update_steps}
use Rattle.aim.specs.LawsSome.{some_here}
use Rattle.aim.specs.LawsWanted.{writes_all}
use Rattle.aim.specs.LawsRises.{row_rises_differs, id_rises_differs}
use Rattle.plan.specs.LawsPlanSteps.{rows_open, writes_open, body_opens}
use Rattle.fewest.specs.Erases.{is_row_erase, orders_of}
use Rattle.fewest.specs.LawsCounts.{count_next}

-- ---- orders one after another

pub orders_append : (kind : Order → Bool) (s t : List Order) → orders_of kind (s ++ t) ≡ orders_of kind s + orders_of kind t
unfolding orders_of
orders_append kind [] t = omega arith
orders_append kind (o ∷ s) t = let rest : orders_of kind (s ++ t) ≡ orders_of kind s + orders_of kind t = orders_append kind s t in omega arith

-- a segment that is chosen or not, with one Row Erase or none before what both have
chosen_erases : (chosen erase : Bool) (s t : List Order) (n : ℕ) → orders_of is_row_erase s ≡ pick erase 1 0 + n → orders_of is_row_erase t ≡ n
    → orders_of is_row_erase (pick chosen s t) ≡ pick (chosen && erase) 1 0 + n
unfolding pick
chosen_erases true erase s t n p q = p
chosen_erases false erase s t n p q = q ∙ sym (zero-add n)

-- ---- segments

increments_erases : (n : ℕ) → orders_of is_row_erase (replicate n Increment) ≡ 0
unfolding orders_of is_row_erase pick
increments_erases zero = refl
increments_erases (suc n) = let rest : orders_of is_row_erase (replicate n Increment) ≡ 0 = increments_erases n in omega arith

walk_erases : (from to : ℕ) → orders_of is_row_erase (walk from to) ≡ 0
unfolding walk
walk_erases from to = increments_erases (to - from)

loads_erases : (word : ℕ → ℕ) (i n : ℕ) → orders_of is_row_erase (loads word i n) ≡ 0
unfolding orders_of is_row_erase loads pick
loads_erases word i zero = refl
loads_erases word i (suc zero) = refl
loads_erases word i (suc (suc n)) = let rest : orders_of is_row_erase (loads word (i + 1) (suc n)) ≡ 0 = loads_erases word (i + 1) (suc n) in omega arith

erasing_erases : (b : Bool) → orders_of is_row_erase (erasing b) ≡ pick b 1 0
unfolding orders_of is_row_erase erasing pick
erasing_erases true = refl
erasing_erases false = refl

module _ (chip : Chip) (word : ℕ → ℕ) where
  sets_erases : (i n : ℕ) → orders_of is_row_erase (set_steps chip word i n) ≡ 0
  unfolding orders_of is_row_erase set_steps pick
  sets_erases i zero = refl
  sets_erases i (suc zero) =
      let joined : orders_of is_row_erase (loads word i chip.group ++ Begin ∷ []) ≡ orders_of is_row_erase (loads word i chip.group) + 0
      = orders_append is_row_erase (loads word i chip.group) (Begin ∷ []) in
      let front : orders_of is_row_erase (loads word i chip.group) ≡ 0 = loads_erases word i chip.group in
      omega arith
  sets_erases i (suc (suc n)) =
      let rest : orders_of is_row_erase (set_steps chip word (i + chip.group) (suc n)) ≡ 0 = sets_erases (i + chip.group) (suc n) in
      let joined : orders_of is_row_erase (loads word i chip.group ++ (Begin ∷ Increment ∷ set_steps chip word (i + chip.group) (suc n)))
      ≡ orders_of is_row_erase (loads word i chip.group) + (0 + (0 + orders_of is_row_erase (set_steps chip word (i + chip.group) (suc n))))
      = orders_append is_row_erase (loads word i chip.group) (Begin ∷ Increment ∷ set_steps chip word (i + chip.group) (suc n)) in
      let front : orders_of is_row_erase (loads word i chip.group) ≡ 0 = loads_erases word i chip.group in
      omega arith

  row_erases : (erase : Bool) (at first : ℕ) → orders_of is_row_erase (row_steps chip erase word at first) ≡ pick erase 1 0
  unfolding row_steps
  row_erases erase at first =
      let joined : orders_of is_row_erase (walk at first ++ (erasing erase ++ set_steps chip word first chip.sets))
      ≡ orders_of is_row_erase (walk at first) + orders_of is_row_erase (erasing erase ++ set_steps chip word first chip.sets)
      = orders_append is_row_erase (walk at first) (erasing erase ++ set_steps chip word first chip.sets) in
      let rest : orders_of is_row_erase (erasing erase ++ set_steps chip word first chip.sets) ≡ orders_of is_row_erase (erasing erase) + orders_of is_row_erase (set_steps chip word first chip.sets)
      = orders_append is_row_erase (erasing erase) (set_steps chip word first chip.sets) in
      let up : orders_of is_row_erase (walk at first) ≡ 0 = walk_erases at first in
      let own : orders_of is_row_erase (erasing erase) ≡ pick erase 1 0 = erasing_erases erase in
      let sets : orders_of is_row_erase (set_steps chip word first chip.sets) ≡ 0 = sets_erases first chip.sets in
      omega arith

  -- one for each row that is written and erased
  rows_erases : (erase chosen : ℕ → Bool) (n k at : ℕ) → orders_of is_row_erase (rows_from chip erase word chosen n k at) ≡ count_to n (λ j. chosen (k + j) && erase (k + j))
  rows_erases erase chosen zero k at = unfold rows_from orders_of count_to in refl
  rows_erases erase chosen (suc n) k at =
      ap (orders_of is_row_erase) (rows_open chip erase word chosen n k at)
      ∙ (chosen_erases (chosen k) (erase k) _ _ (count_to n (λ j. chosen (k + 1 + j) && erase (k + 1 + j)))
      (orders_append is_row_erase (row_steps chip (erase k) word at (k * chip.row)) (rows_from chip erase word chosen n (k + 1) (k * chip.row + (chip.row - 1)))
      ∙ ap₂ (λ x y. x + y) (row_erases (erase k) at (k * chip.row)) (rows_erases erase chosen n (k + 1) (k * chip.row + (chip.row - 1))))
      (rows_erases erase chosen n (k + 1) at)
      ∙ sym (count_next n k (λ i. chosen i && erase i)))

word_erases : (word at k : ℕ) → orders_of is_row_erase (word_steps word at k) ≡ 0
unfolding word_steps orders_of is_row_erase pick
word_erases word at k = orders_append is_row_erase (walk at k) (LoadData word ∷ Begin ∷ []) ∙ ap (λ n. n + 0) (walk_erases at k)

writes_erases : (word : ℕ → ℕ) (chosen : ℕ → Bool) (n k at : ℕ) → orders_of is_row_erase (writes_from word chosen n k at) ≡ 0
writes_erases word chosen zero k at = unfold writes_from orders_of in refl
writes_erases word chosen (suc n) k at =
    ap (orders_of is_row_erase) (writes_open word chosen n k at)
    ∙ (pick_map (orders_of is_row_erase) (chosen k) (word_steps (word k) at k ++ writes_from word chosen n (k + 1) k) (writes_from word chosen n (k + 1) at)
    ∙ (ap₂ (pick (chosen k))
    (orders_append is_row_erase (word_steps (word k) at k) (writes_from word chosen n (k + 1) k) ∙ ap₂ (λ x y. x + y) (word_erases (word k) at k) (writes_erases word chosen n (k + 1) k))
    (writes_erases word chosen n (k + 1) at)
    ∙ pick_same (chosen k) 0))

-- one for the user IDs, if any word of configuration space is written
config_erases : (chip : Chip) (erase : Bool) (word : ℕ → ℕ) (chosen : ℕ → Bool)
    → orders_of is_row_erase (config_steps chip erase word chosen) ≡ pick (some chip.reading_tail chosen && erase) 1 0
unfolding config_steps
config_erases chip erase word chosen =
    chosen_erases (some chip.reading_tail chosen) erase
    (LoadConfiguration erased ∷ (erasing erase ++ writes_from (λ k. word (chip.words + k)) chosen chip.reading_tail 0 0)) [] 0 (loaded ∙ joined) (unfold orders_of in refl)
    ∙ add-zero (pick (some chip.reading_tail chosen && erase) 1 0)
  where
    writes : List Order
    writes = writes_from (λ k. word (chip.words + k)) chosen chip.reading_tail 0 0

    loaded : orders_of is_row_erase (LoadConfiguration erased ∷ (erasing erase ++ writes)) ≡ orders_of is_row_erase (erasing erase ++ writes)
    loaded = unfold orders_of is_row_erase pick in omega arith

    joined : orders_of is_row_erase (erasing erase ++ writes) ≡ pick erase 1 0 + 0
    joined = orders_append is_row_erase (erasing erase) writes ∙ ap₂ (λ x y. x + y) (erasing_erases erase) (writes_erases (λ k. word (chip.words + k)) chosen chip.reading_tail 0 0)

-- ---- a body

pub body_erases : (chip : Chip) (word old : ℕ → ℕ) (erase_row : ℕ → Bool) (erase_ids all_ids : Bool)
    → orders_of is_row_erase (body_of chip (task_of chip word old erase_row erase_ids all_ids))
    ≡ count_to (chip.words / chip.row) (λ k. row_differs chip word old k && erase_row k) + pick (some chip.reading_tail (config_writes chip word old all_ids) && erase_ids) 1 0
body_erases chip word old erase_row erase_ids all_ids =
    ap (orders_of is_row_erase) (body_opens chip word old erase_row erase_ids all_ids)
    ∙ (orders_append is_row_erase (rows_from chip erase_row word (row_differs chip word old) (chip.words / chip.row) 0 0) (config_steps chip erase_ids word (config_writes chip word old all_ids))
    ∙ ap₂ (λ x y. x + y)
    (rows_erases chip word erase_row (row_differs chip word old) (chip.words / chip.row) 0 0 ∙ count_same _ (λ k. row_differs chip word old k && erase_row k) (chip.words / chip.row) (λ k p. rw (zero-add k)))
    (config_erases chip erase_ids word (config_writes chip word old all_ids)))

module _ (chip : Chip) (word old : ℕ → ℕ) where
  -- a task that erases just what rises, and writes every user ID where one differs
  pub task_erases : 0 < chip.ids → chip.ids ≤ chip.reading_tail
      → orders_of is_row_erase (body_of chip (task_of chip word old (row_rises chip word old) (id_rises chip word old) (id_differs chip word old)))
      ≡ count_to (chip.words / chip.row) (row_rises chip word old) + pick (id_rises chip word old) 1 0
  task_erases some_id ids_within =
      body_erases chip word old (row_rises chip word old) (id_rises chip word old) (id_differs chip word old)
      ∙ ap₂ (λ x y. x + y)
      (count_same (λ k. row_differs chip word old k && row_rises chip word old k) (row_rises chip word old) (chip.words / chip.row) (λ k p. implied (row_differs chip word old k) (row_rises chip word old k) (row_rises_differs chip word old k)))
      (ap (λ b. pick b 1 0) (implied (some chip.reading_tail (config_writes chip word old (id_differs chip word old))) (id_rises chip word old) written))
    where
      implied : (a b : Bool) → (b ≡ true → a ≡ true) → (a && b) ≡ b
      implied a b h = same_test (a && b) b (second_holds a b) (λ e. both a b (h e) e)

      written : id_rises chip word old ≡ true → some chip.reading_tail (config_writes chip word old (id_differs chip word old)) ≡ true
      written e =
          some_here chip.reading_tail (config_writes chip word old (id_differs chip word old)) 0 (omega arith)
          (writes_all chip word old (id_differs chip word old) 0 (id_rises_differs chip word old e) some_id)

-- ---- an update

-- one for each row that rises, and one if a user ID does
pub erases_counted : (d : Device) (image reading : List ℕ)
    → orders_of is_row_erase (update_steps d image reading)
    ≡ count_to (d.words / d.row) (row_rises (chip_of d) (wanted d image reading) (known reading)) + pick (id_rises (chip_of d) (wanted d image reading) (known reading)) 1 0
unfolding update_steps update_task orders_of is_row_erase pick
erases_counted d image reading = zero-add _ ∙ task_erases (chip_of d) (wanted d image reading) (known reading) (omega arith) (omega arith)
