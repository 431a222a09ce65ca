-- What a step does to the number of rows and user IDs that lack a wanted bit, on any chip whose writes set no bit: Row Erase lowers it by one at most, and nothing else but Bulk Erase lowers it.
use Rattle.std.specs.Prelude.{ℕ, ◌+◌, ◌/◌, ◌≤◌, ◌≡◌, Bool, true, false, List, ltb, leb, length, get_or}
use native.Mathlib.Omega.{arith}
use Rattle.std.proofs.Math.Path.{refl, ap}
use Rattle.std.proofs.Common.{◌∙◌, leb-true}
use Rattle.words.specs.Choice.{pick}
use Rattle.words.specs.Word.{erased}
use Rattle.words.specs.LawsChoice.{pick_true, pick_false, pick_map, pick_same, true_not_false, first_holds}
use Rattle.words.specs.Lists.{in_range}
use Rattle.words.specs.LawsLists.{get_d_past}
use Rattle.words.specs.LawsTests.{by_test, by_lt, fails, three_hold}
use Rattle.words.specs.LawsWord.{Contains}
use Rattle.target.specs.Chip.{Chip}
use Rattle.target.specs.Effects.{id_cell, at_erase, row_erased, begin_written, burnt, latch_of, edit, word_read}
use Rattle.target.specs.Model.{Effect, done, stops}
use Rattle.target.specs.Step.{Decoded, Do, Refused, Target, effect, step_effect, place, taken}
use Rattle.target.specs.LawsChip.{SoundChip}
use Rattle.target.specs.LawsEdit.{edit_hit, edit_kept, length_edit}
use Rattle.target.specs.LawsHits.{not_program}
use Rattle.target.specs.LawsBlocks.{Block, row_hits}
use Rattle.target.specs.declared.Order.{Order}
use Rattle.target.specs.declared.Order.TheVariants.{LoadConfiguration, LoadData, Read, Increment, ResetAddress, Begin, BulkErase, RowErase}
use Rattle.fewest.specs.Erases.{is_row_erase, is_bulk_erase, step_is}
use Rattle.fewest.specs.LawsClears.{OnlyClears, contains_self}
use Rattle.fewest.specs.LawsLack.{lacking, lacking_still, lacking_row, lacking_ids}

-- the words that cells hold
abbrev pub holding : List ℕ → ℕ → ℕ
holding cells i = get_or cells i 0

-- ---- edits of the cells

-- an edit whose new words have no bit that the old ones lack
edit_clears : (hit : ℕ → Bool) (new : ℕ → ℕ) (cells : List ℕ) (i : ℕ) → Contains (holding cells i) (new i) → Contains (holding cells i) (holding (edit hit new cells) i)
edit_clears hit new cells i c =
    by_test (hit i)
    (λ e.
    by_lt i (length cells) (λ p. rw (edit_hit hit new cells i p e) c)
    (λ p. rw (get_d_past cells i p, get_d_past (edit hit new cells) i (rw length_edit p)) (contains_self 0)))
    (λ e. rw (edit_kept hit new cells i e) (contains_self (holding cells i)))

-- where an edit hits nothing
edit_same : (hit : ℕ → Bool) (new : ℕ → ℕ) (cells : List ℕ) (i : ℕ) → (hit i ≡ true → ⊥) → Contains (holding cells i) (holding (edit hit new cells) i)
edit_same hit new cells i n = rw (edit_kept hit new cells i (fails (hit i) n)) (contains_self (holding cells i))

-- ---- the two orders that can be refused

module _ (chip : Chip) (t : Target) where
  read_stays : (effect chip Read t).target.cells ≡ t.cells
  unfolding effect
  read_stays =
      pick_map (λ (e : Effect Target). e.target.cells) (ltb t.read (length t.words)) (done (taken (word_read chip (place t) t.cells) t)) (stops 35 t)
      ∙ pick_same (ltb t.read (length t.words)) t.cells

  bulk_refused : ((effect chip BulkErase t).number ≡ 0 → ⊥) → (effect chip BulkErase t).target.cells ≡ t.cells
  unfolding effect
  bulk_refused h =
      by_test (ltb (place t) (chip.base + chip.reading_tail))
      (λ e. absurd (h (ap (λ (e : Effect Target). e.number) (pick_true (ltb (place t) (chip.base + chip.reading_tail)) _ (stops 33 t) e))))
      (λ e. ap (λ (e : Effect Target). e.target.cells) (pick_false (ltb (place t) (chip.base + chip.reading_tail)) _ (stops 33 t) e))

  -- a refused order changes no cell
  order_refused : (o : Order) → ((effect chip o t).number ≡ 0 → ⊥) → (effect chip o t).target.cells ≡ t.cells
  unfolding effect
  order_refused (LoadConfiguration w) h = refl
  order_refused (LoadData w) h = refl
  order_refused Read h = read_stays
  order_refused Increment h = refl
  order_refused ResetAddress h = refl
  order_refused Begin h = absurd (h refl)
  order_refused BulkErase h = bulk_refused h
  order_refused RowErase h = absurd (h refl)

  pub step_refused : (o : Decoded) → ((step_effect chip o t).number ≡ 0 → ⊥) → (step_effect chip o t).target.cells ≡ t.cells
  unfolding step_effect
  step_refused (Do o) h = order_refused o h
  step_refused (Refused n) h = refl

-- ---- Row Erase and Begin

-- with the counter past the program words Row Erase hits no program word
past_program : (chip : Chip) (a : ℕ) (cells : List ℕ) (i : ℕ) → chip.words ≤ a → row_erased chip a cells i ≡ true → chip.words ≤ i
unfolding row_erased id_cell in_range
past_program chip a cells i h e = leb-true chip.words i (first_holds (leb chip.words i) (ltb i (chip.words + chip.ids)) ids.2)
  where
    ids : (at_erase chip a ≡ true) × (chip.row_erases_ids ≡ true) × (id_cell chip i ≡ true)
    ids = three_hold (at_erase chip a) chip.row_erases_ids (id_cell chip i) (rw (not_program chip a h) at e)

module _ (chip : Chip) (sound : SoundChip chip) (clears : OnlyClears chip) (word : ℕ → ℕ) where
  -- one row, or the user IDs
  row_falls : (a : ℕ) (cells : List ℕ)
      → lacking chip word (holding cells) ≤ lacking chip word (holding (edit (row_erased chip a cells) (λ i. erased) cells)) + 1
  row_falls a cells =
      by_lt a chip.words
      (λ h. lacking_row chip sound word (holding cells) (holding (edit (row_erased chip a cells) (λ i. erased) cells)) (a / chip.row)
      (λ i n. edit_same (row_erased chip a cells) (λ i. erased) cells i (λ e. let b : Block chip chip.row a cells i = row_hits chip sound cells i a h e in n b.program b.same)))
      (λ h. lacking_ids chip sound word (holding cells) (holding (edit (row_erased chip a cells) (λ i. erased) cells))
      (λ i p. edit_same (row_erased chip a cells) (λ i. erased) cells i (λ e. let q : chip.words ≤ i = past_program chip a cells i h e in omega arith)))

  begin_stays : (a : ℕ) (latches cells : List ℕ)
      → lacking chip word (holding cells) ≤ lacking chip word (holding (edit (begin_written chip a cells) (burnt chip a latches cells) cells))
  unfolding burnt
  begin_stays a latches cells =
      lacking_still chip sound word (holding cells) (holding (edit (begin_written chip a cells) (burnt chip a latches cells) cells))
      (λ i p. edit_clears (begin_written chip a cells) (burnt chip a latches cells) cells i (clears i (holding cells i) (latch_of chip a latches i)))

  -- ---- an order

  order_falls : (o : Order) (t : Target) → is_bulk_erase o ≡ false
      → lacking chip word (holding t.cells) ≤ lacking chip word (holding (effect chip o t).target.cells) + pick (is_row_erase o) 1 0
  unfolding effect is_bulk_erase is_row_erase pick
  order_falls (LoadConfiguration w) t e = omega arith
  order_falls (LoadData w) t e = omega arith
  order_falls Read t e = let same : (effect chip Read t).target.cells ≡ t.cells = read_stays chip t in rw same (omega arith)
  order_falls Increment t e = omega arith
  order_falls ResetAddress t e = omega arith
  order_falls Begin t e = omega (arith, begin_stays (place t) t.registers.latches t.cells)
  order_falls BulkErase t e = absurd (true_not_false {b = true} refl e)
  order_falls RowErase t e = row_falls (place t) t.cells

  -- Row Erase lowers the count by one at most, and nothing else but Bulk Erase lowers it
  pub step_falls : (o : Decoded) (t : Target) → step_is is_bulk_erase o ≡ false
      → lacking chip word (holding t.cells) ≤ lacking chip word (holding (step_effect chip o t).target.cells) + pick (step_is is_row_erase o) 1 0
  unfolding step_effect step_is
  step_falls (Do o) t e = order_falls o t e
  step_falls (Refused n) t e = omega arith
