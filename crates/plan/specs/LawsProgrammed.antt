-- What a whole stream leaves on any chip: all that can be programmed is as wanted, and this family's programmed cells are these.
use Rattle.std.specs.Prelude.{ℕ, ◌+◌, ◌-◌, ◌/◌, ◌%◌, ◌*◌, ◌≤◌, ◌<◌, ◌≡◌, Bool, true, false, ◌||◌, ◌⊎◌, List, ltb, length, get_or}
use Rattle.std.proofs.Common.{arith, ap, ◌∙◌, inl, inr, ⊎_elim, ltb-true}
use Rattle.std.proofs.Math.Path.{refl, sym}
use Rattle.words.specs.Choice.{pick}
use Rattle.words.specs.Lists.{build}
use Rattle.words.specs.LawsChoice.{pick_true, pick_false, same_test}
use Rattle.words.specs.LawsLists.{build_ext, length_build, get_or_build, get_d_past}
use Rattle.device.specs.declared.Device.{Device}
use Rattle.device.specs.Record.{device_ok}
use Rattle.device.specs.Memory.{cells_tail, ids, is_config, programmable}
use Rattle.device.specs.LawsRecord.{Rules}
use Rattle.device.specs.LawsMemory.{programmable_low}
use Rattle.target.specs.Chip.{Chip, chip_of}
use Rattle.target.specs.Effects.{bulk_erased}
use Rattle.target.specs.Step.{sound_cells}
use Rattle.target.specs.Stream.{bytes_of}
use Rattle.target.specs.Run.{run_refusal}
use Rattle.target.specs.LawsChip.{SoundChip, Burning, sound_chip}
use Rattle.target.specs.LawsRun.{before_none}
use Rattle.target.specs.LawsStream.{length_bytes}
use Rattle.words.specs.LawsTests.{by_test, by_lt, or_cases, or_right}
use Rattle.target.specs.LawsBlocks.{bulk_program, bulk_id, bulk_config, bulk_cases, bulk_within}
use Rattle.target.specs.declared.Order.{Order}
use Rattle.aim.specs.Wanted.{wanted, row_differs, config_writes}
use Rattle.plan.specs.Steps.{Task, task_of}
use Rattle.plan.specs.Demands.{programmed}
use Rattle.aim.specs.LawsWanted.{row_same, unwritten_same}
use Rattle.plan.specs.LawsSafe.{SoundTask, spoken, spoken_program, spoken_past}
use Rattle.plan.specs.LawsSafeBody.{finished}

-- what Bulk Erase covers from configuration space can be programmed, and is as wanted; every other word is the first cells'
unfoldable pub programmed_on : Chip → (word : ℕ → ℕ) → (first : List ℕ) → List ℕ
programmed_on chip word first = build (chip.words + chip.cells_tail) (λ i. pick (bulk_erased chip chip.base i) (word i) (get_or first i 0))

module _ (chip : Chip) (word : ℕ → ℕ) (first : List ℕ) where
  pub length_programmed : length (programmed_on chip word first) ≡ chip.words + chip.cells_tail
  unfolding programmed_on
  length_programmed = length_build (chip.words + chip.cells_tail) _

  pub programmed_word : SoundChip chip → (i : ℕ) → bulk_erased chip chip.base i ≡ true → get_or (programmed_on chip word first) i 0 ≡ word i
  unfolding programmed_on
  programmed_word sound i e =
      let x : i < chip.words + chip.reading_tail = bulk_within chip sound i e in
      let z : chip.reading_tail ≤ chip.cells_tail = sound.within in
      get_or_build (chip.words + chip.cells_tail) _ i (omega arith) ∙ pick_true (bulk_erased chip chip.base i) _ _ e

  entry : (i : ℕ) → i < chip.words + chip.cells_tail → bulk_erased chip chip.base i ≡ false → get_or (programmed_on chip word first) i 0 ≡ get_or first i 0
  unfolding programmed_on
  entry i h e = get_or_build (chip.words + chip.cells_tail) _ i h ∙ pick_false (bulk_erased chip chip.base i) _ _ e

  pub programmed_other : length first ≡ chip.words + chip.cells_tail → (i : ℕ) → bulk_erased chip chip.base i ≡ false → get_or (programmed_on chip word first) i 0 ≡ get_or first i 0
  programmed_other long i e =
      by_lt i (chip.words + chip.cells_tail) (λ h. entry i h e)
      (λ h. get_d_past (programmed_on chip word first) i (rw length_programmed h) ∙ sym (get_d_past first i (rw long h)))

module _ (chip : Chip) (sound : SoundChip chip) (b : Burning chip) (t : Task) (g : SoundTask chip b t) where
  -- what a task speaks of can be programmed
  pub spoken_bulk : (i : ℕ) → spoken chip t i ≡ true → bulk_erased chip chip.base i ≡ true
  spoken_bulk i e =
      by_lt i chip.words (λ h. bulk_program chip sound i h)
      (λ h. ⊎_elim (λ (p : i - chip.words < chip.ids). bulk_id chip sound i h (omega arith)) (λ p. bulk_config chip sound i h p) (g.only (i - chip.words) (sym (spoken_past chip t i h) ∙ e)))

  -- what a task leaves, if each word that it does not speak of is as wanted before, or cannot be programmed
  pub finished_programmed : (first cells : List ℕ)
      → ((i : ℕ) → bulk_erased chip chip.base i ≡ true → spoken chip t i ≡ false → get_or first i 0 ≡ t.word i)
      → ((i : ℕ) → bulk_erased chip chip.base i ≡ false → get_or first i 0 ≡ get_or cells i 0)
      → finished chip t first ≡ programmed_on chip t.word cells
  unfolding finished programmed_on
  finished_programmed first cells same other = build_ext (chip.words + chip.cells_tail) _ _ (λ i h. at_each i)
    where
      at_each : (i : ℕ) → pick (spoken chip t i) (t.word i) (get_or first i 0) ≡ pick (bulk_erased chip chip.base i) (t.word i) (get_or cells i 0)
      at_each i =
          by_test (spoken chip t i)
          (λ e. pick_true (spoken chip t i) _ _ e ∙ sym (pick_true (bulk_erased chip chip.base i) _ _ (spoken_bulk i e)))
          (λ e. pick_false (spoken chip t i) _ _ e
          ∙ by_test (bulk_erased chip chip.base i)
          (λ p. same i p e ∙ sym (pick_true (bulk_erased chip chip.base i) _ _ p))
          (λ p. other i p ∙ sym (pick_false (bulk_erased chip chip.base i) _ _ p)))

-- a word that can be programmed and that a task of what differs does not speak of is wanted as it was
pub unspoken_same : (chip : Chip) → SoundChip chip → (word old : ℕ → ℕ) (erase_row : ℕ → Bool) (erase_ids all_ids : Bool) (i : ℕ)
    → bulk_erased chip chip.base i ≡ true → spoken chip (task_of chip word old erase_row erase_ids all_ids) i ≡ false → word i ≡ old i
unspoken_same chip sound word old erase_row erase_ids all_ids i p n =
    by_lt i chip.words
    (λ h. row_same chip word old sound.some_row i (rows_is ∙ (sym (spoken_program chip task i h) ∙ n)))
    (λ h. past (i - chip.words) (omega arith)
    (⊎_elim (λ (q : i < chip.words + chip.ids). inl (omega arith)) (λ q. inr q) (bulk_cases chip sound i p h)) (writes_is (i - chip.words) ∙ (sym (spoken_past chip task i h) ∙ n)))
  where
    task : Task
    task = task_of chip word old erase_row erase_ids all_ids

    rows_is : row_differs chip word old (i / chip.row) ≡ task.rows (i / chip.row)
    rows_is = unfold task_of in refl

    writes_is : (k : ℕ) → config_writes chip word old all_ids k ≡ task.writes k
    writes_is k = unfold task_of in refl

    past : (k : ℕ) → chip.words + k ≡ i → (k < chip.ids) ⊎ (chip.is_config k ≡ true) → config_writes chip word old all_ids k ≡ false → word i ≡ old i
    past k e own q = rw e at (unwritten_same chip word old all_ids k own q)

-- ---- this family

-- Bulk Erase covers just what is programmable
pub bulk_programmable : (d : Device) → Rules d → (i : ℕ) → bulk_erased (chip_of d) (chip_of d).base i ≡ programmable d.words i
unfolding programmable
bulk_programmable d r i = same_test (bulk_erased (chip_of d) (chip_of d).base i) (ltb i d.words || ltb (i - d.words) ids || is_config (i - d.words)) to from
  where
    s : SoundChip (chip_of d)
    s = sound_chip d r

    low : i < d.words + ids → (ltb i d.words || ltb (i - d.words) ids || is_config (i - d.words)) ≡ true
    low h = unfold programmable in programmable_low d.words i h

    to : bulk_erased (chip_of d) (chip_of d).base i ≡ true → (ltb i d.words || ltb (i - d.words) ids || is_config (i - d.words)) ≡ true
    to e =
        by_lt i d.words (λ h. low (omega arith))
        (λ h. ⊎_elim (λ p. low p) (λ p. or_right (ltb i d.words || ltb (i - d.words) ids) (is_config (i - d.words)) p) (bulk_cases (chip_of d) s i e h))

    from : (ltb i d.words || ltb (i - d.words) ids || is_config (i - d.words)) ≡ true → bulk_erased (chip_of d) (chip_of d).base i ≡ true
    from e =
        by_lt i d.words (λ h. bulk_program (chip_of d) s i h)
        (λ h. ⊎_elim
        (λ p. ⊎_elim (λ q. let z : i < d.words = ltb-true i d.words q in absurd (omega arith))
        (λ q. let z : i - d.words < ids = ltb-true (i - d.words) ids q in bulk_id (chip_of d) s i h (omega arith)) (or_cases (ltb i d.words) (ltb (i - d.words) ids) p))
        (λ p. bulk_config (chip_of d) s i h p) (or_cases (ltb i d.words || ltb (i - d.words) ids) (is_config (i - d.words)) e))

pub programmed_is : (d : Device) → Rules d → (image reading first : List ℕ) → length first ≡ d.words + cells_tail
    → programmed_on (chip_of d) (wanted d image reading) first ≡ programmed d image reading first
unfolding programmed_on programmed
programmed_is d r image reading first long =
    ap (λ n. build n (λ i. pick (bulk_erased (chip_of d) (chip_of d).base i) (wanted d image reading i) (get_or first i 0))) (sym long)
    ∙ build_ext (length first) _ _ (λ i h. ap (λ p. pick p (wanted d image reading i) (get_or first i 0)) (bulk_programmable d r i))

-- no run of a whole stream over sound cells is refused before its first step
pub unrefused : (d : Device) → device_ok d ≡ true → (s : List Order) (cells : List ℕ) → sound_cells (chip_of d) cells ≡ true → run_refusal d (bytes_of s) cells ≡ 0
unrefused d ok s cells sound = sym (before_none d (bytes_of s) cells ok sound threes)
  where
    threes : length (bytes_of s) % 3 ≡ 0
    threes = let e : length (bytes_of s) ≡ 3 * length s = length_bytes s in omega arith
