-- The segments of a stream, opened one by one, as loops write them.
use Rattle.std.specs.Prelude.{ℕ, suc, ◌+◌, ◌-◌, ◌*◌, ◌/◌, ◌≤◌, ◌<◌, ◌≡◌, Bool, true, false, ◌&&◌, List, [], ◌∷◌, ◌++◌}
use Rattle.std.proofs.Common.{suc-mul, add-mul, mul-le-mul_right, arith, sym, ◌∙◌}
use Rattle.std.proofs.Math.Path.{refl, ap}
use Rattle.std.proofs.Math.ListN.{replicate}
use Rattle.words.specs.Choice.{pick}
use Rattle.words.specs.Word.{erased}
use Rattle.words.specs.LawsChoice.{pick_true, pick_false}
use Rattle.device.specs.declared.Device.{Device}
use Rattle.target.specs.Chip.{Chip, chip_of}
use Rattle.target.specs.declared.Order.{Order}
use Rattle.target.specs.declared.Order.TheVariants.{LoadConfiguration, LoadData, Read, Increment, ResetAddress, Begin, BulkErase, RowErase}
use Rattle.aim.specs.Wanted.{known, wanted, some, row_differs, row_rises, id_differs, id_rises, config_writes}
use Rattle.plan.specs.Steps.{walk, loads, set_steps, erasing, row_steps, rows_from, word_steps, writes_from, config_steps, task_of, body_of}
use Rattle.plan.specs.Steps.{update_task, update_steps, fresh_task, fresh_steps, reads, read_steps, read_back_steps}

-- one less is left
one_less : (n k : ℕ) → k < n → n - k ≡ suc (n - (k + 1))
one_less n k h = omega arith

none_left : (n k : ℕ) → n ≤ k → n - k ≡ 0
none_left n k h = omega arith

-- ---- Increments

module _ (from to : ℕ) where
  pub walk_more : from < to → walk from to ≡ Increment ∷ walk (from + 1) to
  unfolding walk
  walk_more h = ap (λ n. replicate n Increment) (one_less to from h)

  pub walk_none : to ≤ from → walk from to ≡ []
  unfolding walk
  walk_none h = ap (λ n. replicate n Increment) (none_left to from h)

-- ---- words loaded, words read

module _ (word : ℕ → ℕ) (i n : ℕ) where
  pub loads_more : 1 < n → loads word i n ≡ LoadData (word i) ∷ Increment ∷ loads word (i + 1) (n - 1)
  loads_more h = ap (loads word i) two ∙ (opened ∙ ap (λ m. LoadData (word i) ∷ Increment ∷ loads word (i + 1) m) (sym rest))
    where
      opened : loads word i (suc (suc (n - 2))) ≡ LoadData (word i) ∷ Increment ∷ loads word (i + 1) (suc (n - 2))
      opened = unfold loads in refl

      two : n ≡ suc (suc (n - 2))
      two = omega arith

      rest : n - 1 ≡ suc (n - 2)
      rest = omega arith

  pub loads_last : n ≡ 1 → loads word i n ≡ LoadData (word i) ∷ []
  loads_last e = ap (loads word i) e ∙ (unfold loads in refl)

-- the words from i up to a last one
module _ (word : ℕ → ℕ) (i last : ℕ) where
  pub loads_next : i < last → loads word i (last + 1 - i) ≡ (LoadData (word i) ∷ []) ++ ((Increment ∷ []) ++ loads word (i + 1) (last + 1 - (i + 1)))
  loads_next h = loads_more word i (last + 1 - i) (omega arith) ∙ ap (λ n. LoadData (word i) ∷ Increment ∷ loads word (i + 1) n) (omega arith)

  pub loads_end : i ≡ last → loads word i (last + 1 - i) ≡ LoadData (word last) ∷ []
  loads_end e = loads_last word i (last + 1 - i) (omega arith) ∙ ap (λ j. LoadData (word j) ∷ []) e

module _ (n : ℕ) where
  pub reads_more : 1 < n → reads n ≡ Read ∷ Increment ∷ reads (n - 1)
  reads_more h = ap reads two ∙ (opened ∙ ap (λ m. Read ∷ Increment ∷ reads m) (sym rest))
    where
      opened : reads (suc (suc (n - 2))) ≡ Read ∷ Increment ∷ reads (suc (n - 2))
      opened = unfold reads in refl

      two : n ≡ suc (suc (n - 2))
      two = omega arith

      rest : n - 1 ≡ suc (n - 2)
      rest = omega arith

  pub reads_last : n ≡ 1 → reads n ≡ Read ∷ []
  reads_last e = ap reads e ∙ (unfold reads in refl)

-- of `count` words, the k-th is read, from 1 on
module _ (count k : ℕ) where
  pub reads_next : k < count → reads (count + 1 - k) ≡ (Read ∷ []) ++ ((Increment ∷ []) ++ reads (count + 1 - (k + 1)))
  reads_next h = reads_more (count + 1 - k) (omega arith) ∙ ap (λ n. Read ∷ Increment ∷ reads n) (omega arith)

  pub reads_end : k ≡ count → reads (count + 1 - k) ≡ Read ∷ []
  reads_end e = reads_last (count + 1 - k) (omega arith)

-- ---- rows

pub erasing_yes : (b : Bool) → b ≡ true → erasing b ≡ RowErase ∷ []
erasing_yes b e = ap erasing e ∙ (unfold erasing in refl)

pub erasing_no : (b : Bool) → b ≡ false → erasing b ≡ []
erasing_no b e = ap erasing e ∙ (unfold erasing in refl)

-- a row that is one latch set
pub row_opens : (d : Device) (erase : Bool) (word : ℕ → ℕ) (at first : ℕ)
    → row_steps (chip_of d) erase word at first ≡ walk at first ++ (erasing erase ++ (loads word first d.row ++ Begin ∷ []))
unfolding row_steps set_steps
row_opens d erase word at first = refl

pub row_same : (chip : Chip) (a b : Bool) (word : ℕ → ℕ) (at first : ℕ) → a ≡ b → row_steps chip a word at first ≡ row_steps chip b word at first
row_same chip a b word at first e = ap (λ x. row_steps chip x word at first) e

module _ (chip : Chip) (erase : ℕ → Bool) (word : ℕ → ℕ) (chosen : ℕ → Bool) (n k at : ℕ) where
  -- one row more than n
  pub rows_open : rows_from chip erase word chosen (suc n) k at
      ≡ pick (chosen k)
      (row_steps chip (erase k) word at (k * chip.row) ++ rows_from chip erase word chosen n (k + 1) (k * chip.row + (chip.row - 1)))
      (rows_from chip erase word chosen n (k + 1) at)
  unfolding rows_from
  rows_open = refl

-- none is written yet
pub rows_all : (chip : Chip) (erase : ℕ → Bool) (word : ℕ → ℕ) (chosen : ℕ → Bool) (n : ℕ) → rows_from chip erase word chosen n 0 0 ≡ rows_from chip erase word chosen (n - 0) 0 0
rows_all chip erase word chosen n = ap (λ m. rows_from chip erase word chosen m 0 0) (omega arith)

module _ (chip : Chip) (erase : ℕ → Bool) (word : ℕ → ℕ) (chosen : ℕ → Bool) (n k at : ℕ) where
  one_row_lem : k < n → rows_from chip erase word chosen (n - k) k at ≡ rows_from chip erase word chosen (suc (n - (k + 1))) k at
  one_row_lem h = ap (λ m. rows_from chip erase word chosen m k at) (one_less n k h)

  pub rows_yes : k < n → chosen k ≡ true
      → rows_from chip erase word chosen (n - k) k at
      ≡ row_steps chip (erase k) word at (k * chip.row) ++ rows_from chip erase word chosen (n - (k + 1)) (k + 1) (k * chip.row + (chip.row - 1))
  rows_yes h e = one_row_lem h ∙ (rows_open chip erase word chosen (n - (k + 1)) k at ∙ pick_true (chosen k) _ _ e)

  pub rows_no : k < n → chosen k ≡ false → rows_from chip erase word chosen (n - k) k at ≡ rows_from chip erase word chosen (n - (k + 1)) (k + 1) at
  rows_no h e = one_row_lem h ∙ (rows_open chip erase word chosen (n - (k + 1)) k at ∙ pick_false (chosen k) _ _ e)

  pub rows_none : n ≤ k → rows_from chip erase word chosen (n - k) k at ≡ []
  rows_none h = ap (λ m. rows_from chip erase word chosen m k at) (none_left n k h) ∙ (unfold rows_from in refl)

-- ---- words of configuration space

pub word_opens : (word at k : ℕ) → word_steps word at k ≡ walk at k ++ (LoadData word ∷ Begin ∷ [])
unfolding word_steps
word_opens word at k = refl

pub word_same : (v w at k : ℕ) → v ≡ w → word_steps v at k ≡ word_steps w at k
word_same v w at k e = ap (λ x. word_steps x at k) e

module _ (word : ℕ → ℕ) (chosen : ℕ → Bool) (n k at : ℕ) where
  -- one word more than n
  pub writes_open : writes_from word chosen (suc n) k at ≡ pick (chosen k) (word_steps (word k) at k ++ writes_from word chosen n (k + 1) k) (writes_from word chosen n (k + 1) at)
  unfolding writes_from
  writes_open = refl

module _ (word : ℕ → ℕ) (chosen : ℕ → Bool) (n k at : ℕ) where
  pub writes_yes : k < n → chosen k ≡ true → writes_from word chosen (n - k) k at ≡ word_steps (word k) at k ++ writes_from word chosen (n - (k + 1)) (k + 1) k
  writes_yes h e = ap (λ m. writes_from word chosen m k at) (one_less n k h) ∙ (writes_open word chosen (n - (k + 1)) k at ∙ pick_true (chosen k) _ _ e)

  pub writes_no : k < n → chosen k ≡ false → writes_from word chosen (n - k) k at ≡ writes_from word chosen (n - (k + 1)) (k + 1) at
  writes_no h e = ap (λ m. writes_from word chosen m k at) (one_less n k h) ∙ (writes_open word chosen (n - (k + 1)) k at ∙ pick_false (chosen k) _ _ e)

  pub writes_none : n ≤ k → writes_from word chosen (n - k) k at ≡ []
  writes_none h = ap (λ m. writes_from word chosen m k at) (none_left n k h) ∙ (unfold writes_from in refl)

module _ (chip : Chip) (erase : Bool) (word : ℕ → ℕ) (chosen : ℕ → Bool) where
  pub config_yes : some chip.reading_tail chosen ≡ true
      → config_steps chip erase word chosen ≡ LoadConfiguration erased ∷ (erasing erase ++ writes_from (λ k. word (chip.words + k)) chosen chip.reading_tail 0 0)
  unfolding config_steps
  config_yes e = pick_true (some chip.reading_tail chosen) _ _ e

  pub config_no : some chip.reading_tail chosen ≡ false → config_steps chip erase word chosen ≡ []
  unfolding config_steps
  config_no e = pick_false (some chip.reading_tail chosen) _ _ e

-- ---- the streams in parts

pub body_opens : (chip : Chip) (word old : ℕ → ℕ) (erase_row : ℕ → Bool) (erase_ids all_ids : Bool)
    → body_of chip (task_of chip word old erase_row erase_ids all_ids)
    ≡ rows_from chip erase_row word (row_differs chip word old) (chip.words / chip.row) 0 0 ++ config_steps chip erase_ids word (config_writes chip word old all_ids)
unfolding body_of task_of
body_opens chip word old erase_row erase_ids all_ids = refl

-- the rows that both planners write, n of them from row k on; whether one that rises is erased first is asked for
abbrev pub plan_rows : Device → (image reading : List ℕ) → (erases : Bool) → (n k at : ℕ) → List Order
plan_rows d image reading erases n k at =
    rows_from (chip_of d) (λ j. erases && row_rises (chip_of d) (wanted d image reading) (known reading) j) (wanted d image reading)
    (row_differs (chip_of d) (wanted d image reading) (known reading)) n k at

-- whether word k of configuration space is written, the words that are, n of them from word k on, and what stands around them
abbrev pub plan_written : Device → (image reading : List ℕ) → (all_ids : Bool) → (k : ℕ) → Bool
plan_written d image reading all_ids = config_writes (chip_of d) (wanted d image reading) (known reading) all_ids

abbrev pub plan_writes : Device → (image reading : List ℕ) → (all_ids : Bool) → (n k at : ℕ) → List Order
plan_writes d image reading all_ids n k at = writes_from (λ j. wanted d image reading (d.words + j)) (plan_written d image reading all_ids) n k at

abbrev pub plan_config : Device → (image reading : List ℕ) → (erase_ids all_ids : Bool) → List Order
plan_config d image reading erase_ids all_ids = config_steps (chip_of d) erase_ids (wanted d image reading) (plan_written d image reading all_ids)

-- what both planners write after their first steps
abbrev pub plan_body : Device → (image reading : List ℕ) → (erases erase_ids all_ids : Bool) → List Order
plan_body d image reading erases erase_ids all_ids =
    body_of (chip_of d)
    (task_of (chip_of d) (wanted d image reading) (known reading) (λ j. erases && row_rises (chip_of d) (wanted d image reading) (known reading) j) erase_ids all_ids)

pub update_opens : (d : Device) (image reading : List ℕ) (rise ids : Bool)
    → rise ≡ id_rises (chip_of d) (wanted d image reading) (known reading)
    → ids ≡ id_differs (chip_of d) (wanted d image reading) (known reading)
    → update_steps d image reading ≡ (ResetAddress ∷ []) ++ plan_body d image reading true rise ids
unfolding update_steps update_task
update_opens d image reading rise ids r e = rw (r, e)

pub fresh_opens : (d : Device) (image : List ℕ)
    → fresh_steps d image ≡ (LoadConfiguration erased ∷ []) ++ ((BulkErase ∷ []) ++ ((ResetAddress ∷ []) ++ plan_body d image [] false false false))
unfolding fresh_steps fresh_task
fresh_opens d image = refl

pub read_back_opens : (d : Device) → read_back_steps d ≡ (ResetAddress ∷ []) ++ (reads d.words ++ ((LoadConfiguration erased ∷ []) ++ reads (chip_of d).reading_tail))
unfolding read_back_steps read_steps
read_back_opens d = refl

-- a row ends where the next one begins
pub row_after : (k row : ℕ) → (k + 1) * row ≡ k * row + row
row_after k row = add-mul k 1 row ∙ (let e : 1 * row ≡ row = omega arith in omega arith)

-- row k of so many is not the last possible one
pub row_before : (rows k most : ℕ) → k < rows → rows ≤ most → k < most
row_before rows k most h m = omega arith

-- row k of so many ends where the rows do, at the latest
pub row_inside : (rows row k most : ℕ) → k < rows → rows * row ≤ most → k * row + row ≤ most
row_inside rows row k most h m =
    let s : suc k * row ≡ k * row + row = suc-mul k row in
    let l : suc k * row ≤ rows * row = mul-le-mul_right row h in
    omega arith
