-- Every load of a task's body has a word of 14 bits.
use Prim.Native.Nat.{ℕ, zero, suc, ◌+◌, ◌-◌, ◌*◌, ◌/◌, ◌<◌}
use native.Mathlib.Omega.{arith}
use Rattle.std.specs.Prelude.{Bool, true, false, List, [], ◌∷◌, ◌++◌, replicate}
use Rattle.words.specs.Choice.{pick}
use Rattle.target.specs.Chip.{Chip}
use Rattle.target.specs.LawsStream.{FitsAll, fits_append}
use Rattle.target.specs.declared.Order.{Order}
use Rattle.target.specs.declared.Order.TheVariants.{LoadData, Increment, Begin}
use Rattle.aim.specs.Wanted.{some}
use Rattle.plan.specs.Steps.{Task, walk, loads, set_steps, erasing, row_steps, rows_from, word_steps, writes_from, config_steps, body_of}

fits_increments : (n : ℕ) → FitsAll (replicate n Increment)
fits_increments zero = tt
fits_increments (suc n) = (tt, fits_increments n)

fits_walk : (from to : ℕ) → FitsAll (walk from to)
unfolding walk
fits_walk from to = fits_increments (to - from)

fits_erasing : (b : Bool) → FitsAll (erasing b)
unfolding erasing
fits_erasing true = (tt, tt)
fits_erasing false = tt

fits_pick : (b : Bool) (s t : List Order) → FitsAll s → FitsAll t → FitsAll (pick b s t)
unfolding pick
fits_pick true s t p q = p
fits_pick false s t p q = q

fits_word : (word at k : ℕ) → word < 0x4000 → FitsAll (word_steps word at k)
unfolding word_steps
fits_word word at k h = fits_append (walk at k) (LoadData word ∷ Begin ∷ []) (fits_walk at k) (h, (tt, tt))

module _ (word : ℕ → ℕ) (fit : (i : ℕ) → word i < 0x4000) where
  fits_loads : (n i : ℕ) → FitsAll (loads word i n)
  unfolding loads
  fits_loads zero i = tt
  fits_loads (suc zero) i = (fit i, tt)
  fits_loads (suc (suc n)) i = (fit i, (tt, fits_loads (suc n) (i + 1)))

  fits_writes : (chosen : ℕ → Bool) (n k at : ℕ) → FitsAll (writes_from word chosen n k at)
  unfolding writes_from
  fits_writes chosen zero k at = tt
  fits_writes chosen (suc n) k at =
      fits_pick (chosen k) _ _ (fits_append (word_steps (word k) at k) _ (fits_word (word k) at k (fit k)) (fits_writes chosen n (k + 1) k)) (fits_writes chosen n (k + 1) at)

module _ (chip : Chip) (t : Task) (fit : (i : ℕ) → t.word i < 0x4000) where
  fits_sets : (n i : ℕ) → FitsAll (set_steps chip t.word i n)
  unfolding set_steps
  fits_sets zero i = tt
  fits_sets (suc zero) i = fits_append (loads t.word i chip.group) (Begin ∷ []) (fits_loads t.word fit chip.group i) (tt, tt)
  fits_sets (suc (suc n)) i =
      fits_append (loads t.word i chip.group) (Begin ∷ Increment ∷ set_steps chip t.word (i + chip.group) (suc n)) (fits_loads t.word fit chip.group i)
      (tt, (tt, fits_sets (suc n) (i + chip.group)))

  fits_row : (erase : Bool) (at first : ℕ) → FitsAll (row_steps chip erase t.word at first)
  unfolding row_steps
  fits_row erase at first =
      fits_append (walk at first) (erasing erase ++ set_steps chip t.word first chip.sets) (fits_walk at first)
      (fits_append (erasing erase) (set_steps chip t.word first chip.sets) (fits_erasing erase) (fits_sets chip.sets first))

  fits_rows : (n k at : ℕ) → FitsAll (rows_from chip t.erase_row t.word t.rows n k at)
  unfolding rows_from
  fits_rows zero k at = tt
  fits_rows (suc n) k at =
      fits_pick (t.rows k) _ _
      (fits_append (row_steps chip (t.erase_row k) t.word at (k * chip.row)) _ (fits_row (t.erase_row k) at (k * chip.row))
      (fits_rows n (k + 1) (k * chip.row + (chip.row - 1))))
      (fits_rows n (k + 1) at)

  fits_config : FitsAll (config_steps chip t.erase_ids t.word t.writes)
  unfolding config_steps
  fits_config =
      fits_pick (some chip.reading_tail t.writes) _ _
      (omega arith, fits_append (erasing t.erase_ids) _ (fits_erasing t.erase_ids) written) tt
    where
      written : FitsAll (writes_from (λ k. t.word (chip.words + k)) t.writes chip.reading_tail 0 0)
      written = fits_writes (λ k. t.word (chip.words + k)) (λ k. fit (chip.words + k)) t.writes chip.reading_tail 0 0

  pub fits_body : FitsAll (body_of chip t)
  unfolding body_of
  fits_body =
      fits_append (rows_from chip t.erase_row t.word t.rows (chip.words / chip.row) 0 0) (config_steps chip t.erase_ids t.word t.writes)
      (fits_rows (chip.words / chip.row) 0 0) fits_config
