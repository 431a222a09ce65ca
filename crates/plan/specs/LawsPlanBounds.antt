-- How long the streams are ('It has 2P+18 steps', 'never more than 2P + 2P/R + 22 steps').
use Prim.Native.Nat.{ℕ, zero, suc, ◌+◌, ◌-◌, ◌*◌, ◌/◌, ◌≤◌, ◌<◌}
use Rattle.std.proofs.Common.{suc-mul, mul-add, mul_left_comm, mul-le-mul_left, sym, ◌∙◌}
use native.Mathlib.Omega.{arith}
use Rattle.std.specs.Prelude.{◌≡◌, List, [], ◌∷◌, ◌++◌}
use Rattle.std.proofs.Math.Path.{refl, ap}
use Rattle.std.proofs.Math.Bool.{Bool, true, false}
use Rattle.std.proofs.Math.ListN.{length, length-append}
use Rattle.std.proofs.lemmas.List.{length-replicate}
use Rattle.words.specs.Choice.{pick}
use Rattle.words.specs.Word.{erased}
use Rattle.words.specs.LawsChoice.{pick_true, pick_false}
use Rattle.device.specs.declared.Device.{Device}
use Rattle.device.specs.Memory.{reading_tail}
use Rattle.device.specs.Record.{most_words, device_ok}
use Rattle.device.specs.LawsRecord.{Rules, rules_lem}
use Rattle.target.specs.Chip.{Chip, chip_of}
use Rattle.target.specs.LawsChip.{SoundChip, sound_chip}
use Rattle.target.specs.declared.Order.{Order}
use Rattle.target.specs.declared.Order.TheVariants.{LoadConfiguration, LoadData, Increment, Begin}
use Rattle.aim.specs.Wanted.{known, wanted, some, row_differs, row_rises, id_differs, id_rises, config_writes}
use Rattle.plan.specs.Steps.{walk, loads, set_steps, erasing, row_steps, rows_from, word_steps, writes_from, config_steps, body_of, task_of, update_steps, fresh_steps, reads, read_steps, read_back_steps}
use Rattle.plan.specs.LawsPlanSteps.{rows_open, row_after, writes_open, config_yes, config_no, body_opens, update_opens, fresh_opens}
use Rattle.device.specs.LawsMemory.{config_below}
use Rattle.aim.specs.LawsAim.{never_written}

-- ---- segments

length_walk : (from to : ℕ) → length (walk from to) ≡ to - from
unfolding walk
length_walk from to = length-replicate (to - from) Increment

length_loads : (word : ℕ → ℕ) (i n : ℕ) → length (loads word i (suc n)) ≡ 2 * n + 1
unfolding loads
length_loads word i zero = refl
length_loads word i (suc n) = let e : length (loads word (i + 1) (suc n)) ≡ 2 * n + 1 = length_loads word (i + 1) n in omega arith

length_reads : (n : ℕ) → length (reads (suc n)) ≡ 2 * n + 1
unfolding reads
length_reads zero = refl
length_reads (suc n) = let e : length (reads (suc n)) ≡ 2 * n + 1 = length_reads n in omega arith

length_erasing : (b : Bool) → length (erasing b) ≤ 1
unfolding erasing
length_erasing true = omega arith
length_erasing false = omega arith

no_erasing : length (erasing false) ≡ 0
unfolding erasing
no_erasing = refl

module _ (chip : Chip) (word : ℕ → ℕ) (some_latch : 0 < chip.group) where
  last_set : (i : ℕ) → set_steps chip word i 1 ≡ loads word i chip.group ++ Begin ∷ []
  unfolding set_steps
  last_set i = refl

  more_sets : (i n : ℕ) → set_steps chip word i (suc (suc n)) ≡ loads word i chip.group ++ (Begin ∷ Increment ∷ set_steps chip word (i + chip.group) (suc n))
  unfolding set_steps
  more_sets i n = refl

  length_set : (i : ℕ) → length (loads word i chip.group) + 1 ≡ 2 * chip.group
  length_set i =
      let one : chip.group ≡ suc (chip.group - 1) = omega arith in
      let e : length (loads word i chip.group) ≡ 2 * (chip.group - 1) + 1 = ap (λ n. length (loads word i n)) one ∙ length_loads word i (chip.group - 1) in
      omega arith

  length_sets : (i n : ℕ) → length (set_steps chip word i (suc n)) ≡ n + suc n * (2 * chip.group)
  length_sets i zero = rw (last_set i, length-append (loads word i chip.group) (Begin ∷ [])) (omega (arith, length_set i))
  length_sets i (suc n) =
      rw (
        more_sets i n,
        length-append (loads word i chip.group) (Begin ∷ Increment ∷ set_steps chip word (i + chip.group) (suc n)),
        length_sets (i + chip.group) n,
        suc-mul (suc n) (2 * chip.group),
      )
      (omega (arith, length_set i))

-- a row of whole sets, with an Increment between each two
pub length_row : (chip : Chip) → SoundChip chip → (erase : Bool) (word : ℕ → ℕ) (at first : ℕ)
    → length (row_steps chip erase word at first) ≡ (first - at) + (length (erasing erase) + (chip.sets - 1 + 2 * chip.row))
unfolding row_steps
length_row chip s erase word at first =
    length-append (walk at first) (erasing erase ++ set_steps chip word first chip.sets)
    ∙ (rw (length_walk at first, length-append (erasing erase) (set_steps chip word first chip.sets))
    (let e : length (set_steps chip word first chip.sets) ≡ chip.sets - 1 + 2 * chip.row = sets in omega arith))
  where
    one : chip.sets ≡ suc (chip.sets - 1)
    one = let p : 0 < chip.sets = s.some_set in omega arith

    sets : length (set_steps chip word first chip.sets) ≡ chip.sets - 1 + 2 * chip.row
    sets =
        ap (λ n. length (set_steps chip word first n)) one
        ∙ (length_sets chip word s.some_latch first (chip.sets - 1)
        ∙ (ap (λ n. chip.sets - 1 + n * (2 * chip.group)) (sym one)
        ∙ ap (λ n. chip.sets - 1 + n) (mul_left_comm chip.sets 2 chip.group ∙ ap (λ n. 2 * n) (sym s.split))))

pub length_word : (word at k : ℕ) → length (word_steps word at k) ≡ (k - at) + 2
unfolding word_steps
length_word word at k = length-append (walk at k) (LoadData word ∷ Begin ∷ []) ∙ rw (length_walk at k)

-- ---- rows

module _ (chip : Chip) (sound : SoundChip chip) (erase : ℕ → Bool) (word : ℕ → ℕ) (chosen : ℕ → Bool) (erases : ℕ) (erases_most : (k : ℕ) → length (erasing (erase k)) ≤ erases) where
  -- what a row costs at most, the way to the next one included
  abbrev cost : ℕ
  cost = 2 * chip.row + (chip.sets + erases)

  -- n rows from row k on, the counter before it: the way up to it is counted in
  abbrev Bound : ℕ → Type 0
  Bound n = (k at : ℕ) → at < k * chip.row → length (rows_from chip erase word chosen n k at) + 1 + at ≤ k * chip.row + n * cost

  row_more : (n : ℕ) → Bound n → (k at : ℕ) → at ≤ k * chip.row → length (rows_from chip erase word chosen (suc n) k at) + 1 + at ≤ k * chip.row + suc n * cost
  row_more n rest k at h = by (chosen k) refl
    where
      with_it : List Order
      with_it = row_steps chip (erase k) word at (k * chip.row) ++ rows_from chip erase word chosen n (k + 1) (k * chip.row + (chip.row - 1))

      without : List Order
      without = rows_from chip erase word chosen n (k + 1) at

      next : (k + 1) * chip.row ≡ k * chip.row + chip.row
      next = row_after k chip.row

      by : (b : Bool) → chosen k ≡ b → length (rows_from chip erase word chosen (suc n) k at) + 1 + at ≤ k * chip.row + suc n * cost
      by true e =
          rw (
            rows_open chip erase word chosen n k at,
            pick_true (chosen k) with_it without e,
            length-append (row_steps chip (erase k) word at (k * chip.row)) (rows_from chip erase word chosen n (k + 1) (k * chip.row + (chip.row - 1))),
            length_row chip sound (erase k) word at (k * chip.row),
            suc-mul n cost,
          )
          (let p : 0 < chip.row = sound.some_row in
          let q : 0 < chip.sets = sound.some_set in
          let m : length (erasing (erase k)) ≤ erases = erases_most k in
          let z : (k + 1) * chip.row ≡ k * chip.row + chip.row = next in
          let r : length (rows_from chip erase word chosen n (k + 1) (k * chip.row + (chip.row - 1))) + 1 + (k * chip.row + (chip.row - 1)) ≤ (k + 1) * chip.row + n * cost
          = rest (k + 1) (k * chip.row + (chip.row - 1)) (omega arith) in omega arith)
      by false e =
          rw (rows_open chip erase word chosen n k at, pick_false (chosen k) with_it without e, suc-mul n cost)
          (let p : 0 < chip.row = sound.some_row in
          let z : (k + 1) * chip.row ≡ k * chip.row + chip.row = next in
          let r : length without + 1 + at ≤ (k + 1) * chip.row + n * cost = rest (k + 1) at (omega arith) in omega arith)

  no_rows : (k at : ℕ) → rows_from chip erase word chosen zero k at ≡ []
  unfolding rows_from
  no_rows k at = refl

  rows_bound : (n : ℕ) → Bound n
  rows_bound zero k at h = rw (no_rows k at) (omega arith)
  rows_bound (suc n) k at h = row_more n (rows_bound n) k at (omega arith)

  -- all rows, the counter at 0
  rows_cost : (n : ℕ) → 0 < n → length (rows_from chip erase word chosen n 0 0) + 1 ≤ n * cost
  rows_cost n h =
      let one : n ≡ suc (n - 1) = omega arith in
      let r : length (rows_from chip erase word chosen (suc (n - 1)) 0 0) + 1 + 0 ≤ 0 * chip.row + suc (n - 1) * cost = row_more (n - 1) (rows_bound (n - 1)) 0 0 (omega arith) in
      rw one (omega arith)

-- ---- words of configuration space

-- how many of n words from word k on are chosen
unfoldable tally : (chosen : ℕ → Bool) → (n k : ℕ) → ℕ
tally chosen zero k = 0
tally chosen (suc n) k = pick (chosen k) 1 0 + tally chosen n (k + 1)

one_at_most : (b : Bool) → pick {A = ℕ} b 1 0 ≤ 1
unfolding pick
one_at_most true = omega arith
one_at_most false = omega arith

module _ (word : ℕ → ℕ) (chosen : ℕ → Bool) where
  no_writes : (k at : ℕ) → writes_from word chosen zero k at ≡ []
  unfolding writes_from
  no_writes k at = refl

  -- n words from word k on, the counter at most there: the way up to it is counted in
  abbrev Within : ℕ → Type 0
  Within n = (k at : ℕ) → at ≤ k → at < k + n → length (writes_from word chosen n k at) + 1 + at ≤ k + n + 2 * tally chosen n k

  write_more : (n : ℕ) → Within n → Within (suc n)
  unfolding tally
  write_more n rest k at p h = by (chosen k) refl
    where
      by : (b : Bool) → chosen k ≡ b → length (writes_from word chosen (suc n) k at) + 1 + at ≤ k + suc n + 2 * (pick (chosen k) 1 0 + tally chosen n (k + 1))
      by true e =
          rw (
            writes_open word chosen n k at,
            pick_true (chosen k) (word_steps (word k) at k ++ writes_from word chosen n (k + 1) k) (writes_from word chosen n (k + 1) at) e,
            pick_true {A = ℕ} (chosen k) 1 0 e,
            length-append (word_steps (word k) at k) (writes_from word chosen n (k + 1) k),
            length_word (word k) at k,
          )
          (let r : length (writes_from word chosen n (k + 1) k) + 1 + k ≤ k + 1 + n + 2 * tally chosen n (k + 1) = rest (k + 1) k (omega arith) (omega arith) in omega arith)
      by false e =
          rw (
            writes_open word chosen n k at,
            pick_false (chosen k) (word_steps (word k) at k ++ writes_from word chosen n (k + 1) k) (writes_from word chosen n (k + 1) at) e,
            pick_false {A = ℕ} (chosen k) 1 0 e,
          )
          (let r : length (writes_from word chosen n (k + 1) at) + 1 + at ≤ k + 1 + n + 2 * tally chosen n (k + 1) = rest (k + 1) at (omega arith) (omega arith) in omega arith)

  writes_bound : (n : ℕ) → Within n
  writes_bound zero k at p h = rw (no_writes k at) (omega arith)
  writes_bound (suc n) k at p h = write_more n (writes_bound n) k at p h

  tally_most : (n k : ℕ) → tally chosen n k ≤ n
  unfolding tally
  tally_most zero k = omega arith
  tally_most (suc n) k = let a : pick (chosen k) 1 0 ≤ 1 = one_at_most (chosen k) in let b : tally chosen n (k + 1) ≤ n = tally_most n (k + 1) in omega arith

  -- all words, the counter at the first
  writes_cost : (n : ℕ) → 0 < n → length (writes_from word chosen n 0 0) + 1 ≤ n + 2 * tally chosen n 0
  writes_cost n h = let w : length (writes_from word chosen n 0 0) + 1 + 0 ≤ 0 + n + 2 * tally chosen n 0 = writes_bound n 0 0 (omega arith) (omega arith) in omega arith

  pub writes_few : (n : ℕ) → 0 < n → length (writes_from word chosen n 0 0) ≤ 3 * n - 1
  writes_few n h = omega (arith, writes_cost n h, tally_most n 0)

-- ---- any chip's body

module _ (chip : Chip) (sound : SoundChip chip) where
  some_tail : 0 < chip.reading_tail
  some_tail = let p : 0 < chip.ids = sound.some_id in let q : chip.ids ≤ chip.reading_tail = sound.ids_within in omega arith

  config_cost : (erase : Bool) (word : ℕ → ℕ) (chosen : ℕ → Bool) → length (config_steps chip erase word chosen) ≤ chip.reading_tail + 2 * tally chosen chip.reading_tail 0 + length (erasing erase)
  config_cost erase word chosen = by (some chip.reading_tail chosen) refl
    where
      words : List Order
      words = writes_from (λ k. word (chip.words + k)) chosen chip.reading_tail 0 0

      by : (b : Bool) → some chip.reading_tail chosen ≡ b → length (config_steps chip erase word chosen) ≤ chip.reading_tail + 2 * tally chosen chip.reading_tail 0 + length (erasing erase)
      by true e =
          let w : length words + 1 ≤ chip.reading_tail + 2 * tally chosen chip.reading_tail 0 = writes_cost (λ k. word (chip.words + k)) chosen chip.reading_tail some_tail in
          rw (config_yes chip erase word chosen e, length-append (erasing erase) words) (omega arith)
      by false e = rw (config_no chip erase word chosen e) (omega arith)

  body_cost : (word old : ℕ → ℕ) (erase_row : ℕ → Bool) (erase_ids all_ids : Bool) (erases : ℕ)
      → ((k : ℕ) → length (erasing (erase_row k)) ≤ erases)
      → 0 < chip.words / chip.row
      → length (body_of chip (task_of chip word old erase_row erase_ids all_ids)) + 1
      ≤ chip.words / chip.row * (2 * chip.row + (chip.sets + erases))
      + (chip.reading_tail + 2 * tally (config_writes chip word old all_ids) chip.reading_tail 0 + length (erasing erase_ids))
  body_cost word old erase_row erase_ids all_ids erases most h =
      rw (body_opens chip word old erase_row erase_ids all_ids, length-append program config)
      (omega (arith, rows_cost chip sound erase_row word (row_differs chip word old) erases most (chip.words / chip.row) h, config_cost erase_ids word (config_writes chip word old all_ids)))
    where
      program : List Order
      program = rows_from chip erase_row word (row_differs chip word old) (chip.words / chip.row) 0 0

      config : List Order
      config = config_steps chip erase_ids word (config_writes chip word old all_ids)

-- ---- the streams

module _ (d : Device) (r : Rules d) where
  sound : SoundChip (chip_of d)
  sound = sound_chip d r

  abbrev rows : ℕ
  rows = d.words / d.row

  -- a device has words, and rows of words
  pub some_words : 0 < d.words
  some_words = let p : 0 < d.row = sound.some_row in let l : d.row ≤ d.words = r.least in omega arith

  pub some_row : 0 < d.row
  some_row = sound.some_row

  some_rows : 0 < rows
  some_rows = by rows refl
    where
      by : (n : ℕ) → rows ≡ n → 0 < n
      by zero e =
          let w : rows * d.row ≡ d.words = sound.whole in
          let z : 0 * d.row ≡ d.words = rw e at w in
          let p : 0 < d.words = some_words in
          absurd (omega arith)
      by (suc n) e = omega arith

  pub few_words : rows * d.row ≤ most_words
  few_words = let w : rows * d.row ≡ d.words = sound.whole in let m : d.words ≤ most_words = r.most in omega arith

  pub few_rows : rows ≤ most_words
  few_rows = let v : rows * 1 ≤ rows * d.row = mul-le-mul_left rows some_row in omega (arith, few_words)

  -- n rows of R words at a cost of 2R + c each
  spread : (c : ℕ) → rows * (2 * d.row + c) ≡ 2 * d.words + rows * c
  spread c =
      let w : rows * d.row ≡ d.words = sound.whole in
      let m : rows * (2 * d.row) ≡ 2 * (rows * d.row) = mul_left_comm rows 2 d.row in
      mul-add rows (2 * d.row) c ∙ (omega arith)

  pub rows_few : (erase : ℕ → Bool) (word : ℕ → ℕ) (chosen : ℕ → Bool) → length (rows_from (chip_of d) erase word chosen rows 0 0) ≤ 4 * most_words
  rows_few erase word chosen =
      let b = rows_cost (chip_of d) sound erase word chosen 1 (λ k. length_erasing (erase k)) rows some_rows in
      let c : length (rows_from (chip_of d) erase word chosen rows 0 0) + 1 ≤ 2 * d.words + rows * 2 = rw (spread 2) at b in
      let w : rows * d.row ≡ d.words = sound.whole in
      let v : rows * 1 ≤ rows * d.row = mul-le-mul_left rows some_row in
      let m : d.words ≤ most_words = r.most in
      omega arith

  -- six words at most: 8004h to 8006h are never written
  tally_six : (word old : ℕ → ℕ) (all : Bool) → tally (config_writes (chip_of d) word old all) reading_tail 0 ≤ 6
  unfolding tally
  tally_six word old all =
      rw (none 4 (omega arith) (omega arith), none 5 (omega arith) (omega arith), none 6 (omega arith) (omega arith))
      (omega (arith, one_at_most (chosen 0), one_at_most (chosen 1), one_at_most (chosen 2), one_at_most (chosen 3), one_at_most (chosen 7), one_at_most (chosen 8)))
    where
      chosen : ℕ → Bool
      chosen = config_writes (chip_of d) word old all

      none : (k : ℕ) → 4 ≤ k → k < 7 → pick {A = ℕ} (config_writes (chip_of d) word old all k) 1 0 ≡ 0
      none k p q = pick_false {A = ℕ} (chosen k) 1 0 (sym (never_written (chip_of d) word old all k p (config_below k q)))

  -- 2P + 2P/R, in rows
  body_most : (word old : ℕ → ℕ) (erase : ℕ → Bool) (erase_ids all_ids : Bool) (erases : ℕ) → ((k : ℕ) → length (erasing (erase k)) ≤ erases)
      → length (body_of (chip_of d) (task_of (chip_of d) word old erase erase_ids all_ids)) + 1 ≤ 2 * d.words + rows * (1 + erases) + (21 + length (erasing erase_ids))
  body_most word old erase erase_ids all_ids erases most =
      let b : length (body_of (chip_of d) (task_of (chip_of d) word old erase erase_ids all_ids)) + 1
      ≤ rows * (2 * d.row + (1 + erases)) + (9 + 2 * tally (config_writes (chip_of d) word old all_ids) 9 0 + length (erasing erase_ids))
      = body_cost (chip_of d) sound word old erase erase_ids all_ids erases most some_rows in
      let s : rows * (2 * d.row + (1 + erases)) ≡ 2 * d.words + rows * (1 + erases) = spread (1 + erases) in
      let t : tally (config_writes (chip_of d) word old all_ids) 9 0 ≤ 6 = tally_six word old all_ids in
      omega arith

  update_most : (image reading : List ℕ) → length (update_steps d image reading) ≤ 2 * d.words + 2 * rows + 22
  update_most image reading =
      let rise : Bool = id_rises (chip_of d) (wanted d image reading) (known reading) in
      let ids : Bool = id_differs (chip_of d) (wanted d image reading) (known reading) in
      let erase : ℕ → Bool = row_rises (chip_of d) (wanted d image reading) (known reading) in
      let b = body_most (wanted d image reading) (known reading) erase rise ids 1 (λ k. length_erasing (erase k)) in
      let e : length (erasing rise) ≤ 1 = length_erasing rise in
      rw (update_opens d image reading rise ids refl refl) (omega arith)

  fresh_most : (image : List ℕ) → length (fresh_steps d image) ≤ 2 * d.words + 2 * rows + 22
  fresh_most image =
      let b = body_most (wanted d image []) (known []) (λ k. false) false false 0 (λ k. rw no_erasing (omega arith)) in
      rw (fresh_opens d image) (omega (arith, some_rows, rw no_erasing at b))

  pub read_back_count : length (read_back_steps d) ≡ 2 * d.words + 18
  unfolding read_back_steps read_steps
  read_back_count =
      let p : 0 < d.words = some_words in
      let one : d.words ≡ suc (d.words - 1) = omega arith in
      let a : length (reads d.words) ≡ 2 * (d.words - 1) + 1 = ap (λ n. length (reads n)) one ∙ length_reads (d.words - 1) in
      let b : length (reads 9) ≡ 17 = length_reads 8 in
      rw (length-append (reads d.words) (LoadConfiguration erased ∷ reads 9)) (omega arith)

-- never more than 2P + 2P/R + 22 steps
pub update_bound : (d : Device) (image reading : List ℕ) → device_ok d ≡ true → length (update_steps d image reading) ≤ 2 * d.words + 2 * (d.words / d.row) + 22
update_bound d image reading e = update_most d (rules_lem d e) image reading

pub fresh_bound : (d : Device) (image : List ℕ) → device_ok d ≡ true → length (fresh_steps d image) ≤ 2 * d.words + 2 * (d.words / d.row) + 22
fresh_bound d image e = fresh_most d (rules_lem d e) image

-- it has 2P + 18 steps
pub read_back_steps_lem : (d : Device) → device_ok d ≡ true → length (read_back_steps d) ≡ 2 * d.words + 18
read_back_steps_lem d e = read_back_count d (rules_lem d e)
