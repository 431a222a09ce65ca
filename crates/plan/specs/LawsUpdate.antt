-- Demands 2 and 3 for an update: on any chip, and for this family's planner.
use Rattle.std.specs.Prelude.{ℕ, ◌+◌, ◌-◌, ◌/◌, ◌≤◌, ◌<◌, ◌≡◌, Bool, ◌&&◌, ◌⊎◌, List, ◌∷◌, length, get_or}
use Rattle.std.proofs.Common.{arith, subst, ◌∙◌, inl, inr}
use Rattle.std.proofs.Math.Path.{refl, sym, ap}
use Rattle.std.proofs.Math.Bool.{true, false}
use Rattle.std.proofs.Math.Logic.{⊎_elim}
use Rattle.std.proofs.Math.Dec.{ltb}
use borrow.Author.Tests.{lt-ltb, le-ltb, ltb-true}
use Rattle.words.specs.Word.{bit}
use Rattle.words.specs.LawsChoice.{first_holds, second_holds, second_fails, both, true_not_false}
use Rattle.words.specs.LawsWord.{Contains, words_long, words_each}
use Rattle.words.specs.LawsMask.{Reaches, reaches_any}
use Rattle.device.specs.declared.Device.{Device}
use Rattle.device.specs.Memory.{reading_tail, cells_tail, cp_word, is_config, mask_at, protected}
use Rattle.device.specs.LawsRecord.{Rules, rules_lem}
use Rattle.device.specs.LawsMask.{mask_plain}
use Rattle.device.specs.LawsMemory.{reading_long, reading_each, protected_same, config_range}
use Rattle.target.specs.Chip.{Chip, chip_of}
use Rattle.target.specs.Effects.{locked}
use Rattle.target.specs.Step.{Target, sound_cells}
use Rattle.target.specs.Stream.{bytes_of}
use Rattle.target.specs.Run.{model_on, model_of, run_refusal}
use Rattle.target.specs.Cut.{CutRuns, Recovers}
use Rattle.target.specs.Crash.{Safe}
use Rattle.target.specs.Board.{board_of}
use Rattle.target.specs.LawsChip.{SoundChip, Burning, sound_chip, burning}
use Rattle.target.specs.LawsCrash.{safe_weaken}
use Rattle.target.specs.LawsSpelt.{cut_runs}
use Rattle.target.specs.LawsBoard.{spelling, chip_recovers_to}
use Rattle.target.specs.LawsBlocks.{bulk_within}
use Rattle.words.specs.LawsTests.{by_test, by_lt, by_eq, fails}
use Rattle.target.specs.declared.Order.{Order}
use Rattle.target.specs.declared.Order.TheVariants.{ResetAddress}
use Rattle.aim.specs.Wanted.{known, wanted, row_rises, id_differs, id_rises, config_writes}
use Rattle.aim.specs.LawsRises.{clears_contained, row_contained, id_contained, id_rises_differs}
use Rattle.plan.specs.Steps.{Task, task_of, body_of, update_task, update_steps}
use Rattle.aim.specs.Wanted.{only_clears}
use Rattle.aim.specs.Refusal.{config_ok, update_number}
use Rattle.plan.specs.Demands.{programmed}
use Rattle.aim.specs.LawsWanted.{known_inside, known_fits, wanted_fits, wanted_spare, wanted_reached, writes_only, writes_all}
use Rattle.aim.specs.LawsAccepted.{Accepted, accepted}
use Rattle.plan.specs.LawsFits.{fits_body}
use Rattle.plan.specs.LawsSafe.{SoundTask, Kept, spoken, wiped, spoken_past, spoken_within, wiped_program, wiped_past, wiped_word, sound_cells_lem}
use Rattle.plan.specs.LawsSafeSteps.{Free, free_at, enters, safe_reset}
use Rattle.plan.specs.LawsSafeBody.{finished, safe_body}
use Rattle.plan.specs.LawsProgrammed.{programmed_on, finished_programmed, unspoken_same, programmed_is, unrefused}

-- ---- any chip

-- what an update needs of the cells that it begins on: they are sound, a reading of them was true, and CP is not 0; what is erased by row takes its word when erased,
-- what is not can take it as it is; and the user IDs are erased only where Row Erase covers them and all of them are written
pub record Updates (chip : Chip) (b : Burning chip) (word old : ℕ → ℕ) (erase_row : ℕ → Bool) (erase_ids all_ids : Bool) (first : List ℕ) : Type 0 where
  pub long : length first ≡ chip.words + chip.cells_tail
  pub fits : (i : ℕ) → get_or first i 0 < 0x4000
  pub held : (i : ℕ) → i < chip.words + chip.reading_tail → get_or first i 0 ≡ old i
  pub bare : locked chip first ≡ false
  pub able : (i : ℕ) → i < chip.words + chip.ids → b.Takes i (word i)
  pub rows_can : (i : ℕ) → i < chip.words → erase_row (i / chip.row) ≡ false → b.Can i (old i) (word i)
  pub ids_can : erase_ids ≡ false → (k : ℕ) → k < chip.ids → b.Can (chip.words + k) (old (chip.words + k)) (word (chip.words + k))
  pub config_can : (k : ℕ) → chip.is_config k ≡ true → b.Can (chip.words + k) (old (chip.words + k)) (word (chip.words + k))
  pub ids_erased : erase_ids ≡ true → (chip.row_erases_ids ≡ true) × (all_ids ≡ true)

module _ (chip : Chip) (sound : SoundChip chip) (b : Burning chip) (word old : ℕ → ℕ) (erase_row : ℕ → Bool) (erase_ids all_ids : Bool) (first : List ℕ)
    (u : Updates chip b word old erase_row erase_ids all_ids first) where
  abbrev task : Task
  task = task_of chip word old erase_row erase_ids all_ids

  pub update_sound : SoundTask chip b (task_of chip word old erase_row erase_ids all_ids)
  unfolding task_of
  update_sound =
      record {
        able = λ i e w. u.able i (low i w);
        only = λ k e. writes_only chip word old all_ids k e;
        covers = λ e. (u.ids_erased e).0;
        all_ids = λ e k h. writes_all chip word old all_ids k (u.ids_erased e).1 h;
      }
    where
      low : (i : ℕ) → wiped chip (task_of chip word old erase_row erase_ids all_ids) i ≡ true → i < chip.words + chip.ids
      low i w =
          by_lt i chip.words (λ h. omega arith)
          (λ h.
          let z : i - chip.words < chip.ids = ltb-true (i - chip.words) chip.ids
          (second_holds erase_ids (ltb (i - chip.words) chip.ids) (sym (wiped_past chip (task_of chip word old erase_row erase_ids all_ids) i h) ∙ w)) in
          omega arith)

  can_take : (i : ℕ) → spoken chip task i ≡ true → wiped chip task i ≡ false → b.Can i (old i) (word i)
  unfolding task_of
  can_take i e n =
      by_lt i chip.words
      (λ h. u.rows_can i h (sym (wiped_program chip task i h) ∙ n))
      (λ h. past (i - chip.words) (omega arith) (sym (spoken_past chip task i h) ∙ e) (sym (wiped_past chip task i h) ∙ n))
    where
      ids_stay : (k : ℕ) → k < chip.ids → (erase_ids && ltb k chip.ids) ≡ false → erase_ids ≡ false
      ids_stay k h n = fails erase_ids (λ y. true_not_false (both erase_ids (ltb k chip.ids) y (lt-ltb k chip.ids h)) n)

      past : (k : ℕ) → chip.words + k ≡ i → config_writes chip word old all_ids k ≡ true → (erase_ids && ltb k chip.ids) ≡ false → b.Can i (old i) (word i)
      past k p w n =
          subst (λ m. b.Can m (old m) (word m)) p
          (⊎_elim (λ h. u.ids_can (ids_stay k h n) k h) (λ h. u.config_can k h) (writes_only chip word old all_ids k w))

  word_is : (i : ℕ) → task.word i ≡ word i
  word_is i = unfold task_of in refl

  -- before the first run the invariant holds
  pub update_first : Kept chip b (task_of chip word old erase_row erase_ids all_ids) first first
  update_first =
      record {
        long = u.long;
        fits = u.fits;
        kept = λ i e. refl;
        holds = λ i e n. rw (u.held i (spoken_within chip sound b task update_sound i e), word_is i) (can_take i e n);
        lock = λ e. absurd (true_not_false e u.bare);
      }

  update_ends : finished chip task first ≡ programmed_on chip word first
  unfolding task_of
  update_ends =
      finished_programmed chip sound b task update_sound first first
      (λ i p n. u.held i (bulk_within chip sound i p) ∙ sym (unspoken_same chip sound word old erase_row erase_ids all_ids i p n)) (λ i p. refl)

  pub safe_update : (words : List ℕ)
      → Safe (board_of chip words) (Kept chip b (task_of chip word old erase_row erase_ids all_ids) first) (Free chip (Kept chip b (task_of chip word old erase_row erase_ids all_ids) first))
      (ResetAddress ∷ body_of chip (task_of chip word old erase_row erase_ids all_ids)) (λ (x : Target). x.cells ≡ programmed_on chip word first)
  safe_update words =
      safe_reset chip words (Kept chip b task first) (Kept chip b task first) (λ c k. k) (body_of chip task)
      (safe_weaken (board_of chip words) (Kept chip b task first) _ _ (λ (x : Target). x.cells ≡ finished chip task first) _ (body_of chip task) (λ x q. q) (λ x q. q ∙ update_ends)
      (safe_body chip sound b task update_sound first words))

  -- any number of cut runs and then one whole run leave just the programmed cells
  pub chip_update_recovers : (judges : (stream cells : List ℕ) → ℕ) → ((s : List Order) (c : List ℕ) → sound_cells chip c ≡ true → judges (bytes_of s) c ≡ 0)
      → ((i : ℕ) → word i < 0x4000)
      → Recovers (model_on chip judges) (bytes_of (ResetAddress ∷ body_of chip (task_of chip word old erase_row erase_ids all_ids))) first (programmed_on chip word first)
  chip_update_recovers judges takes fit =
      chip_recovers_to chip judges (Kept chip b task first) (λ words. Free chip (Kept chip b task first)) (λ words x. x.cells ≡ programmed_on chip word first)
      (ResetAddress ∷ body_of chip task) first (programmed_on chip word first) (tt, fits_body chip task (λ i. rw (word_is i) (fit i))) safe_update
      (λ words c k. free_at chip 0 (Kept chip b task first) _ (enters chip words (Kept chip b task first) c k))
      (λ c k. takes (ResetAddress ∷ body_of chip task) c (sound_cells_lem chip c k.long k.fits)) (λ words x e. e) update_first

  -- and before that, wherever and however often it was cut, the invariant holds
  pub chip_update_kept : (judges : (stream cells : List ℕ) → ℕ) → ((i : ℕ) → word i < 0x4000)
      → (c : List ℕ) → CutRuns (model_on chip judges) (bytes_of (ResetAddress ∷ body_of chip (task_of chip word old erase_row erase_ids all_ids))) first c
      → Kept chip b (task_of chip word old erase_row erase_ids all_ids) first c
  chip_update_kept judges fit c cut =
      cut_runs (model_on chip judges) (spelling chip judges) (Kept chip b task first) (λ words. Free chip (Kept chip b task first)) (λ words x. x.cells ≡ programmed_on chip word first)
      (ResetAddress ∷ body_of chip task) (tt, fits_body chip task (λ i. rw (word_is i) (fit i))) safe_update
      (λ words c k. free_at chip 0 (Kept chip b task first) _ (enters chip words (Kept chip b task first) c k)) first c update_first cut

-- ---- this family

-- configuration words are words 7 and 8
config_two : (k : ℕ) → is_config k ≡ true → (k ≡ 7) ⊎ (k ≡ 8)
config_two k e = by_eq k 7 (λ q. inl q) (λ q. inr (omega (arith, (config_range k e).0, (config_range k e).1)))

config_clears : (d : Device) (image reading : List ℕ) → config_ok d image reading ≡ true → (k : ℕ) → (k ≡ 7) ⊎ (k ≡ 8)
    → only_clears (wanted d image reading (d.words + k)) (get_or reading (d.words + k) 0) ≡ true
unfolding config_ok
config_clears d image reading e k c = ⊎_elim (λ q. rw q (first_holds (clears 7) (clears 8) e)) (λ q. rw q (second_holds (clears 7) (clears 8) e)) c
  where
    clears : ℕ → Bool
    clears n = only_clears (wanted d image reading (d.words + n)) (get_or reading (d.words + n) 0)

-- ---- the theorem

module _ (d : Device) (image reading cells : List ℕ) (e : update_number d image reading ≡ 0) (s : sound_cells (chip_of d) cells ≡ true)
    (held : (i : ℕ) → i < d.words + reading_tail → get_or cells i 0 ≡ get_or reading i 0) where
  a : Accepted d image reading
  a = accepted d image reading e

  r : Rules d
  r = rules_lem d a.device

  fit : (i : ℕ) → wanted d image reading i < 0x4000
  fit = wanted_fits d image reading a.image_sound (known_fits reading (reading_each d.words reading a.reading_sound))

  long : length cells ≡ d.words + cells_tail
  long = unfold sound_cells in words_long (d.words + cells_tail) cells s

  abbrev row_rises_lem : ℕ → Bool
  row_rises_lem = row_rises (chip_of d) (wanted d image reading) (known reading)

  abbrev ids_rise : Bool
  ids_rise = id_rises (chip_of d) (wanted d image reading) (known reading)

  abbrev ids_differ : Bool
  ids_differ = id_differs (chip_of d) (wanted d image reading) (known reading)

  known_is : (i : ℕ) → i < d.words + reading_tail → known reading i ≡ get_or reading i 0
  known_is i h = known_inside reading i (rw (reading_long d.words reading a.reading_sound) h)

  -- both configuration words want no bit 1 where the reading has 0
  clears : (k : ℕ) → is_config k ≡ true → Contains (known reading (d.words + k)) (wanted d image reading (d.words + k))
  clears k c = subst (λ n. Contains n (wanted d image reading (d.words + k))) (sym (known_is (d.words + k) (let z : k < reading_tail = (sound_chip d r).config_within k c in omega arith))) read
    where
      read : Contains (get_or reading (d.words + k) 0) (wanted d image reading (d.words + k))
      read = clears_contained (wanted d image reading (d.words + k)) (get_or reading (d.words + k) 0) (config_clears d image reading a.config k (config_two k c))

  -- what wants no bit more than the known word has can be written over it
  over : (i : ℕ) → Contains (known reading i) (wanted d image reading i) → Reaches (mask_at d i) (known reading i) (wanted d image reading i)
  over i c = wanted_reached d image reading a.image_sound i (known_fits reading (reading_each d.words reading a.reading_sound) i) c

  begins : Updates (chip_of d) (burning d) (wanted d image reading) (known reading) row_rises_lem ids_rise ids_differ cells
  unfolding burning
  begins =
      record {
        long = long;
        fits = (unfold sound_cells in words_each (d.words + cells_tail) cells s);
        held = λ i h. held i h ∙ sym (known_is i h);
        bare = bare;
        able = λ i h. rw (mask_plain d i (omega arith)) (reaches_any (wanted d image reading i) (fit i));
        rows_can = λ i h n. over i (row_contained (chip_of d) (wanted d image reading) (known reading) (sound_chip d r).some_row i n);
        ids_can = λ n k h. over (d.words + k) (id_contained (chip_of d) (wanted d image reading) (known reading) n k h);
        config_can = λ k c. over (d.words + k) (clears k c);
        ids_erased = λ y. (refl, id_rises_differs (chip_of d) (wanted d image reading) (known reading) y);
      }
    where
      opened : locked (chip_of d) cells ≡ protected d.words cells
      opened = unfold locked protected in refl

      bare : locked (chip_of d) cells ≡ false
      bare = opened ∙ (protected_same d.words cells reading (held (d.words + cp_word) (omega arith)) ∙ a.unprotected)

  steps_are : ResetAddress ∷ body_of (chip_of d) (task_of (chip_of d) (wanted d image reading) (known reading) row_rises_lem ids_rise ids_differ) ≡ update_steps d image reading
  unfolding update_steps update_task
  steps_are = refl

  -- demands 2 and 3: on cells that a sound reading was true of, any number of cut runs and then one whole run leave just the programmed cells
  pub update_recovers : Recovers (model_of d) (bytes_of (update_steps d image reading)) cells (programmed d image reading cells)
  update_recovers =
      subst (λ z. Recovers (model_of d) (bytes_of z) cells (programmed d image reading cells)) steps_are
      (subst (λ z. Recovers (model_of d) (bytes_of (ResetAddress ∷ body_of (chip_of d) (task_of (chip_of d) (wanted d image reading) (known reading) row_rises_lem ids_rise ids_differ))) cells z)
      (programmed_is d r image reading cells long)
      (chip_update_recovers (chip_of d) (sound_chip d r) (burning d) (wanted d image reading) (known reading) row_rises_lem ids_rise ids_differ cells begins (run_refusal d)
      (unrefused d a.device) fit))

  -- wherever and however often it is cut, a bit that a configuration word does not have is the first cells'
  pub update_keeps_spare : (c : List ℕ) → CutRuns (model_of d) (bytes_of (update_steps d image reading)) cells c → (k : ℕ) → is_config k ≡ true → (n : ℕ) → n < 14
      → bit (mask_at d (d.words + k)) n ≡ 0 → bit (get_or c (d.words + k) 0) n ≡ bit (get_or cells (d.words + k) 0) n
  unfolding burning task_of Reaches
  update_keeps_spare c cut k config n h z =
      by_test (spoken (chip_of d) spare_task (d.words + k))
      (λ e. ⊎_elim (λ p. p ∙ (wanted_spare d image reading (d.words + k) n h z ∙ ap (λ w. bit w n) as_first))
      (λ (p : (bit (mask_at d (d.words + k)) n ≡ 1) × (bit (wanted d image reading (d.words + k)) n ≡ 0)). let y : bit (mask_at d (d.words + k)) n ≡ 1 = p.0 in absurd (omega arith))
      (still.holds (d.words + k) e unwiped n))
      (λ e. ap (λ w. bit w n) (still.kept (d.words + k) e))
    where
      spare_task : Task
      spare_task = task_of (chip_of d) (wanted d image reading) (known reading) row_rises_lem ids_rise ids_differ

      still : Kept (chip_of d) (burning d) spare_task cells c
      still =
          chip_update_kept (chip_of d) (sound_chip d r) (burning d) (wanted d image reading) (known reading) row_rises_lem ids_rise ids_differ cells begins (run_refusal d) fit c
          (subst (λ o. CutRuns (model_of d) (bytes_of o) cells c) (sym steps_are) cut)

      within : k < reading_tail
      within = (sound_chip d r).config_within k config

      unwiped : wiped (chip_of d) spare_task (d.words + k) ≡ false
      unwiped = wiped_word (chip_of d) spare_task k ∙ second_fails ids_rise (ltb k 4) (le-ltb k 4 (let y : 7 ≤ k = (config_range k config).0 in omega arith))

      as_first : known reading (d.words + k) ≡ get_or cells (d.words + k) 0
      as_first = let y : k < reading_tail = within in known_is (d.words + k) (omega arith) ∙ sym (held (d.words + k) (omega arith))
