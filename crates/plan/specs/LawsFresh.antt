-- Demands 2 and 3 for a fresh programming: on any chip, and for this family's planner.
use Rattle.std.specs.Prelude.{ℕ, ◌+◌, ◌-◌, ◌≤◌, ◌<◌, ◌≡◌, Bool, true, length, get_or, ltb}
use native.Mathlib.Omega.{arith}
use Rattle.std.proofs.Math.Path.{refl, sym}
use Rattle.std.proofs.Common.{ap, subst, ◌∙◌, lt-ltb}
use Rattle.std.proofs.Math.Bool.{false}
use mathlib.Core.List.{List, [], ◌∷◌}
use Rattle.words.specs.Word.{erased}
use Rattle.words.specs.LawsChoice.{pick_true, true_not_false}
use Rattle.words.specs.LawsWord.{words_long, words_each, erased_contains}
use Rattle.device.specs.declared.Device.{Device}
use Rattle.device.specs.Memory.{cells_tail, zero_bit}
use Rattle.device.specs.LawsRecord.{Rules, rules_lem}
use Rattle.target.specs.Chip.{Chip, chip_of}
use Rattle.target.specs.Effects.{locked, edit, bulk_erased}
use Rattle.target.specs.Model.{Effect, done}
use Rattle.target.specs.Step.{Target, place, changed, effect, sound_cells}
use Rattle.target.specs.Stream.{bytes_of}
use Rattle.target.specs.Run.{model_on, model_of, run_refusal}
use Rattle.target.specs.Cut.{Torn, Recovers}
use Rattle.target.specs.Crash.{Safe}
use Rattle.target.specs.Board.{board_of}
use Rattle.target.specs.LawsChip.{SoundChip, Burning, sound_chip, burning}
use Rattle.target.specs.LawsCrash.{safe_first, safe_weaken, safe_relax}
use Rattle.target.specs.LawsEdit.{edit_hit}
use Rattle.target.specs.LawsBoard.{chip_recovers_to}
use Rattle.words.specs.LawsTests.{by_test, by_lt, fails}
use Rattle.target.specs.LawsTorn.{torn_miss, torn_fits, torn_edit}
use Rattle.target.specs.LawsBlocks.{bulk_config, bulk_within}
use Rattle.target.specs.declared.Order.{Order}
use Rattle.target.specs.declared.Order.TheVariants.{LoadConfiguration, ResetAddress, BulkErase}
use Rattle.aim.specs.Wanted.{known, wanted}
use Rattle.plan.specs.Steps.{Task, task_of, body_of, fresh_task, fresh_steps}
use Rattle.aim.specs.Refusal.{fresh_number}
use Rattle.plan.specs.Demands.{programmed}
use Rattle.aim.specs.LawsWanted.{known_fits, wanted_fits, wanted_reached, writes_only}
use Rattle.plan.specs.LawsDemands.{nothing_known}
use Rattle.aim.specs.LawsAccepted.{AcceptedFresh, accepted_fresh}
use Rattle.plan.specs.LawsFits.{fits_body}
use Rattle.plan.specs.LawsSafe.{SoundTask, Kept, spoken, wiped, wiped_program, wiped_past, sound_cells_lem}
use Rattle.plan.specs.LawsSafeSteps.{At, Free, Any, free_at, enters, safe_reset, safe_configuration}
use Rattle.plan.specs.LawsSafeBody.{finished, safe_body}
use Rattle.plan.specs.LawsProgrammed.{programmed_on, programmed_word, programmed_other, spoken_bulk, finished_programmed, unspoken_same, programmed_is, unrefused}

-- ---- any chip

-- what a cut leaves: cells of the right length, words all of them, and what Bulk Erase does not cover is the first cells'
pub record Loose (chip : Chip) (first c : List ℕ) : Type 0 where
  pub long : length c ≡ chip.words + chip.cells_tail
  pub fits : (i : ℕ) → get_or c i 0 < 0x4000
  pub same : (i : ℕ) → bulk_erased chip chip.base i ≡ false → get_or c i 0 ≡ get_or first i 0

-- Bulk Erase at the base of configuration space
bulk_effect : (chip : Chip) → SoundChip chip → (x : Target) → place x ≡ chip.base → effect chip BulkErase x ≡ done (changed (edit (bulk_erased chip chip.base) (λ i. erased) x.cells) x)
unfolding effect
bulk_effect chip sound x e =
    pick_true (ltb (place x) (chip.base + chip.reading_tail)) _ _ (lt-ltb (place x) (chip.base + chip.reading_tail) near)
    ∙ ap (λ a. done (changed (edit (bulk_erased chip a) (λ i. erased) x.cells) x)) e
  where
    near : place x < chip.base + chip.reading_tail
    near = let z : chip.ids ≤ chip.reading_tail = sound.ids_within in let y : 0 < chip.ids = sound.some_id in omega arith

-- a programming of any cells: nothing is known of them, nothing is erased by row, and each word that can be programmed takes its wanted word when erased
module _ (chip : Chip) (sound : SoundChip chip) (b : Burning chip) (word old : ℕ → ℕ) (all_ids : Bool) (unknown : (i : ℕ) → old i ≡ erased)
    (able : (i : ℕ) → bulk_erased chip chip.base i ≡ true → b.Takes i (word i)) (first : List ℕ) (long : length first ≡ chip.words + chip.cells_tail) where
  abbrev task : Task
  task = task_of chip word old (λ k. false) false all_ids

  abbrev start : List ℕ
  start = programmed_on chip (λ i. erased) first

  not_wiped : (i : ℕ) → wiped chip task i ≡ false
  unfolding task_of
  not_wiped i = by_lt i chip.words (λ h. wiped_program chip task i h) (λ h. wiped_past chip task i h)

  pub fresh_sound : SoundTask chip b (task_of chip word old (λ k. false) false all_ids)
  unfolding task_of
  fresh_sound =
      record {
        able = λ i e w. absurd (true_not_false w (not_wiped i));
        only = λ k e. writes_only chip word old all_ids k e;
        covers = λ e. absurd (true_not_false {b = false} e refl);
        all_ids = λ e. absurd (true_not_false {b = false} e refl);
      }

  word_is : (i : ℕ) → task.word i ≡ word i
  word_is i = unfold task_of in refl

  -- ---- Bulk Erase

  module _ (c : List ℕ) (k : Loose chip first c) where
    abbrev hit : ℕ → Bool
    hit = bulk_erased chip chip.base

    bulk_torn : (w : List ℕ) → Torn c (edit hit (λ i. erased) c) w → Loose chip first w
    bulk_torn w torn =
        record {
          long = torn.long ∙ k.long;
          fits = torn_fits hit (λ i. erased) c w torn (λ i. omega arith) k.fits;
          same = λ i e. torn_miss hit (λ i. erased) c w torn i e ∙ k.same i e;
        }

    gone : (i : ℕ) → hit i ≡ true → get_or (edit hit (λ i. erased) c) i 0 ≡ erased
    gone i e =
        let x : i < chip.words + chip.reading_tail = bulk_within chip sound i e in
        let y : length c ≡ chip.words + chip.cells_tail = k.long in
        let z : chip.reading_tail ≤ chip.cells_tail = sound.within in
        edit_hit hit (λ i. erased) c i (omega arith) e

    opened : locked chip (edit hit (λ i. erased) c) ≡ false
    unfolding locked zero_bit
    opened =
        let place : chip.words + chip.cp_word - chip.words ≡ chip.cp_word = omega arith in
        rw (gone (chip.words + chip.cp_word) (bulk_config chip sound (chip.words + chip.cp_word) (omega arith) (ap chip.is_config place ∙ sound.cp_config))) sound.cp_erased

    bulk_done : Kept chip b task start (edit hit (λ i. erased) c)
    bulk_done =
        record {
          long = after.long;
          fits = after.fits;
          kept = λ i e.
              by_test (hit i) (λ p. gone i p ∙ sym (programmed_word chip (λ i. erased) first sound i p)) (λ p. after.same i p ∙ sym (programmed_other chip (λ i. erased) first long i p));
          holds = λ i e n.
              rw (gone i (spoken_bulk chip sound b task fresh_sound i e), word_is i) (b.can_erased i (word i) (able i (spoken_bulk chip sound b task fresh_sound i e)));
          lock = λ e. absurd (true_not_false e opened);
        }
      where
        after : Loose chip first (edit hit (λ i. erased) c)
        after = bulk_torn (edit hit (λ i. erased) c) (torn_edit hit (λ i. erased) c)

  -- ---- the stream

  -- the rest of the stream keeps more than that
  kept_loose : (c : List ℕ) → Kept chip b task start c → Loose chip first c
  kept_loose c k =
      record {
        long = k.long;
        fits = k.fits;
        same = λ i e.
            k.kept i (fails (spoken chip task i) (λ x. true_not_false (spoken_bulk chip sound b task fresh_sound i x) e)) ∙ programmed_other chip (λ i. erased) first long i e;
      }

  fresh_ends : finished chip task start ≡ programmed_on chip word first
  unfolding task_of
  fresh_ends =
      finished_programmed chip sound b task fresh_sound start first
      (λ i p n. programmed_word chip (λ i. erased) first sound i p ∙ (sym (unknown i) ∙ sym (unspoken_same chip sound word old (λ k. false) false all_ids i p n)))
      (λ i p. programmed_other chip (λ i. erased) first long i p)

  safe_bulk : (words : List ℕ) {C : Target → Type 0} (s : List Order) → Safe (board_of chip words) (Loose chip first) (Free chip (Kept chip b task start)) s C
      → Safe (board_of chip words) (Loose chip first) (At chip chip.base Any (Loose chip first)) (BulkErase ∷ s) C
  safe_bulk words s f =
      safe_first (board_of chip words) (Loose chip first) (Free chip (Kept chip b task start)) BulkErase s
      (λ x q. ap (λ (e : Effect Target). e.number) (bulk_effect chip sound x q.here))
      (λ x q.
      subst (λ (e : Effect Target). Free chip (Kept chip b task start) e.target) (sym (bulk_effect chip sound x q.here))
      (record { wide = q.wide; holds = bulk_done x.cells q.holds }))
      (λ x q c torn. bulk_torn x.cells q.holds c (subst (λ (e : Effect Target). Torn x.cells e.target.cells c) (bulk_effect chip sound x q.here) torn)) f

  pub safe_fresh : (words : List ℕ)
      → Safe (board_of chip words) (Loose chip first) (Free chip (Loose chip first)) (LoadConfiguration erased ∷ BulkErase ∷ ResetAddress ∷ body_of chip (task_of chip word old (λ k. false) false all_ids))
      (λ (x : Target). x.cells ≡ programmed_on chip word first)
  safe_fresh words =
      safe_configuration chip words (Loose chip first) (Loose chip first) (λ c k. k) (BulkErase ∷ ResetAddress ∷ body_of chip task) erased
      (safe_bulk words (ResetAddress ∷ body_of chip task)
      (safe_reset chip words (Loose chip first) (Kept chip b task start) kept_loose (body_of chip task)
      (safe_relax (board_of chip words) (Kept chip b task start) (Loose chip first) _ _ (body_of chip task) kept_loose
      (safe_weaken (board_of chip words) (Kept chip b task start) _ _ (λ (x : Target). x.cells ≡ finished chip task start) _ (body_of chip task) (λ x q. q) (λ x q. q ∙ fresh_ends)
      (safe_body chip sound b task fresh_sound start words)))))

  -- from any sound cells, protected or not
  pub chip_fresh_recovers : (judges : (stream cells : List ℕ) → ℕ) → ((s : List Order) (c : List ℕ) → sound_cells chip c ≡ true → judges (bytes_of s) c ≡ 0)
      → ((i : ℕ) → word i < 0x4000) → ((i : ℕ) → get_or first i 0 < 0x4000)
      → Recovers (model_on chip judges) (bytes_of (LoadConfiguration erased ∷ BulkErase ∷ ResetAddress ∷ body_of chip (task_of chip word old (λ k. false) false all_ids))) first
      (programmed_on chip word first)
  chip_fresh_recovers judges takes fit small =
      chip_recovers_to chip judges (Loose chip first) (λ words. Free chip (Loose chip first)) (λ words x. x.cells ≡ programmed_on chip word first)
      stream first (programmed_on chip word first) (omega arith, (tt, (tt, fits_body chip task (λ i. rw (word_is i) (fit i))))) safe_fresh
      (λ words c k. free_at chip 0 (Loose chip first) _ (enters chip words (Loose chip first) c k))
      (λ c k. takes stream c (sound_cells_lem chip c k.long k.fits)) (λ words x e. e) (record { long = long; fits = small; same = λ i e. refl })
    where
      stream : List Order
      stream = LoadConfiguration erased ∷ BulkErase ∷ ResetAddress ∷ body_of chip task

-- ---- this family

module _ (d : Device) (image : List ℕ) (id_word : ℕ) (cells : List ℕ) (e : fresh_number d image id_word ≡ 0) (s : sound_cells (chip_of d) cells ≡ true) where
  a : AcceptedFresh d image
  a = accepted_fresh d image id_word e

  r : Rules d
  r = rules_lem d a.device

  fit : (i : ℕ) → wanted d image [] i < 0x4000
  fit = wanted_fits d image [] a.image_sound (known_fits [] (λ i. omega arith))

  sized : length cells ≡ d.words + cells_tail
  sized = unfold sound_cells in words_long (d.words + cells_tail) cells s

  small : (i : ℕ) → get_or cells i 0 < 0x4000
  small = unfold sound_cells in words_each (d.words + cells_tail) cells s

  takes : (i : ℕ) → bulk_erased (chip_of d) (chip_of d).base i ≡ true → (burning d).Takes i (wanted d image [] i)
  unfolding burning
  takes i p = rw nothing_known at (wanted_reached d image [] a.image_sound i (rw nothing_known (omega arith)) (rw nothing_known (erased_contains (wanted d image [] i) (fit i))))

  abbrev stream : List Order
  stream = LoadConfiguration erased ∷ BulkErase ∷ ResetAddress ∷ body_of (chip_of d) (task_of (chip_of d) (wanted d image []) (known []) (λ k. false) false false)

  steps_are : stream ≡ fresh_steps d image
  unfolding fresh_steps fresh_task
  steps_are = refl

  -- demands 2 and 3: on any sound cells, protected or not, any number of cut runs and then one whole run leave just the programmed cells
  pub fresh_recovers : Recovers (model_of d) (bytes_of (fresh_steps d image)) cells (programmed d image [] cells)
  fresh_recovers =
      subst (λ z. Recovers (model_of d) (bytes_of z) cells (programmed d image [] cells)) steps_are
      (subst (λ z. Recovers (model_of d) (bytes_of stream) cells z) (programmed_is d r image [] cells sized)
      (chip_fresh_recovers (chip_of d) (sound_chip d r) (burning d) (wanted d image []) (known []) false nothing_known takes cells sized (run_refusal d) (unrefused d a.device) fit small))
