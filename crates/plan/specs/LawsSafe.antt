-- What holds of the cells wherever a stream is cut: the invariant of demand 3, over what a task speaks of, and the law of an edit that keeps it.
use Rattle.std.specs.Prelude.{ℕ, ◌+◌, ◌-◌, ◌/◌, ◌≤◌, ◌<◌, ◌≡◌, Bool, true, false, ◌&&◌, ◌⊎◌, List, ltb, length, get_or}
use Rattle.std.proofs.Math.Nat.{add-sub_cancel_left}
use Rattle.std.proofs.Common.{arith, sym, ap, subst, ◌∙◌, ⊎_elim}
use Rattle.words.specs.Choice.{pick}
use Rattle.words.specs.Word.{Between}
use Rattle.words.specs.LawsChoice.{pick_true, pick_false, true_not_false}
use Rattle.words.specs.LawsWord.{words_of_lem}
use Rattle.device.specs.Memory.{zero_bit}
use Rattle.target.specs.Chip.{Chip}
use Rattle.target.specs.Effects.{in_program, locked, edit}
use Rattle.target.specs.Step.{sound_cells}
use Rattle.target.specs.Cut.{Torn}
use Rattle.target.specs.LawsChip.{SoundChip, Burning}
use Rattle.words.specs.LawsTests.{by_test, by_lt, fails}
use Rattle.target.specs.LawsTorn.{torn_hit, torn_miss, torn_fits}
use Rattle.target.specs.LawsHits.{in_program_lem, not_program}
use Rattle.plan.specs.Steps.{Task}

-- ---- what a task speaks of

-- it writes cell i
unfoldable pub spoken : Chip → Task → ℕ → Bool
spoken chip t i = pick (in_program chip i) (t.rows (i / chip.row)) (t.writes (i - chip.words))

-- it erases cell i by row before it writes it
unfoldable pub wiped : Chip → Task → ℕ → Bool
wiped chip t i = pick (in_program chip i) (t.erase_row (i / chip.row)) (t.erase_ids && ltb (i - chip.words) chip.ids)

module _ (chip : Chip) (t : Task) (i : ℕ) where
  pub spoken_program : i < chip.words → spoken chip t i ≡ t.rows (i / chip.row)
  unfolding spoken
  spoken_program h = pick_true (in_program chip i) _ _ (in_program_lem chip i h)

  pub spoken_past : chip.words ≤ i → spoken chip t i ≡ t.writes (i - chip.words)
  unfolding spoken
  spoken_past h = pick_false (in_program chip i) _ _ (not_program chip i h)

  pub wiped_program : i < chip.words → wiped chip t i ≡ t.erase_row (i / chip.row)
  unfolding wiped
  wiped_program h = pick_true (in_program chip i) _ _ (in_program_lem chip i h)

  pub wiped_past : chip.words ≤ i → wiped chip t i ≡ (t.erase_ids && ltb (i - chip.words) chip.ids)
  unfolding wiped
  wiped_past h = pick_false (in_program chip i) _ _ (not_program chip i h)

module _ (chip : Chip) (t : Task) (k : ℕ) where
  pub spoken_word : spoken chip t (chip.words + k) ≡ t.writes k
  spoken_word = spoken_past chip t (chip.words + k) (omega arith) ∙ ap t.writes (add-sub_cancel_left chip.words k)

  pub wiped_word : wiped chip t (chip.words + k) ≡ (t.erase_ids && ltb k chip.ids)
  wiped_word = wiped_past chip t (chip.words + k) (omega arith) ∙ ap (λ n. t.erase_ids && ltb n chip.ids) (add-sub_cancel_left chip.words k)

-- what the laws need of a task: what it erases by row takes its word when erased; in configuration space it writes user IDs and configuration words alone;
-- it erases the user IDs only where Row Erase covers them, and then writes all of them
pub record SoundTask (chip : Chip) (b : Burning chip) (t : Task) : Type 0 where
  pub able : (i : ℕ) → spoken chip t i ≡ true → wiped chip t i ≡ true → b.Takes i (t.word i)
  pub only : (k : ℕ) → t.writes k ≡ true → (k < chip.ids) ⊎ (chip.is_config k ≡ true)
  pub covers : t.erase_ids ≡ true → chip.row_erases_ids ≡ true
  pub all_ids : t.erase_ids ≡ true → (k : ℕ) → k < chip.ids → t.writes k ≡ true

module _ (chip : Chip) (sound : SoundChip chip) (b : Burning chip) (t : Task) (g : SoundTask chip b t) where
  pub writes_within : (k : ℕ) → t.writes k ≡ true → k < chip.reading_tail
  writes_within k e = ⊎_elim (λ (h : k < chip.ids). let z : chip.ids ≤ chip.reading_tail = sound.ids_within in omega arith) (λ h. sound.config_within k h) (g.only k e)

  pub writes_writable : (k : ℕ) → t.writes k ≡ true → chip.is_writable k ≡ true
  writes_writable k e = ⊎_elim (λ h. sound.id_writable k h) (λ h. sound.config_writable k h) (g.only k e)

  pub spoken_within : (i : ℕ) → spoken chip t i ≡ true → i < chip.words + chip.reading_tail
  spoken_within i e =
      by_lt i chip.words (λ h. omega arith)
      (λ h. let z : i - chip.words < chip.reading_tail = writes_within (i - chip.words) (sym (spoken_past chip t i h) ∙ e) in omega arith)

-- ---- the invariant

-- cells of the right length, words all of them; what is not spoken of is the first cells'; what is written without an erase can still take its word;
-- and if the board is protected, every program word that is spoken of is wanted already
pub record Kept (chip : Chip) (b : Burning chip) (t : Task) (first c : List ℕ) : Type 0 where
  pub long : length c ≡ chip.words + chip.cells_tail
  pub fits : (i : ℕ) → get_or c i 0 < 0x4000
  pub kept : (i : ℕ) → spoken chip t i ≡ false → get_or c i 0 ≡ get_or first i 0
  pub holds : (i : ℕ) → spoken chip t i ≡ true → wiped chip t i ≡ false → b.Can i (get_or c i 0) (t.word i)
  pub lock : locked chip c ≡ true → (i : ℕ) → i < chip.words → spoken chip t i ≡ true → get_or c i 0 ≡ t.word i

-- cells of the right length, words all of them, are sound
pub sound_cells_lem : (chip : Chip) (c : List ℕ) → length c ≡ chip.words + chip.cells_tail → ((i : ℕ) → get_or c i 0 < 0x4000) → sound_cells chip c ≡ true
unfolding sound_cells
sound_cells_lem chip c long fits = words_of_lem (chip.words + chip.cells_tail) c long (λ i h. fits i)

-- protection goes by one cell
pub locked_same : (chip : Chip) (c w : List ℕ) → get_or w (chip.words + chip.cp_word) 0 ≡ get_or c (chip.words + chip.cp_word) 0 → locked chip w ≡ locked chip c
unfolding locked zero_bit
locked_same chip c w e = rw e

-- ---- an edit that hits only what is spoken of, and makes the wanted word wherever nothing is erased, keeps it under any tear

module _ (chip : Chip) (sound : SoundChip chip) (b : Burning chip) (t : Task) (g : SoundTask chip b t) (first : List ℕ)
    (hit : ℕ → Bool) (new : ℕ → ℕ) (c : List ℕ) (k : Kept chip b t first c)
    (small : (i : ℕ) → new i < 0x4000)
    (talks : (i : ℕ) → hit i ≡ true → spoken chip t i ≡ true)
    (makes : (i : ℕ) → hit i ≡ true → wiped chip t i ≡ false → new i ≡ t.word i) where
  pub hit_inside : (i : ℕ) → hit i ≡ true → i < length c
  hit_inside i e =
      let x : i < chip.words + chip.reading_tail = spoken_within chip sound b t g i (talks i e) in
      let y : length c ≡ chip.words + chip.cells_tail = k.long in
      let z : chip.reading_tail ≤ chip.cells_tail = sound.within in
      omega arith

  module _ (w : List ℕ) (torn : Torn c (edit hit new c) w) where
    pub kept_edit : (locked chip w ≡ true → (i : ℕ) → i < chip.words → spoken chip t i ≡ true → get_or w i 0 ≡ t.word i) → Kept chip b t first w
    kept_edit lock =
        record {
          long = torn.long ∙ k.long;
          fits = torn_fits hit new c w torn small k.fits;
          kept = λ i e. torn_miss hit new c w torn i (fails (hit i) (λ x. true_not_false (talks i x) e)) ∙ k.kept i e;
          holds = λ i e z.
              by_test (hit i)
              (λ x. b.can_torn i (get_or c i 0) (t.word i) (get_or w i 0) (k.holds i e z)
              (subst (λ n. Between (get_or c i 0) n (get_or w i 0)) (makes i x z) (torn_hit hit new c w torn i (hit_inside i x) x)))
              (λ x. rw (torn_miss hit new c w torn i x) (k.holds i e z));
          lock = lock;
        }

    -- program words of a board that is not protected
    module _ (low : (i : ℕ) → hit i ≡ true → (locked chip c ≡ false) × (i < chip.words)) where
      pub same_lock : locked chip w ≡ locked chip c
      same_lock =
          locked_same chip c w (torn_miss hit new c w torn (chip.words + chip.cp_word)
          (fails (hit (chip.words + chip.cp_word)) (λ e. let z : chip.words + chip.cp_word < chip.words = (low (chip.words + chip.cp_word) e).1 in absurd (omega arith))))

      pub kept_program : Kept chip b t first w
      kept_program =
          kept_edit (λ e i h z. torn_miss hit new c w torn i (fails (hit i) (λ x. true_not_false (sym same_lock ∙ e) (low i x).0)) ∙ k.lock (sym same_lock ∙ e) i h z)

    -- words past the program words, when these are as wanted
    pub kept_past : ((i : ℕ) → hit i ≡ true → chip.words ≤ i) → ((i : ℕ) → i < chip.words → spoken chip t i ≡ true → get_or c i 0 ≡ t.word i) → Kept chip b t first w
    kept_past high done =
        kept_edit (λ e i h z. torn_miss hit new c w torn i (fails (hit i) (λ x. let y : chip.words ≤ i = high i x in absurd (omega arith))) ∙ done i h z)
