-- Which cells Begin, Row Erase and Bulk Erase hit on any chip, and what Begin makes of them, by where the counter stands.
use Rattle.std.specs.Prelude.{ℕ, ◌+◌, ◌-◌, ◌/◌, ◌%◌, ◌≤◌, ◌<◌, ◌≡◌, Bool, true, false, ◌&&◌, ◌||◌, not, ◌⊎◌, List, leb, eqb, get_or}
use native.Mathlib.Omega.{arith}
use Rattle.std.proofs.Math.Path.{sym, ap}
use Rattle.std.proofs.Common.{◌∙◌}
use Rattle.std.proofs.Math.Logic.{inl, inr, ⊎_elim}
use borrow.Author.Tests.{le-leb, eq-eqb, ltb-true, leb-true, eqb-true}
use Rattle.words.specs.Lists.{in_range}
use Rattle.words.specs.LawsChoice.{pick_true, pick_false, first_holds, second_holds, true_not_false}
use Rattle.words.specs.LawsLists.{in_range_lem, below_range, above_range}
use Rattle.target.specs.Chip.{Chip}
use Rattle.target.specs.Effects.{locked, in_program, id_cell, config_cell, at_erase, row_erased, bulk_erased, begin_written, latch_of, burnt}
use Rattle.target.specs.LawsChip.{SoundChip}
use Rattle.target.specs.LawsHits.{in_program_lem, not_program}
use Rattle.words.specs.LawsTests.{by_lt, not_holds, three_hold, all_three, or_cases, or_left, or_right}

-- ---- places

module _ (chip : Chip) (a : ℕ) where
  pub program_lt : in_program chip a ≡ true → a < chip.words
  unfolding in_program
  program_lt e = ltb-true a chip.words e

range_holds : (first count i : ℕ) → in_range first count i ≡ true → (first ≤ i) × (i < first + count)
range_holds first count i e =
    by_lt i first
    (λ h. absurd (true_not_false e (below_range first count i h)))
    (λ h. by_lt i (first + count) (λ k. (h, k)) (λ k. absurd (true_not_false e (above_range first count i k))))

module _ (chip : Chip) (i : ℕ) where
  id_in : id_cell chip i ≡ true → (chip.words ≤ i) × (i < chip.words + chip.ids)
  unfolding id_cell
  id_in e = range_holds chip.words chip.ids i e

  id_is : chip.words ≤ i → i < chip.words + chip.ids → id_cell chip i ≡ true
  unfolding id_cell
  id_is p q = in_range_lem chip.words chip.ids i p q

-- ---- a block of program words, of so many words, at the counter of a chip that is not protected

pub record Block (chip : Chip) (size a : ℕ) (cells : List ℕ) (i : ℕ) : Type 0 where
  pub bare : locked chip cells ≡ false
  pub program : i < chip.words
  pub same : i / size ≡ a / size

module _ (chip : Chip) (size a : ℕ) (cells : List ℕ) (i : ℕ) where
  abbrev in_block : Bool
  in_block = in_program chip a && not (locked chip cells) && (in_program chip i && eqb (i / size) (a / size))

  block_of : in_block ≡ true → (a < chip.words) × Block chip size a cells i
  block_of e =
      let t = three_hold (in_program chip a) (not (locked chip cells)) (in_program chip i && eqb (i / size) (a / size)) e in (
        program_lt chip a t.0,
        record {
          bare = not_holds (locked chip cells) t.1;
          program = program_lt chip i (first_holds (in_program chip i) (eqb (i / size) (a / size)) t.2);
          same = eqb-true (i / size) (a / size) (second_holds (in_program chip i) (eqb (i / size) (a / size)) t.2);
        },
      )

  in_block_lem : a < chip.words → Block chip size a cells i → in_block ≡ true
  in_block_lem h b = rw (in_program_lem chip a h, b.bare, in_program_lem chip i b.program) (eq-eqb (i / size) (a / size) b.same)

-- ---- the two ways in which Row Erase and Begin hit a cell

module _ (chip : Chip) (a : ℕ) (cells : List ℕ) (i : ℕ) where
  abbrev at_ids : Bool
  at_ids = at_erase chip a && chip.row_erases_ids && id_cell chip i

  abbrev at_word : Bool
  at_word = leb chip.base a && chip.is_writable (chip.cell a - chip.words) && eqb i (chip.cell a)

  erase_range : at_erase chip a ≡ true → chip.base ≤ a
  unfolding at_erase
  erase_range e = (range_holds chip.base chip.reading_tail a e).0

  row_cases : row_erased chip a cells i ≡ true → ((a < chip.words) × Block chip chip.row a cells i) ⊎ ((chip.base ≤ a) × (id_cell chip i ≡ true))
  unfolding row_erased
  row_cases e =
      ⊎_elim (λ h. inl (block_of chip chip.row a cells i h))
      (λ h. let t = three_hold (at_erase chip a) chip.row_erases_ids (id_cell chip i) h in inr (erase_range t.0, t.2))
      (or_cases (in_block chip chip.row a cells i) at_ids e)

  begin_cases : begin_written chip a cells i ≡ true → ((a < chip.words) × Block chip chip.group a cells i) ⊎ ((chip.base ≤ a) × (i ≡ chip.cell a))
  unfolding begin_written
  begin_cases e =
      ⊎_elim (λ h. inl (block_of chip chip.group a cells i h))
      (λ h.
      let t = three_hold (leb chip.base a) (chip.is_writable (chip.cell a - chip.words)) (eqb i (chip.cell a)) h in
      inr (leb-true chip.base a t.0, eqb-true i (chip.cell a) t.2))
      (or_cases (in_block chip chip.group a cells i) at_word e)

  -- with the counter at a program word
  pub row_hit : a < chip.words → Block chip chip.row a cells i → row_erased chip a cells i ≡ true
  unfolding row_erased
  row_hit h b = or_left (in_block chip chip.row a cells i) at_ids (in_block_lem chip chip.row a cells i h b)

  pub begin_hit : a < chip.words → Block chip chip.group a cells i → begin_written chip a cells i ≡ true
  unfolding begin_written
  begin_hit h b = or_left (in_block chip chip.group a cells i) at_word (in_block_lem chip chip.group a cells i h b)

  pub burnt_program : a < chip.words → (latches : List ℕ) → burnt chip a latches cells i ≡ chip.burn i (get_or cells i 0) (get_or latches (i % chip.group) 0)
  unfolding burnt latch_of
  burnt_program h latches = ap (λ n. chip.burn i (get_or cells i 0) (get_or latches (n % chip.group) 0)) (pick_true (in_program chip a) i a (in_program_lem chip a h))

  burnt_past : chip.words ≤ a → (latches : List ℕ) → burnt chip a latches cells i ≡ chip.burn i (get_or cells i 0) (get_or latches (a % chip.group) 0)
  unfolding burnt latch_of
  burnt_past h latches = ap (λ n. chip.burn i (get_or cells i 0) (get_or latches (n % chip.group) 0)) (pick_false (in_program chip a) i a (not_program chip a h))

module _ (chip : Chip) (sound : SoundChip chip) where
  at_base : at_erase chip chip.base ≡ true
  unfolding at_erase
  at_base =
      let z : chip.ids ≤ chip.reading_tail = sound.ids_within in
      let y : 0 < chip.ids = sound.some_id in
      in_range_lem chip.base chip.reading_tail chip.base (omega arith) (omega arith)

  module _ (cells : List ℕ) (i : ℕ) where
    pub row_hits : (a : ℕ) → a < chip.words → row_erased chip a cells i ≡ true → Block chip chip.row a cells i
    row_hits a h e =
        let z : chip.words ≤ chip.base = sound.below in
        ⊎_elim (λ p. p.1) (λ p. let y : chip.base ≤ a = p.0 in absurd (omega arith)) (row_cases chip a cells i e)

    pub begin_hits : (a : ℕ) → a < chip.words → begin_written chip a cells i ≡ true → Block chip chip.group a cells i
    begin_hits a h e =
        let z : chip.words ≤ chip.base = sound.below in
        ⊎_elim (λ p. p.1) (λ p. let y : chip.base ≤ a = p.0 in absurd (omega arith)) (begin_cases chip a cells i e)

    -- with the counter at the base of configuration space, and at one of its words
    pub ids_hits : row_erased chip chip.base cells i ≡ true → (chip.words ≤ i) × (i < chip.words + chip.ids)
    ids_hits e =
        let z : chip.words ≤ chip.base = sound.below in
        ⊎_elim (λ p. let y : chip.base < chip.words = p.0 in absurd (omega arith)) (λ p. id_in chip i p.1) (row_cases chip chip.base cells i e)

    pub ids_hit : chip.row_erases_ids ≡ true → chip.words ≤ i → i < chip.words + chip.ids → row_erased chip chip.base cells i ≡ true
    unfolding row_erased
    ids_hit e p q =
        or_right (in_block chip chip.row chip.base cells i) (at_ids chip chip.base cells i)
        (all_three (at_erase chip chip.base) chip.row_erases_ids (id_cell chip i) at_base e (id_is chip i p q))

    module _ (k : ℕ) (h : k < chip.reading_tail) where
      pub word_hits : begin_written chip (chip.base + k) cells i ≡ true → i ≡ chip.words + k
      word_hits e =
          let z : chip.words ≤ chip.base = sound.below in
          ⊎_elim (λ p. let y : chip.base + k < chip.words = p.0 in absurd (omega arith)) (λ p. p.1 ∙ sound.cell_config k h) (begin_cases chip (chip.base + k) cells i e)

      pub word_hit : chip.is_writable k ≡ true → i ≡ chip.words + k → begin_written chip (chip.base + k) cells i ≡ true
      unfolding begin_written
      word_hit w e =
          let cell : chip.cell (chip.base + k) ≡ chip.words + k = sound.cell_config k h in
          let place : chip.cell (chip.base + k) - chip.words ≡ k = omega arith in
          or_right (in_block chip chip.group (chip.base + k) cells i) (at_word chip (chip.base + k) cells i)
          (all_three (leb chip.base (chip.base + k)) (chip.is_writable (chip.cell (chip.base + k) - chip.words)) (eqb i (chip.cell (chip.base + k)))
          (le-leb chip.base (chip.base + k) (omega arith)) (ap chip.is_writable place ∙ w) (eq-eqb i (chip.cell (chip.base + k)) (e ∙ sym cell)))

      pub burnt_config : (latches : List ℕ)
          → burnt chip (chip.base + k) latches cells i ≡ chip.burn i (get_or cells i 0) (get_or latches ((chip.base + k) % chip.group) 0)
      burnt_config latches = let z : chip.words ≤ chip.base = sound.below in burnt_past chip (chip.base + k) cells i (omega arith) latches

  -- ---- Bulk Erase with the counter at the base of configuration space

  module _ (i : ℕ) where
    abbrev at_id : Bool
    at_id = at_erase chip chip.base && id_cell chip i

    pub bulk_program : i < chip.words → bulk_erased chip chip.base i ≡ true
    unfolding bulk_erased
    bulk_program h = rw (in_program_lem chip i h)

    pub bulk_id : chip.words ≤ i → i < chip.words + chip.ids → bulk_erased chip chip.base i ≡ true
    unfolding bulk_erased
    bulk_id p q = or_right (in_program chip i || config_cell chip i) at_id (rw at_base (id_is chip i p q))

    pub bulk_config : chip.words ≤ i → chip.is_config (i - chip.words) ≡ true → bulk_erased chip chip.base i ≡ true
    unfolding bulk_erased config_cell
    bulk_config p e = rw (not_program chip i p, le-leb chip.words i p, e)

    config_of : config_cell chip i ≡ true → chip.is_config (i - chip.words) ≡ true
    unfolding config_cell
    config_of e = second_holds (leb chip.words i) (chip.is_config (i - chip.words)) e

    pub bulk_cases : bulk_erased chip chip.base i ≡ true → chip.words ≤ i → (i < chip.words + chip.ids) ⊎ (chip.is_config (i - chip.words) ≡ true)
    unfolding bulk_erased
    bulk_cases e h =
        ⊎_elim
        (λ p. ⊎_elim (λ q. absurd (true_not_false q (not_program chip i h))) (λ q. inr (config_of q)) (or_cases (in_program chip i) (config_cell chip i) p))
        (λ p. inl (id_in chip i (second_holds (at_erase chip chip.base) (id_cell chip i) p)).1) (or_cases (in_program chip i || config_cell chip i) at_id e)

    pub bulk_within : bulk_erased chip chip.base i ≡ true → i < chip.words + chip.reading_tail
    bulk_within e =
        let z : chip.ids ≤ chip.reading_tail = sound.ids_within in
        let y : 0 < chip.ids = sound.some_id in
        by_lt i chip.words (λ h. omega arith)
        (λ h. ⊎_elim (λ (p : i < chip.words + chip.ids). omega arith)
        (λ p. let x : i - chip.words < chip.reading_tail = sound.config_within (i - chip.words) p in omega arith) (bulk_cases e h))
