-- What the laws need of a chip, the one interface to what a write makes of a word, and that this family's chip has both.
use Rattle.std.specs.Prelude.{ℕ, ◌+◌, ◌-◌, ◌*◌, ◌/◌, ◌≤◌, ◌<◌, ◌≡◌, true, false, ltb, eqb}
use Rattle.std.proofs.Common.{arith, ap, ◌∙◌, ⊎_elim, lt-ltb, ltb-true, lt_of_le_of_lt}
use Rattle.std.specs.Int.Bits.{bit_and}
use Rattle.std.proofs.lemmas.Nat.{and_le_l}
use Rattle.words.specs.Word.{erased, bit, Between}
use Rattle.words.specs.LawsWord.{erased_bit_seven}
use Rattle.words.specs.LawsMask.{Reaches, reaches_same, reaches_makes, reaches_torn, under_lt}
use Rattle.words.specs.LawsTests.{or_cases, or_right}
use Rattle.words.specs.LawsAddress.{entry_program, entry_config}
use Rattle.device.specs.declared.Device.{Device}
use Rattle.device.specs.Record.{most_words}
use Rattle.device.specs.Memory.{is_config, mask_at}
use Rattle.device.specs.LawsMemory.{config_inside, config_range}
use Rattle.device.specs.LawsRecord.{Rules, Row, row, whole_rows}
use Rattle.target.specs.Chip.{Chip, chip_of}

pub record SoundChip (chip : Chip) : Type 0 where
  -- whole rows in the program words, whole latch sets in a row, a place for each latch
  pub whole : chip.words / chip.row * chip.row ≡ chip.words
  pub split : chip.row ≡ chip.sets * chip.group
  pub some_row : 0 < chip.row
  pub some_set : 0 < chip.sets
  pub some_latch : 0 < chip.group
  pub carried : chip.group ≤ chip.places
  -- program words below configuration space, whose words do not wrap
  pub below : chip.words ≤ chip.base
  pub apart : chip.reading_tail < chip.base
  pub within : chip.reading_tail ≤ chip.cells_tail
  -- the cells of program words and of a reading's words of configuration space
  pub cell_program : (a : ℕ) → a < chip.words → chip.cell a ≡ a
  pub cell_config : (k : ℕ) → k < chip.reading_tail → chip.cell (chip.base + k) ≡ chip.words + k
  -- user IDs and configuration words are apart, among a reading's words, and can be written
  pub some_id : 0 < chip.ids
  pub ids_within : chip.ids ≤ chip.reading_tail
  pub config_within : (k : ℕ) → chip.is_config k ≡ true → k < chip.reading_tail
  pub config_apart : (k : ℕ) → chip.is_config k ≡ true → chip.ids ≤ k
  pub id_writable : (k : ℕ) → k < chip.ids → chip.is_writable k ≡ true
  pub config_writable : (k : ℕ) → chip.is_config k ≡ true → chip.is_writable k ≡ true
  pub writable_within : (k : ℕ) → chip.is_writable k ≡ true → k < chip.cells_tail
  -- CP is in a configuration word, and an erased word does not protect
  pub cp_config : chip.is_config chip.cp_word ≡ true
  pub cp_erased : eqb (bit erased chip.cp_bit) 0 ≡ false

-- what a write makes of a word is known by one relation
pub record Burning (chip : Chip) : Type 1 where
  -- a cell that holds this word can still be written to that one; an erased cell can be written to that one
  pub Can : (i word wanted : ℕ) → Type 0
  pub Takes : (i wanted : ℕ) → Type 0
  pub can_same : (i v : ℕ) → Can i v v
  pub can_erased : (i v : ℕ) → Takes i v → Can i erased v
  pub can_makes : (i x v : ℕ) → Can i x v → chip.burn i x v ≡ v
  pub can_torn : (i x v w : ℕ) → Can i x v → Between x v w → Can i w v
  pub burn_fits : (i x v : ℕ) → x < 0x4000 → chip.burn i x v < 0x4000

-- ---- this family

pub sound_chip : (d : Device) → Rules d → SoundChip (chip_of d)
sound_chip d r =
    record {
      whole = whole_rows d r;
      split = omega arith;
      some_row = positive;
      some_set = omega arith;
      some_latch = positive;
      carried = v.high;
      below = let m : d.words ≤ most_words = r.most in omega arith;
      apart = omega arith;
      within = omega arith;
      cell_program = λ a h. entry_program 0x8000 d.words 11 a h;
      cell_config = λ k h. config_cell k h;
      some_id = omega arith;
      ids_within = omega arith;
      config_within = λ k e. (config_range k e).1;
      config_apart = λ k e. let z : 7 ≤ k = (config_range k e).0 in omega arith;
      id_writable = λ k h. rw (lt-ltb k 4 h);
      config_writable = λ k e. or_right (ltb k 4) (is_config k) e;
      writable_within = λ k e. ⊎_elim (λ p. let z : k < 4 = ltb-true k 4 p in omega arith) (λ p. let z : k < 9 = (config_range k p).1 in omega arith) (or_cases (ltb k 4) (is_config k) e);
      cp_config = config_inside 7 (omega arith) (omega arith);
      cp_erased = rw erased_bit_seven;
    }
  where
    v : Row d.row
    v = row d.row r.row_is

    positive : 0 < d.row
    positive = omega (arith, v.low)

    config_cell : (k : ℕ) → k < 9 → (chip_of d).cell (0x8000 + k) ≡ d.words + k
    config_cell k h =
        let m : d.words ≤ most_words = r.most in
        let e : 0x8000 + k - 0x8000 ≡ k = omega arith in
        entry_config 0x8000 d.words 11 (0x8000 + k) (omega arith) (omega arith) (omega arith) ∙ ap (λ n. d.words + n) e

-- a write clears bits under a cell's mask: what has every spare bit as wanted, and every bit that wanted has, can still be written to it
unfoldable pub burning : (d : Device) → Burning (chip_of d)
burning d =
    record {
      Can = λ i word wanted. Reaches (mask_at d i) word wanted;
      Takes = λ i wanted. Reaches (mask_at d i) erased wanted;
      can_same = λ i v. reaches_same (mask_at d i) v;
      can_erased = λ i v h. h;
      can_makes = λ i x v h. reaches_makes (mask_at d i) x v h;
      can_torn = λ i x v w h b. reaches_torn (mask_at d i) x v w h b;
      burn_fits = λ i x v h. under_lt (mask_at d i) (bit_and x v) x (lt_of_le_of_lt (and_le_l x v) h) h;
    }
