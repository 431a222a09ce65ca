-- What an order's way through the code makes of the cells, and the word read, for any chip: one rule for each way.
use Rattle.std.specs.Prelude.{ℕ, ◌+◌, ◌-◌, ◌*◌, ◌/◌, ◌%◌, ◌≤◌, ◌<◌, ◌≡◌, refl, Bool, true, false, ◌||◌, List, length, get_or, set, replicate}
use Rattle.std.proofs.Common.{arith, sym, ◌∙◌, le-ltb}
use Rattle.std.proofs.Math.Decide.{dec_lt}
use Rattle.std.proofs.Math.Path.{ap}
use Rattle.std.specs.Int.Bits.{bit_and}
use Rattle.std.proofs.Math.Arith.{digits_mod}
use Rattle.std.proofs.lemmas.List.{places}
use borrow.Author.Rules.{rules}
use borrow.Rule.Slice.PartMut.{put_mid}
use Rattle.words.specs.Choice.{pick}
use Rattle.words.specs.Word.{erased}
use Rattle.words.specs.Lists.{in_range, overlay}
use Rattle.words.specs.LawsChoice.{pick_true, pick_false}
use Rattle.words.specs.LawsLists.{get_d_past, same_entries, length_overlay, overlay_below, overlay_inside, overlay_above, overlay_more, overlay_same, build_ext}
use Rattle.words.specs.Address.{config_base, entry_of}
use Rattle.words.specs.LawsAddress.{entry_config, entry_beyond}
use Rattle.device.specs.declared.Device.{Device}
use Rattle.device.specs.Memory.{reading_tail, cells_tail, programmable}
use Rattle.device.specs.Record.{most_words}
use Rattle.device.specs.LawsMask.{under_plain}
use Rattle.device.specs.LawsMemory.{programmable_lt}
use Rattle.device.specs.LawsRecord.{Rules, row_mask}
use Rattle.target.specs.Chip.{Chip, chip_of}
use Rattle.target.specs.Effects.{locked, edit, in_program, at_erase, row_erased, bulk_erased, begin_written, latch_of, burnt, word_read}
use Rattle.target.specs.LawsChip.{SoundChip, sound_chip}
use Rattle.target.specs.LawsEdit.{edit_none, edit_range, edit_one, edit_ext, edit_then}
use Rattle.target.specs.LawsHits.{in_program_lem, not_program, latch_within, row_within}
use Rattle.target.specs.LawsHits.{row_erased_program, row_erased_locked, row_erased_nowhere, row_erased_ids, bulk_erased_ids, bulk_erased_words}
use Rattle.target.specs.LawsHits.{begin_written_program, begin_written_locked, begin_written_between, begin_written_not, begin_written_one}

-- ---- a range that is filled with one word

pub filled : (first count k w : ℕ) (l m : List ℕ) → first + count ≤ length l → k ≡ count → m ≡ replicate count w → put_mid first k l m ≡ overlay first count (λ i. w) l
filled first count k w l m h s e =
    rw (s, e)
    (same_entries _ _ (search (rules, places) ∙ sym (length_overlay first count (λ i. w) l)) (λ i p. at_each i (dec_lt i first) (dec_lt i (first + count))))
  where
    at_each : (i : ℕ) → Dec (i < first) → Dec (i < first + count) → get_or (put_mid first count l (replicate count w)) i 0 ≡ get_or (overlay first count (λ i. w) l) i 0
    at_each i (yes p) q = grind (arith, places) ∙ sym (overlay_below first count (λ i. w) l i p)
    at_each i (no p) (yes q) = grind (arith, places) ∙ sym (overlay_inside first count (λ i. w) l i (omega arith) (omega arith) q)
    at_each i (no p) (no q) = grind (arith, places) ∙ sym (overlay_above first count (λ i. w) l i (omega arith))

-- ---- the word read: b is whether the cells are protected, as the code has found

module _ (chip : Chip) (a : ℕ) (cells : List ℕ) where
  pub read_hidden : a < chip.words → (b : Bool) → b ≡ locked chip cells → b ≡ true → 0 ≡ word_read chip a cells
  unfolding word_read pick
  read_hidden h b e p = rw (in_program_lem chip a h, ← e, p)

  pub read_program : SoundChip chip → a < chip.words → (b : Bool) → b ≡ locked chip cells → b ≡ false → get_or cells a 0 ≡ word_read chip a cells
  unfolding word_read pick
  read_program s h b e p = rw (in_program_lem chip a h, ← e, p, s.cell_program a h)

  -- where the code has looked for the word's cell
  module _ (past : chip.words ≤ a) (i : ℕ) (e : i ≡ chip.cell a) where
    pub read_at : get_or cells i 0 ≡ word_read chip a cells
    unfolding word_read pick
    read_at = rw (not_program chip a past, e)

    pub read_past : length cells ≤ i → 0 ≡ word_read chip a cells
    read_past h = sym (get_d_past cells i h) ∙ read_at

-- ---- Row Erase

module _ (chip : Chip) (s : SoundChip chip) (a : ℕ) (cells : List ℕ) where
  pub row_erase_locked : a < chip.words → (b : Bool) → b ≡ locked chip cells → b ≡ true → cells ≡ edit (row_erased chip a cells) (λ i. erased) cells
  row_erase_locked h b e p = sym (edit_none _ _ cells (λ i. row_erased_locked chip s a cells i h (sym e ∙ p)))

  pub row_erase_program : a < chip.words → (b : Bool) → b ≡ locked chip cells → b ≡ false
      → (after : List ℕ) → after ≡ overlay (a / chip.row * chip.row) chip.row (λ i. erased) cells → after ≡ edit (row_erased chip a cells) (λ i. erased) cells
  row_erase_program h b e p after f = f ∙ sym (edit_range _ _ cells (a / chip.row * chip.row) chip.row (λ i q. row_erased_program chip s a cells i h (sym e ∙ p)))

  pub row_erase_nowhere : chip.words ≤ a → at_erase chip a ≡ false → cells ≡ edit (row_erased chip a cells) (λ i. erased) cells
  row_erase_nowhere h e = sym (edit_none _ _ cells (λ i. row_erased_nowhere chip s a cells i h e))

  pub row_erase_ids : chip.row_erases_ids ≡ true → chip.words ≤ a → at_erase chip a ≡ true
      → (after : List ℕ) → after ≡ overlay chip.words chip.ids (λ i. erased) cells → after ≡ edit (row_erased chip a cells) (λ i. erased) cells
  row_erase_ids t h e after f = f ∙ sym (edit_range _ _ cells chip.words chip.ids (λ i k. row_erased_ids chip s a cells i t e h))

-- ---- Bulk Erase: two ranges, and a third with the user IDs

module _ (chip : Chip) (first count : ℕ) (configs : (k : ℕ) → chip.is_config k ≡ in_range first count k) (a : ℕ) (cells one two : List ℕ)
    (e : one ≡ overlay 0 chip.words (λ i. erased) cells) (f : two ≡ overlay (chip.words + first) count (λ i. erased) one) where
  both_ranges : two ≡ edit (λ i. in_range 0 chip.words i || in_range (chip.words + first) count i) (λ i. erased) cells
  both_ranges =
      f
      ∙ (ap (overlay (chip.words + first) count (λ i. erased)) (e ∙ sym (edit_range (in_range 0 chip.words) (λ i. erased) cells 0 chip.words (λ i h. refl)))
      ∙ edit_then (in_range 0 chip.words) erased (chip.words + first) count cells)

  pub bulk_erase_words : at_erase chip a ≡ false → two ≡ edit (bulk_erased chip a) (λ i. erased) cells
  bulk_erase_words n = both_ranges ∙ sym (edit_ext _ _ (λ i. erased) cells (λ i h. bulk_erased_words chip first count configs a i n))

  pub bulk_erase_ids : at_erase chip a ≡ true → (three : List ℕ) → three ≡ overlay chip.words chip.ids (λ i. erased) two
      → three ≡ edit (bulk_erased chip a) (λ i. erased) cells
  bulk_erase_ids p three g =
      g
      ∙ (ap (overlay chip.words chip.ids (λ i. erased)) both_ranges
      ∙ (edit_then (λ i. in_range 0 chip.words i || in_range (chip.words + first) count i) erased chip.words chip.ids cells
      ∙ sym (edit_ext _ _ (λ i. erased) cells (λ i h. bulk_erased_ids chip first count configs a i p))))

-- ---- Begin

-- one turn of a row's write
pub write_turn : (latches : List ℕ) (row q : ℕ) (l m : List ℕ) (i : ℕ) → i < row
    → m ≡ overlay (q * row) i (λ k. bit_and (get_or l k 0) (get_or latches (k % row) 0)) l
    → set m (q * row + i) (bit_and (get_or m (q * row + i) 0) (get_or latches i 0)) ≡ overlay (q * row) (i + 1) (λ k. bit_and (get_or l k 0) (get_or latches (k % row) 0)) l
write_turn latches row q l m i h e =
    overlay_more (q * row) i (λ k. bit_and (get_or l k 0) (get_or latches (k % row) 0)) l m (bit_and (get_or m (q * row + i) 0) (get_or latches i 0)) e
    (ap (λ w. bit_and w (get_or latches i 0)) old ∙ ap (λ k. bit_and (get_or l (q * row + i) 0) (get_or latches k 0)) (sym (digits_mod q h)))
  where
    old : get_or m (q * row + i) 0 ≡ get_or l (q * row + i) 0
    old = ap (λ x. get_or x (q * row + i) 0) e ∙ overlay_above (q * row) i (λ k. bit_and (get_or l k 0) (get_or latches (k % row) 0)) l (q * row + i) (omega arith)

module _ (chip : Chip) (a : ℕ) (latches cells : List ℕ) (i : ℕ) where
  -- in program memory each word's own latch
  burnt_program : a < chip.words → burnt chip a latches cells i ≡ chip.burn i (get_or cells i 0) (get_or latches (i % chip.group) 0)
  unfolding burnt latch_of
  burnt_program h = ap (λ k. chip.burn i (get_or cells i 0) (get_or latches (k % chip.group) 0)) (pick_true (in_program chip a) i a (in_program_lem chip a h))

  burnt_config : chip.words ≤ a → burnt chip a latches cells i ≡ chip.burn i (get_or cells i 0) (get_or latches (a % chip.group) 0)
  unfolding burnt latch_of
  burnt_config h = ap (λ k. chip.burn i (get_or cells i 0) (get_or latches (k % chip.group) 0)) (pick_false (in_program chip a) i a (not_program chip a h))

module _ (chip : Chip) (s : SoundChip chip) (a : ℕ) (latches cells : List ℕ) where
  pub begin_locked : a < chip.words → (b : Bool) → b ≡ locked chip cells → b ≡ true → cells ≡ edit (begin_written chip a cells) (burnt chip a latches cells) cells
  begin_locked h b e p = sym (edit_none _ _ cells (λ i. begin_written_locked chip s a cells i h (sym e ∙ p)))

  begin_program : a < chip.words → (b : Bool) → b ≡ locked chip cells → b ≡ false
      → (after : List ℕ) → after ≡ overlay (a / chip.group * chip.group) chip.group (λ i. chip.burn i (get_or cells i 0) (get_or latches (i % chip.group) 0)) cells
      → after ≡ edit (begin_written chip a cells) (burnt chip a latches cells) cells
  begin_program h b e p after f = f ∙ sym (edit_range _ _ cells (a / chip.group * chip.group) chip.group (λ i q. begin_written_program chip s a cells i h (sym e ∙ p)) ∙ each)
    where
      each : overlay (a / chip.group * chip.group) chip.group (burnt chip a latches cells) cells
          ≡ overlay (a / chip.group * chip.group) chip.group (λ i. chip.burn i (get_or cells i 0) (get_or latches (i % chip.group) 0)) cells
      each =
          unfold overlay in
          build_ext (length cells) _ _ (λ i q. ap (λ w. pick (in_range (a / chip.group * chip.group) chip.group i) w (get_or cells i 0)) (burnt_program chip a latches cells i h))

  pub begin_between : chip.words ≤ a → a < chip.base → cells ≡ edit (begin_written chip a cells) (burnt chip a latches cells) cells
  begin_between h p = sym (edit_none _ _ cells (λ i. begin_written_between chip s a cells i h p))

  -- where the code has looked for the counter's cell, and b is whether that can be written
  module _ (h : chip.base ≤ a) (i : ℕ) (e : i ≡ chip.cell a) (b : Bool) (f : b ≡ chip.is_writable (i - chip.words)) where
    writable : b ≡ chip.is_writable (chip.cell a - chip.words)
    writable = f ∙ ap (λ k. chip.is_writable (k - chip.words)) e

    begin_not : b ≡ false → cells ≡ edit (begin_written chip a cells) (burnt chip a latches cells) cells
    begin_not n = sym (edit_none _ _ cells (λ k. begin_written_not chip s a cells k h (sym writable ∙ n)))

    begin_one : b ≡ true → set cells i (chip.burn i (get_or cells i 0) (get_or latches (a % chip.group) 0)) ≡ edit (begin_written chip a cells) (burnt chip a latches cells) cells
    begin_one t =
        ap (λ k. set cells k (chip.burn k (get_or cells k 0) (get_or latches (a % chip.group) 0))) e
        ∙ (ap (set cells (chip.cell a)) (sym (burnt_config chip a latches cells (chip.cell a) (omega (arith, s.below))))
        ∙ sym (edit_one _ _ cells (chip.cell a) (λ k q. begin_written_one chip s a cells k h (sym writable ∙ t))))

-- ---- this family's rows and latches, as the code asks for them

module _ (d : Device) (r : Rules d) where
  pub some_row : 0 < d.row
  some_row = (sound_chip d r).some_row

  pub latch_of_lem : (a : ℕ) → a % d.row < (chip_of d).places
  latch_of_lem a = latch_within (chip_of d) (sound_chip d r) a

  -- the same latch by the counter's low bits
  pub latch_bits : (a : ℕ) → (bit_and a (d.row - 1) ≡ a % d.row) × (bit_and a (d.row - 1) < 32)
  latch_bits a = (row_mask d.row r.row_is a, rw (row_mask d.row r.row_is a) (latch_of_lem a))

  -- what can be written is one of the cells
  module _ (i : ℕ) (b : Bool) (e : b ≡ programmable d.words i) (t : b ≡ true) where
    pub cell_low : i < most_words + reading_tail
    cell_low = let h : i < d.words + reading_tail = programmable_lt d.words i (sym e ∙ t) in let m : d.words ≤ most_words = r.most in omega arith

    pub cell_within : (cells : List ℕ) → length cells ≡ d.words + cells_tail → i < length cells
    cell_within cells l = let h : i < d.words + reading_tail = programmable_lt d.words i (sym e ∙ t) in omega arith

-- ---- Begin in this family: program words have every bit, so that each becomes itself AND its latch

module _ (d : Device) (r : Rules d) (a : ℕ) (latches cells : List ℕ) where
  pub begin_row : a < d.words → (b : Bool) → b ≡ locked (chip_of d) cells → b ≡ false
      → (after : List ℕ) → after ≡ overlay (a / d.row * d.row) d.row (λ i. bit_and (get_or cells i 0) (get_or latches (i % d.row) 0)) cells
      → after ≡ edit (begin_written (chip_of d) a cells) (burnt (chip_of d) a latches cells) cells
  begin_row h b e p after f = begin_program (chip_of d) (sound_chip d r) a latches cells h b e p after (f ∙ overlay_same (a / d.row * d.row) d.row _ _ cells (λ i low high. sym (whole i high)))
    where
      whole : (i : ℕ) → i < a / d.row * d.row + d.row → (chip_of d).burn i (get_or cells i 0) (get_or latches (i % d.row) 0) ≡ bit_and (get_or cells i 0) (get_or latches (i % d.row) 0)
      whole i high =
          let k : a / d.row * d.row + d.row ≤ d.words = row_within (chip_of d) (sound_chip d r) a h in
          under_plain d i (omega arith) _ _

-- ---- Begin in this family, where a cell of configuration space can be written if its word is programmable

module _ (d : Device) (r : Rules d) (a : ℕ) (latches cells : List ℕ) (h : config_base ≤ a) (i : ℕ) (e : i ≡ (chip_of d).cell a) (b : Bool) (f : b ≡ programmable d.words i) where
  past_program : d.words ≤ i
  past_program = rw e (by (dec_lt (a - config_base) cells_tail))
    where
      low : d.words ≤ a
      low = let m : d.words ≤ most_words = r.most in omega arith

      by : Dec (a - config_base < cells_tail) → d.words ≤ entry_of config_base d.words cells_tail a
      by (yes p) = rw (entry_config config_base d.words cells_tail a low h p) (omega arith)
      by (no p) = rw (entry_beyond config_base d.words cells_tail a low h (omega arith)) (omega arith)

  can_write : b ≡ (chip_of d).is_writable (i - d.words)
  can_write = f ∙ (unfold programmable in rw (le-ltb i d.words past_program))

  pub begin_other : b ≡ false → cells ≡ edit (begin_written (chip_of d) a cells) (burnt (chip_of d) a latches cells) cells
  begin_other n = begin_not (chip_of d) (sound_chip d r) a latches cells h i e b can_write n

  pub begin_word : b ≡ true → (word : ℕ) → word ≡ (chip_of d).burn i (get_or cells i 0) (get_or latches (a % d.row) 0)
      → set cells i word ≡ edit (begin_written (chip_of d) a cells) (burnt (chip_of d) a latches cells) cells
  begin_word t word w = ap (set cells i) w ∙ begin_one (chip_of d) (sound_chip d r) a latches cells h i e b can_write t
