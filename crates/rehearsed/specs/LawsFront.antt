-- Laws of a board's cells and its reading: the reading stands in front, and what is programmed of the cells begins with what is programmed of the reading.
use Prim.Native.Nat.{ℕ, ◌+◌, ◌<◌}
use Rattle.std.proofs.Common.{arith, sym, ap, ◌∙◌, get_or-take, length-take-le}
use Rattle.std.specs.Prelude.{◌≡◌, refl, true, false, List, [], ◌∷◌, get_or, take, replicate}
use Rattle.std.proofs.Math.ListN.{length}
use Rattle.std.proofs.Math.Seq.{take_at}
use Rattle.words.specs.Choice.{pick}
use Rattle.words.specs.Word.{erased}
use Rattle.words.specs.Lists.{build}
use Rattle.words.specs.LawsChoice.{pick_true, pick_false}
use Rattle.words.specs.LawsLists.{length_build, get_or_build, built}
use Rattle.words.specs.LawsTests.{by_test}
use Rattle.words.specs.LawsWord.{words_long, words_each, words_of_lem}
use Rattle.device.specs.declared.Device.{Device}
use Rattle.device.specs.Memory.{reading_tail, cells_tail, programmable, reading_ok}
use Rattle.device.specs.LawsMemory.{reading_long}
use Rattle.target.specs.Chip.{chip_of}
use Rattle.target.specs.Step.{sound_cells}
use Rattle.aim.specs.Wanted.{wanted}
use Rattle.plan.specs.Demands.{programmed}
use Rattle.board.specs.Open.{record_of, board_number, board_reading, opened_reading}
use Rattle.board.specs.LawsBoard.{Board, most_reading, board_opened}
use Rattle.trials.specs.Trial.{cells_of}
use Rattle.trials.specs.LawsPlayed.{cells_sound}

-- ---- any sound cells

module _ (d : Device) (cells : List ℕ) (sound : sound_cells (chip_of d) cells ≡ true) where
  pub cells_count : length cells ≡ d.words + cells_tail
  unfolding sound_cells
  cells_count = words_long (d.words + cells_tail) cells sound

  cells_each : (i : ℕ) → get_or cells i 0 < 0x4000
  unfolding sound_cells
  cells_each = words_each (d.words + cells_tail) cells sound

  pub front_long : length (take (d.words + reading_tail) cells) ≡ d.words + reading_tail
  front_long = length-take-le (d.words + reading_tail) cells (rw cells_count (omega arith))

  pub front_word : (i : ℕ) → i < d.words + reading_tail → get_or (take (d.words + reading_tail) cells) i 0 ≡ get_or cells i 0
  front_word i h = get_or-take (d.words + reading_tail) cells i 0 h

  -- the words to 8008h are a reading
  pub front_reading : reading_ok d.words (take (d.words + reading_tail) cells) ≡ true
  unfolding reading_ok
  front_reading = words_of_lem (d.words + reading_tail) (take (d.words + reading_tail) cells) front_long (λ i h. rw (front_word i h) (cells_each i))

  -- words that are programmed into sound cells leave sound cells
  pub programmed_sound : (image known : List ℕ) → ((i : ℕ) → wanted d image known i < 0x4000) → sound_cells (chip_of d) (programmed d image known cells) ≡ true
  unfolding sound_cells programmed
  programmed_sound image known fit = words_of_lem (d.words + cells_tail) (build (length cells) word) (length_build (length cells) word ∙ cells_count) each
    where
      word : ℕ → ℕ
      word i = pick (programmable d.words i) (wanted d image known i) (get_or cells i 0)

      small : (i : ℕ) → word i < 0x4000
      small i =
          by_test (programmable d.words i)
          (λ p. rw (pick_true (programmable d.words i) (wanted d image known i) (get_or cells i 0) p) (fit i))
          (λ p. rw (pick_false (programmable d.words i) (wanted d image known i) (get_or cells i 0) p) (cells_each i))

      each : (i : ℕ) → i < d.words + cells_tail → get_or (build (length cells) word) i 0 < 0x4000
      each i h = rw (get_or_build (length cells) word i (rw cells_count h)) (small i)

  -- a reading that is true of the words that no stream changes
  pub programmed_front : (reading : List ℕ) → reading_ok d.words reading ≡ true
      → ((i : ℕ) → i < d.words + reading_tail → programmable d.words i ≡ false → get_or cells i 0 ≡ get_or reading i 0)
      → (image known : List ℕ) → take (d.words + reading_tail) (programmed d image known cells) ≡ programmed d image known reading
  unfolding programmed
  programmed_front reading ok held image known = built (take (d.words + reading_tail) (build (length cells) (word cells))) (length reading) (word reading) count each
    where
      long : length reading ≡ d.words + reading_tail
      long = reading_long d.words reading ok

      word : List ℕ → ℕ → ℕ
      word first i = pick (programmable d.words i) (wanted d image known i) (get_or first i 0)

      size : length (build (length cells) (word cells)) ≡ d.words + cells_tail
      size = length_build (length cells) (word cells) ∙ cells_count

      count : length (take (d.words + reading_tail) (build (length cells) (word cells))) ≡ length reading
      count = length-take-le (d.words + reading_tail) (build (length cells) (word cells)) (rw size (omega arith)) ∙ sym long

      same : (i : ℕ) → i < d.words + reading_tail → word cells i ≡ word reading i
      same i h =
          by_test (programmable d.words i)
          (λ p. pick_true (programmable d.words i) _ _ p ∙ sym (pick_true (programmable d.words i) _ _ p))
          (λ p. ap (λ w. pick (programmable d.words i) (wanted d image known i) w) (held i h p))

      each : (i : ℕ) → i < length reading → get_or (take (d.words + reading_tail) (build (length cells) (word cells))) i 0 ≡ word reading i
      each i h =
          let low : i < d.words + reading_tail = rw long at h in
          get_or-take (d.words + reading_tail) (build (length cells) (word cells)) i 0 low
          ∙ (get_or_build (length cells) (word cells) i (rw cells_count (omega arith)) ∙ same i low)

-- ---- the cells that trial makes of a sheet

module _ (table sheet : List ℕ) (z : board_number table sheet ≡ 0) where
  -- a board's sheet has a reading
  pub reading_sound : reading_ok (record_of table sheet).words (board_reading table sheet) ≡ true
  reading_sound = ap (reading_ok (record_of table sheet).words) (sym b.front) ∙ b.good
    where
      b : Board table sheet (record_of table sheet) (opened_reading table sheet (replicate most_reading 0))
      b = board_opened table sheet (board_number table sheet) refl z (record_of table sheet) refl (opened_reading table sheet (replicate most_reading 0)) refl

  pub first_sound : sound_cells (chip_of (record_of table sheet)) (cells_of (board_reading table sheet)) ≡ true
  first_sound = cells_sound (record_of table sheet) (board_reading table sheet) reading_sound (cells_of (board_reading table sheet)) refl

  pub first_front : take ((record_of table sheet).words + reading_tail) (cells_of (board_reading table sheet)) ≡ board_reading table sheet
  unfolding cells_of
  first_front =
      take_at (board_reading table sheet) (erased ∷ erased ∷ []) ((record_of table sheet).words + reading_tail)
      (reading_long (record_of table sheet).words (board_reading table sheet) reading_sound)
