-- The read-back: of the words that the text which readback prints answers on a board, gather makes that board's sheet.
use Rattle.std.specs.Prelude.{ℕ, zero, suc, ◌+◌, ◌*◌, ◌/◌, ◌≤◌, ◌<◌, ◌≡◌, true, false, ◌&&◌, List, ◌∷◌, ltb, length, take, replicate}
use Rattle.std.proofs.Common.{arith, ap, ◌∙◌}
use Rattle.std.proofs.Math.Path.{sym}
use Rattle.std.proofs.Math.ListN.{get_or}
use Rattle.std.proofs.lemmas.List.{length-replicate}
use Rattle.std.proofs.lemmas.List.Edits.{sets}
use Rattle.words.specs.Choice.{pick}
use Rattle.words.specs.Word.{erased}
use Rattle.words.specs.LawsChoice.{pick_false, second_fails}
use Rattle.words.specs.LawsLists.{length_build, built}
use Rattle.words.specs.LawsTests.{by_eq}
use Rattle.device.specs.declared.Device.{Device}
use Rattle.device.specs.Record.{device_up_to}
use Rattle.device.specs.Memory.{reading_tail, cp_word, protected}
use Rattle.device.specs.LawsMemory.{protected_same}
use Rattle.sheet.specs.FirstLine.{is_new, first_line}
use Rattle.sheet.specs.Sheet.{sheet_with, sheet_ok}
use Rattle.sheet.specs.LawsSheet.{read_written, taken}
use Rattle.target.specs.declared.Order.TheVariants.{LoadConfiguration}
use Rattle.target.specs.declared.Registers.{Registers}
use Rattle.target.specs.Chip.{chip_of}
use Rattle.target.specs.Step.{sound_cells}
use Rattle.target.specs.Run.{model_of, ran}
use Rattle.target.specs.Cut.{CutRuns}
use Rattle.target.specs.Stream.{bytes_of}
use Rattle.target.specs.LawsModel.{stands}
use Rattle.target.specs.LawsStream.{FitsAll, fits_append, length_bytes}
use Rattle.plan.specs.Steps.{reads, read_steps, read_back_steps}
use Rattle.plan.specs.Demands.{reading_of}
use Rattle.plan.specs.LawsReadBack.{at, read_back_answers}
use Rattle.board.specs.Open.{name_of, most_program, record_of, open_number, board_number, board_reading}
use Rattle.board.specs.LawsOpen.{opened_sound, served_most, opened_id}
use Rattle.board.specs.LawsBoard.{board_refused, board_found, board_served}
use Rattle.listings.specs.Streams.{stream_text, readback_text, update_text}
use Rattle.listings.specs.Wanteds.{wanted_text}
use Rattle.listings.specs.LawsPlanned.{read_back_few}
use Rattle.trials.specs.Trial.{most_steps, stream_of, cells_of}
use Rattle.trials.specs.LawsTyped.{front_is}
use Rattle.gathers.specs.Gather.{answer_text, gather_text}
use Rattle.rehearsed.specs.Rehearsed.{is_refusal, Leaves, cells_left, answers_of, words_text}
use Rattle.rehearsed.proofs.LawsTold.{not_refused, text_is, stream_told}
use Rattle.rehearsed.specs.LawsPrinted.{printed_read}
use Rattle.rehearsed.specs.LawsFront.{front_long, front_word, front_reading, first_sound, first_front}
use Rattle.rehearsed.proofs.LawsRehearsed.{update_board, update_leaves}
use Rattle.rehearsed.proofs.LawsAnswers.{answers_gathered}

-- ---- what is read of a board that is not protected

module _ (d : Device) (cells : List ℕ) (sound : sound_cells (chip_of d) cells ≡ true) where
  -- every word as it is
  read_front : protected d.words cells ≡ false → reading_of d cells ≡ take (d.words + reading_tail) cells
  unfolding reading_of
  read_front bare =
      sym (built (take (d.words + reading_tail) cells) (d.words + reading_tail) (λ i. pick (ltb i d.words && protected d.words cells) 0 (get_or cells i 0)) (front_long d cells sound) each)
    where
      each : (i : ℕ) → i < d.words + reading_tail → get_or (take (d.words + reading_tail) cells) i 0 ≡ pick (ltb i d.words && protected d.words cells) 0 (get_or cells i 0)
      each i h =
          front_word d cells sound i h
          ∙ sym (pick_false (ltb i d.words && protected d.words cells) 0 (get_or cells i 0) (second_fails (ltb i d.words) (protected d.words cells) bare))

-- ---- the printed read-back

fits_reads : (n : ℕ) → FitsAll (reads n)
unfolding reads
fits_reads zero = tt
fits_reads (suc zero) = (tt, tt)
fits_reads (suc (suc n)) = (tt, (tt, fits_reads (suc n)))

read_back_fits : (d : Device) → FitsAll (read_back_steps d)
unfolding read_back_steps read_steps
read_back_fits d = (tt, fits_append (reads d.words) (LoadConfiguration erased ∷ reads reading_tail) (fits_reads d.words) (omega arith, fits_reads reading_tail))

-- words that are read to the front of the buffer are those answered
front_answers : (r : Registers) (cells words l : List ℕ) (n done : ℕ) → n ≡ length l → n ≤ length words → answers_of (stands (at r.counter.0 r.latches n (sets words 0 l) cells) done 0) ≡ l
unfolding answers_of
front_answers r cells words l n done e room = front_is words l n e room

module _ (table sheet : List ℕ) (z : open_number table sheet ≡ 0) where
  printed : readback_text table sheet ≡ stream_text (bytes_of (read_back_steps (record_of table sheet)))
  unfolding readback_text
  printed = text_is (open_number table sheet) 0 0 (stream_text (bytes_of (read_back_steps (record_of table sheet)))) z

  read_again : stream_of (readback_text table sheet) ≡ bytes_of (read_back_steps (record_of table sheet))
  read_again = ap stream_of printed ∙ printed_read (read_back_steps (record_of table sheet)) (read_back_fits (record_of table sheet))

  pub stream_printed : is_refusal (readback_text table sheet) ≡ false
  stream_printed = ap is_refusal printed ∙ stream_told (read_back_steps (record_of table sheet))

  module _ (cells words : List ℕ) (sound : sound_cells (chip_of (record_of table sheet)) cells ≡ true) (bare : protected (record_of table sheet).words cells ≡ false)
      (room : (record_of table sheet).words + reading_tail ≤ length words) (n : ℕ) (enough : length (stream_of (readback_text table sheet)) / 3 ≤ n) where
    abbrev d : Device
    d = record_of table sheet

    steps : length (read_back_steps d) ≤ n
    steps = let e : length (stream_of (readback_text table sheet)) ≡ 3 * length (read_back_steps d) = ap length read_again ∙ length_bytes (read_back_steps d) in omega arith

    -- the words answered are the first P+9 cells
    answered : answers_of (ran d (stream_of (readback_text table sheet)) n cells words) ≡ take (d.words + reading_tail) cells
    answered =
        ap answers_of (ap (λ b. ran d b n cells words) read_again ∙ read_back_answers d cells words (opened_sound table sheet z) sound room n steps)
        ∙ (front_answers _ cells words (reading_of d cells) (d.words + reading_tail) _ (sym count) room ∙ read_front d cells sound bare)
      where
        count : length (reading_of d cells) ≡ d.words + reading_tail
        count = unfold reading_of in length_build (d.words + reading_tail) _

-- ---- the theorems

-- if readback prints a stream and not a refusal, then on a board of that record that is not protected, a run that may take all its steps, with room for the words,
-- answers words of which gather makes that board's sheet
pub gathered : (table sheet : List ℕ) → is_refusal (readback_text table sheet) ≡ false
    → (cells : List ℕ) → sound_cells (chip_of (record_of table sheet)) cells ≡ true → protected (record_of table sheet).words cells ≡ false
    → (n : ℕ) → length (stream_of (readback_text table sheet)) / 3 ≤ n → (buffer : List ℕ) → (record_of table sheet).words + reading_tail ≤ length buffer
    → gather_text table sheet (words_text (record_of table sheet) (readback_text table sheet) cells n buffer)
    ≡ sheet_with (first_line sheet).id (record_of table sheet) (take ((record_of table sheet).words + reading_tail) cells)
unfolding words_text
gathered table sheet printed cells sound bare n enough buffer room =
    ap (λ l. gather_text table sheet (answer_text l)) (answered table sheet z cells buffer sound bare room n enough)
    ∙ answers_gathered table sheet z (take ((record_of table sheet).words + reading_tail) cells) (front_reading (record_of table sheet) cells sound)
  where
    z : open_number table sheet ≡ 0
    z = not_refused (open_number table sheet) 0 0 (stream_text (bytes_of (read_back_steps (record_of table sheet)))) (unfold readback_text in printed)

-- a stream was played whole, be it cut before or not: if the board is not protected then, its words are gathered to just the sheet that the stream is to leave
pub left_gathered : (table sheet : List ℕ) → is_refusal (readback_text table sheet) ≡ false → (stream cells left : List ℕ) → Leaves (first_line sheet).id (record_of table sheet) stream cells left
    → (c : List ℕ) → CutRuns (model_of (record_of table sheet)) (stream_of stream) cells c → (n : ℕ) → length (stream_of stream) / 3 ≤ n → (words : List ℕ)
    → protected (record_of table sheet).words (cells_left (record_of table sheet) stream c n words) ≡ false
    → (m : ℕ) → length (stream_of (readback_text table sheet)) / 3 ≤ m → (buffer : List ℕ) → (record_of table sheet).words + reading_tail ≤ length buffer
    → gather_text table sheet (words_text (record_of table sheet) (readback_text table sheet) (cells_left (record_of table sheet) stream c n words) m buffer) ≡ left
left_gathered table sheet printed stream cells left l c cuts n enough words bare m all buffer room =
    ap (λ x. gather_text table sheet (words_text (record_of table sheet) (readback_text table sheet) x m buffer)) leaves
    ∙ (gathered table sheet printed l.last l.last_sound (sym (ap (protected (record_of table sheet).words) leaves) ∙ bare) m all buffer room ∙ l.sheet_is)
  where
    leaves : cells_left (record_of table sheet) stream c n words ≡ l.last
    leaves = unfold cells_left ran in (l.recovers.recovers words c cuts n enough).2

-- ---- a board's own sheet

module _ (table sheet : List ℕ) (z : board_number table sheet ≡ 0) where
  opens : open_number table sheet ≡ 0
  opens = by_eq (open_number table sheet) 0 (λ e. e) (λ n. sym (board_refused table sheet n) ∙ z)

  sheet_sound : sheet_ok (record_of table sheet) sheet ≡ true
  sheet_sound = (taken (record_of table sheet) (name_of table sheet) sheet (sym (board_found table sheet opens) ∙ z)).ok

  abbrev reading : List ℕ
  reading = board_reading table sheet

  sheet_again : is_new sheet ≡ false → sheet_with (first_line sheet).id (record_of table sheet) (take ((record_of table sheet).words + reading_tail) (cells_of reading)) ≡ sheet
  sheet_again old =
      (λ i. sheet_with (opened_id table sheet opens i) (record_of table sheet) (first_front table sheet z i))
      ∙ (unfold board_reading in read_written (record_of table sheet) sheet sheet_sound old)

  -- what readback prints, played on the cells that trial makes of this sheet, is gathered to this very sheet if it is in the old form, unless the board is protected
  pub gathered_again : is_new sheet ≡ false → protected (record_of table sheet).words reading ≡ false
      → gather_text table sheet (words_text (record_of table sheet) (readback_text table sheet) (cells_of reading) most_steps (replicate most_steps 0)) ≡ sheet
  gathered_again old bare =
      gathered table sheet (stream_printed table sheet opens) (cells_of reading) (first_sound table sheet z) same most_steps enough (replicate most_steps 0) room
      ∙ sheet_again old
    where
      served : device_up_to most_program (record_of table sheet) ≡ true
      served = board_served table sheet z

      same : protected (record_of table sheet).words (cells_of reading) ≡ false
      same =
          protected_same (record_of table sheet).words (cells_of reading) reading
          (sym (front_word (record_of table sheet) (cells_of reading) (first_sound table sheet z) ((record_of table sheet).words + cp_word) (omega arith))
          ∙ ap (λ l. get_or l ((record_of table sheet).words + cp_word) 0) (first_front table sheet z))
          ∙ bare

      room : (record_of table sheet).words + reading_tail ≤ length {A = ℕ} (replicate most_steps 0)
      room = let most : (record_of table sheet).words ≤ most_program = served_most (record_of table sheet) served in rw (length-replicate {A = ℕ} most_steps 0) (omega arith)

      enough : length (stream_of (readback_text table sheet)) / 3 ≤ most_steps
      enough =
          let few : 3 * length (read_back_steps (record_of table sheet)) ≤ 55362 = read_back_few (record_of table sheet) served in
          let e : length (stream_of (readback_text table sheet)) ≡ 3 * length (read_back_steps (record_of table sheet)) =
          ap length (read_again table sheet opens) ∙ length_bytes (read_back_steps (record_of table sheet)) in
          omega arith

-- ---- a whole round

-- a sheet that was true of the board, the text that update printed for it played whole, be it cut before or not, and the board read back:
-- unless it is protected now, gather prints the very text that wanted prints
pub round : (table sheet hex : List ℕ) → is_refusal (update_text table sheet hex) ≡ false
    → (cells : List ℕ) → sound_cells (chip_of (record_of table sheet)) cells ≡ true → take ((record_of table sheet).words + reading_tail) cells ≡ board_reading table sheet
    → (c : List ℕ) → CutRuns (model_of (record_of table sheet)) (stream_of (update_text table sheet hex)) cells c
    → (n : ℕ) → length (stream_of (update_text table sheet hex)) / 3 ≤ n → (words : List ℕ)
    → protected (record_of table sheet).words (cells_left (record_of table sheet) (update_text table sheet hex) c n words) ≡ false
    → (m : ℕ) → length (stream_of (readback_text table sheet)) / 3 ≤ m → (buffer : List ℕ) → (record_of table sheet).words + reading_tail ≤ length buffer
    → gather_text table sheet (words_text (record_of table sheet) (readback_text table sheet) (cells_left (record_of table sheet) (update_text table sheet hex) c n words) m buffer)
    ≡ wanted_text table sheet hex
round table sheet hex printed cells sound held c cuts n enough words bare m all buffer room =
    left_gathered table sheet (stream_printed table sheet (opens table sheet (update_board table sheet hex printed))) (update_text table sheet hex) cells (wanted_text table sheet hex)
    (update_leaves table sheet hex printed cells sound held) c cuts n enough words bare m all buffer room
