-- Laws of the texts' lengths: how much room each program's text takes at most.
use Rattle.std.specs.Prelude.{ℕ, ◌*◌, ◌≤◌, ◌≡◌, true, List, [], ◌∷◌, length}
use Rattle.std.proofs.Common.{arith}
use Rattle.numerals.specs.Hex.{byte_text}
use Rattle.target.specs.declared.Order.{Order}
use Rattle.target.specs.Stream.{bytes_of}
use Rattle.target.specs.LawsStream.{length_bytes}
use Rattle.device.specs.declared.Device.{Device}
use Rattle.device.specs.Record.{device_up_to}
use Rattle.sheet.specs.Sheet.{sheet_with}
use Rattle.sheetwrite.specs.LawsWrite.{length_with}
use Rattle.print.specs.LawsLines.{either_short}
use Rattle.board.specs.Open.{most_program, record_of, open_number, board_number}
use Rattle.board.specs.LawsOpen.{served_sheet, opened_served}
use Rattle.board.specs.LawsBoard.{board_served}
use Rattle.listings.specs.Streams.{stream_text, plan_text, hex_of, readback_text, update_text, fresh_text}
use Rattle.listings.specs.Wanteds.{left_text, wanted_text, wanted_fresh_text}
use Rattle.listings.specs.LawsStreams.{most_stream}
use Rattle.listings.specs.LawsPlanned.{read_back_few}
use Rattle.listings.specs.LawsPlans.{update_few, fresh_few}

-- the longest printed stream: a line of eight for each of 18,454 steps
abbrev pub most_printed : ℕ
most_printed = 147632

-- the longest sheet
abbrev pub most_left : ℕ
most_left = 46135

-- ---- streams

stream_length : (s : List ℕ) → 3 * length (stream_text s) ≤ 8 * length s
unfolding stream_text byte_text
stream_length [] = omega arith
stream_length (c ∷ []) = omega arith
stream_length (c ∷ l ∷ []) = omega arith
stream_length (c ∷ l ∷ h ∷ s) = let a : 3 * length (stream_text s) ≤ 8 * length s = stream_length s in omega arith

steps_short : (s : List Order) → 3 * length s ≤ most_stream → length (stream_text (bytes_of s)) ≤ most_printed
steps_short s few =
    let a : 3 * length (stream_text (bytes_of s)) ≤ 8 * length (bytes_of s) = stream_length (bytes_of s) in
    let b : length (bytes_of s) ≡ 3 * length s = length_bytes s in
    omega arith

plan_short : (number : ℕ) (s : List Order) → 3 * length s ≤ most_stream → length (plan_text number (bytes_of s)) ≤ most_printed
unfolding plan_text
plan_short number s few = either_short most_printed (omega arith) number 0 0 (stream_text (bytes_of s)) (λ z. steps_short s few)

-- ---- sheets

left_short : (number id : ℕ) (d : Device) → device_up_to most_program d ≡ true → (reading : List ℕ) → length (left_text number id d reading) ≤ most_left
unfolding left_text
left_short number id d served reading = either_short most_left (omega arith) number 0 0 (sheet_with id d reading) (λ z. rw (length_with id d reading) (served_sheet d served))

-- ---- the programs

pub readback_short : (table sheet : List ℕ) → length (readback_text table sheet) ≤ 147632
unfolding readback_text
readback_short table sheet =
    either_short most_printed (omega arith) (open_number table sheet) 0 0 _ (λ z. steps_short _ (read_back_few (record_of table sheet) (opened_served table sheet z)))

pub update_short : (table sheet hex : List ℕ) → length (update_text table sheet hex) ≤ 147632
unfolding update_text
update_short table sheet hex =
    either_short most_printed (omega arith) (board_number table sheet) 0 0 _
    (λ z. either_short most_printed (omega arith) (hex_of table sheet hex).number (hex_of table sheet hex).line (hex_of table sheet hex).column _
    (λ y. plan_short _ _ (update_few (record_of table sheet) (board_served table sheet z) _ _)))

pub fresh_short : (table sheet hex : List ℕ) → length (fresh_text table sheet hex) ≤ 147632
unfolding fresh_text
fresh_short table sheet hex =
    either_short most_printed (omega arith) (board_number table sheet) 0 0 _
    (λ z. either_short most_printed (omega arith) (hex_of table sheet hex).number (hex_of table sheet hex).line (hex_of table sheet hex).column _
    (λ y. plan_short _ _ (fresh_few (record_of table sheet) (board_served table sheet z) _)))

pub wanted_short : (table sheet hex : List ℕ) → length (wanted_text table sheet hex) ≤ 46135
unfolding wanted_text
wanted_short table sheet hex =
    either_short most_left (omega arith) (board_number table sheet) 0 0 _
    (λ z. either_short most_left (omega arith) (hex_of table sheet hex).number (hex_of table sheet hex).line (hex_of table sheet hex).column _
    (λ y. left_short _ _ (record_of table sheet) (board_served table sheet z) _))

pub wanted_fresh_short : (table sheet hex : List ℕ) → length (wanted_fresh_text table sheet hex) ≤ 46135
unfolding wanted_fresh_text
wanted_fresh_short table sheet hex =
    either_short most_left (omega arith) (board_number table sheet) 0 0 _
    (λ z. either_short most_left (omega arith) (hex_of table sheet hex).number (hex_of table sheet hex).line (hex_of table sheet hex).column _
    (λ y. left_short _ _ (record_of table sheet) (board_served table sheet z) _))
