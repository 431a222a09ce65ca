-- What is printed of the words of a reading, a line each, is gathered to its sheet.
use Rattle.std.specs.Prelude.{ℕ, ◌≡◌, true, List}
use Rattle.std.proofs.Math.Path.{ap}
use Rattle.std.proofs.Common.{◌∙◌, eq-eqb}
use Rattle.words.specs.Choice.{pick}
use Rattle.device.specs.Memory.{reading_ok}
use Rattle.sheet.specs.FirstLine.{first_line}
use Rattle.sheet.specs.Sheet.{sheet_with}
use Rattle.board.specs.Open.{record_of, open_number}
use Rattle.gathers.specs.LawsAnswers.{answers_read}
use Rattle.gathers.specs.Gather.{answer_text, gather_number, gather_text}
use Rattle.rehearsed.proofs.LawsTold.{text_is}

module _ (table sheet : List ℕ) (z : open_number table sheet ≡ 0) (l : List ℕ) (ok : reading_ok (record_of table sheet).words l ≡ true) where
  gathers_all : gather_number table sheet (answer_text l) ≡ 0
  unfolding gather_number pick
  gathers_all = rw (eq-eqb (open_number table sheet) 0 z, (answers_read (record_of table sheet).words l ok).0)

  pub answers_gathered : gather_text table sheet (answer_text l) ≡ sheet_with (first_line sheet).id (record_of table sheet) l
  unfolding gather_text
  answers_gathered =
      text_is (gather_number table sheet (answer_text l)) 0 0 _ gathers_all
      ∙ ap (sheet_with (first_line sheet).id (record_of table sheet)) (answers_read (record_of table sheet).words l ok).1
