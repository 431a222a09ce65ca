-- Laws of the program gather: what the code's parts answer, its text, and how long it is at most.
use Rattle.std.specs.Prelude.{ℕ, ◌+◌, ◌≤◌, ◌<◌, ◌≡◌, refl, Bool, true, false, List, Ok, Err, eqb, length}
use Rattle.std.proofs.Math.Decide.{ℕ_discrete}
use Rattle.std.proofs.Common.{arith, ◌∙◌, eq-eqb, ne_eqb, eqb-true}
use Rattle.std.proofs.Math.Path.{sym, ap}
use Rattle.words.specs.Choice.{pick}
use Rattle.words.specs.LawsChoice.{pick_true, pick_false}
use Rattle.refusal.specs.declared.Refusal.{Refusal}
use Rattle.refusal.specs.Refusal.{number_of}
use Rattle.refusal.specs.LawsRefusal.{number_of_positive}
use Rattle.device.specs.Record.{device_up_to}
use Rattle.device.specs.Memory.{reading_tail, reading_ok}
use Rattle.table.specs.declared.Found.{Found as Place}
use Rattle.table.specs.Table.{table_ok}
use Rattle.sheet.specs.FirstLine.{first_line, id_told}
use Rattle.sheet.specs.LawsFirstLine.{id_small}
use Rattle.sheet.specs.Sheet.{sheet_with}
use Rattle.sheetwrite.specs.LawsWrite.{length_with}
use Rattle.print.specs.Print.{refused_text}
use Rattle.print.specs.LawsLines.{either_short}
use Rattle.board.specs.Open.{most_program, record_of, place_of, open_number}
use Rattle.board.specs.Sheet.{printed_sheet}
use Rattle.board.specs.LawsOpen.{served_most, served_sheet, opened_served}
use Rattle.board.specs.LawsBoard.{most_reading, refusal_text, answer_text}
use Rattle.board.specs.LawsWritten.{printed_whole}
use Rattle.gathers.specs.Gather.{answers_in, answers_ok, gather_number, gathered, gather_text}
use Rattle.gathers.specs.LawsAnswers.{answers_sound}

-- line 1 of a board that is opened is sound
opened_first : (table sheet : List ℕ) → open_number table sheet ≡ 0 → (first_line sheet).number ≡ 0
unfolding open_number
opened_first table sheet z = by (table_ok table) (eqb (first_line sheet).number 0) _ z (eqb-true (first_line sheet).number 0)
  where
    by : (t f : Bool) (n : ℕ) → pick {A = ℕ} t (pick f n 14) 15 ≡ 0 → (f ≡ true → (first_line sheet).number ≡ 0) → (first_line sheet).number ≡ 0
    by true true n q h = h refl
    by true false n q h = absurd (unfold pick in omega (arith, q))
    by false f n q h = absurd (unfold pick in omega (arith, q))

module _ (table sheet answers : List ℕ) where
  -- the number of a board without a record
  unopened : (open_number table sheet ≡ 0 → ⊥) → gather_number table sheet answers ≡ open_number table sheet
  unfolding gather_number
  unopened n = pick_false _ _ _ (ne_eqb (open_number table sheet) 0 n)

  pub gather_unopened : (e : Refusal) → number_of e ≡ open_number table sheet → number_of e ≡ gather_number table sheet answers
  gather_unopened e p = p ∙ sym (unopened (λ z. let n : 0 < number_of e = number_of_positive e in omega (arith, p ∙ z)))

  module _ (z : 0 ≡ open_number table sheet) where
    -- line 1 was read by what opened the record
    pub gather_read_again : (e : Refusal) → id_told (Err e) ≡ first_line sheet → ⊥
    gather_read_again e p = let n : 0 < number_of e = number_of_positive e in omega (arith, ap (λ l. l.number) p ∙ opened_first table sheet (sym z))

    module _ (f : Place) (is : f ≡ place_of table sheet) where
      judged : gather_number table sheet answers ≡ pick (answers_ok f.device.words answers) 0 21
      unfolding gather_number
      judged = pick_true _ _ _ (eq-eqb (open_number table sheet) 0 (sym z)) ∙ ap (λ x. pick (answers_ok x.device.words answers) 0 21) (sym is)

      pub gather_few : f.device.words ≤ most_program
      gather_few = served_most f.device (ap (λ x. device_up_to most_program x.device) is ∙ opened_served table sheet (sym z))

      pub gather_room : f.device.words + reading_tail ≤ most_reading
      gather_room = omega (arith, gather_few)

      pub gather_21 : false ≡ answers_ok f.device.words answers → 21 ≡ gather_number table sheet answers
      gather_21 h = sym (judged ∙ pick_false _ _ _ (sym h))

      pub gather_0 : true ≡ answers_ok f.device.words answers → 0 ≡ gather_number table sheet answers
      gather_0 h = sym (judged ∙ pick_true _ _ _ (sym h))

      pub gather_sound : true ≡ answers_ok f.device.words answers → reading_ok f.device.words (answers_in f.device.words answers) ≡ true
      gather_sound h = answers_sound f.device.words answers (sym h)

      -- what is printed of the words, under line 1's ID
      pub gather_sheet : true ≡ answers_ok f.device.words answers → (id : ℕ) → id_told (Ok id) ≡ first_line sheet → (words : List ℕ) → words ≡ answers_in f.device.words answers
          → printed_sheet f.device id words ≡ gathered table sheet answers
      gather_sheet h id first words e =
          printed_whole f.device id words (ap (λ x. device_up_to most_program x.device) is ∙ opened_served table sheet (sym z)) (ap (reading_ok f.device.words) e ∙ gather_sound h)
          (rw (ap (λ l. l.id) first) (id_small sheet))
          ∙ (λ i. sheet_with (first i).id (is i).device ((e ∙ ap (λ x. answers_in x.device.words answers) is) i))

  pub gather_refused : (e : Refusal) → number_of e ≡ gather_number table sheet answers → refused_text (number_of e) 0 0 ≡ gather_text table sheet answers
  unfolding gather_text
  gather_refused e p = refusal_text (gather_number table sheet answers) _ e p

  pub gather_found : 0 ≡ gather_number table sheet answers → gathered table sheet answers ≡ gather_text table sheet answers
  unfolding gather_text
  gather_found z = answer_text (gather_number table sheet answers) _ (refused_text (gather_number table sheet answers) 0 0) z

  -- a record stands where nothing is refused
  record_there : gather_number table sheet answers ≡ 0 → open_number table sheet ≡ 0
  record_there z = by (ℕ_discrete (open_number table sheet) 0)
    where
      by : Dec (open_number table sheet ≡ 0) → open_number table sheet ≡ 0
      by (yes e) = e
      by (no n) = sym (unopened n) ∙ z

  -- no text of the program is longer than the longest sheet
  pub gather_short : length (gather_text table sheet answers) ≤ 46135
  unfolding gather_text
  gather_short =
      either_short 46135 (omega arith) (gather_number table sheet answers) 0 0 _
      (λ z. rw (length_with (first_line sheet).id (record_of table sheet) (answers_in (record_of table sheet).words answers))
      (served_sheet (record_of table sheet) (opened_served table sheet (record_there z))))
