-- Laws of the words that a move reads, and of what it writes of them.
use Rattle.std.specs.Prelude.{ℕ, ◌+◌, ◌≤◌, ◌<◌, ◌≡◌, true, ◌&&◌, List, ◌++◌, Ok, Err, leb, eqb, take, drop}
use Rattle.std.proofs.Common.{arith, ◌∙◌, length-take-le}
use Rattle.std.proofs.Math.Path.{sym, ap}
use Rattle.std.proofs.Math.ListN.{length}
use Rattle.std.proofs.Math.Seq.{sets}
use Rattle.words.specs.Choice.{pick}
use Rattle.words.specs.LawsChoice.{pick_true, both}
use Rattle.refusal.specs.declared.Refusal.{Refusal}
use Rattle.refusal.specs.Refusal.{number_of}
use Rattle.refusal.specs.LawsRefusal.{number_of_positive}
use Rattle.device.specs.declared.Device.{Device}
use Rattle.device.specs.Record.{most_words, device_up_to, device_ok}
use Rattle.device.specs.Memory.{reading_tail, reading_ok}
use Rattle.device.specs.LawsRecord.{rules_lem}
use Rattle.device.specs.LawsId.{with_id, with_id_lem}
use Rattle.table.specs.declared.Found.{Found as Place}
use Rattle.table.specs.Table.{name_ok}
use Rattle.judge.specs.Checksum.{checksum_of}
use Rattle.sheet.specs.FirstLine.{first_line, id_told}
use Rattle.sheet.specs.Sheet.{sheet_with, new_with, words_in, sheet_number, read_number, read_buffer}
use Rattle.sheet.specs.LawsFirstLine.{id_small}
use Rattle.sheet.specs.LawsRead.{longest_reading}
use Rattle.sheetwrite.specs.Write.{Written, written_told, sheet_text, sheet_length, written, written_text, new_text, new_length, new_written, new_written_text}
use Rattle.sheetwrite.specs.LawsWrite.{with_text, with_new, length_sheet, length_new_sheet}
use Rattle.board.specs.Open.{name_of, place_of, find_number, board_reading}
use Rattle.board.specs.LawsOpen.{name_is}
use Rattle.board.specs.LawsFront.{front_number, front_stored, front_words, front_room}
use Rattle.moves.specs.declared.sheets.Form.{Form}
use Rattle.moves.specs.declared.sheets.Form.TheVariants.{New, Old}
use Rattle.moves.specs.Move.{move_number, new_of, old_of, moved}
use Rattle.moves.specs.LawsMove.{move_refused, move_found, Finds, finds, move_words, Moved, moved_refused, moved_written}

-- the sheet in a form
abbrev pub form_of : Form → (table text : List ℕ) → List ℕ
form_of New = new_of
form_of Old = old_of

-- ---- reading

-- a record that is not found, or a sheet that is refused under it, refuses the move
module _ (table text whole out : List ℕ) (e : Refusal) where
  pub move_told : number_of e ≡ move_number table text → Moved (move_number table text) whole out (written_told (Err e)) out
  move_told p = moved_refused (move_number table text) whole out (number_of e) p (λ z. let n : 0 < number_of e = number_of_positive e in omega arith)

  pub move_unfound : number_of e ≡ find_number table text → Moved (move_number table text) whole out (written_told (Err e)) out
  move_unfound p = move_told (p ∙ sym (move_refused table text (λ z. let n : 0 < number_of e = number_of_positive e in omega (arith, p ∙ z))))

  -- and what it answers
  pub told_unfound : number_of e ≡ find_number table text → written_told (Err e) ≡ moved (move_number table text) whole out
  told_unfound p = (move_unfound p).0

  pub told_unread : number_of e ≡ move_number table text → written_told (Err e) ≡ moved (move_number table text) whole out
  told_unread p = (move_told p).0

  -- line 1 was read by what found the record
  pub move_read_again : 0 ≡ find_number table text → id_told (Err e) ≡ first_line text → ⊥
  move_read_again z p = let n : 0 < number_of e = number_of_positive e in omega (arith, ap (λ x. x.number) p ∙ (finds table text (sym z)).first)

-- the record that was found, and its name as it is cut out of the table
module _ (table text : List ℕ) (z : 0 ≡ find_number table text) (f : Place) (is : f ≡ place_of table text) (name : List ℕ) (cut : name ≡ take f.name_len (drop f.name_at table)) where
  abbrev d : Device
  d = f.device

  abbrev count : ℕ
  count = f.device.words + reading_tail

  fine : Finds table text
  fine = finds table text (sym z)

  keeps : device_ok d ≡ true
  keeps = ap (λ x. device_ok x.device) is ∙ fine.sound

  name_too : name ≡ name_of table text
  name_too = cut ∙ name_is table text f is

  named : name_ok name ≡ true
  named = ap name_ok name_too ∙ fine.named

  pub few_words : count ≤ longest_reading
  few_words = let most : d.words ≤ most_words = (rules_lem d keeps).most in omega arith

  -- the sheet is read into the first words of a buffer that has room for every reading
  module _ (before : List ℕ) (long : length before ≡ longest_reading) where
    read_room : count ≤ length before
    read_room = rw long few_words

    module _ (n : ℕ) (e : n ≡ read_number d name text (take count before)) where
      pub read_is : n ≡ move_number table text
      read_is =
          front_number d keeps name named text before read_room n e
          ∙ ((λ i. sheet_number (is i).device (name_too i) text) ∙ sym (move_found table text (sym z)))

      module _ (y : n ≡ 0) (words : List ℕ) (w : words ≡ read_buffer d name text (take count before) ++ drop count before) where
        ok : move_number table text ≡ 0
        ok = sym read_is ∙ y

        stored : words ≡ sets before 0 (words_in d.words text)
        stored = front_stored d keeps name named text before read_room n e words w y

        read : sheet_number d name text ≡ 0
        read = sym (front_number d keeps name named text before read_room n e) ∙ y

        pub words_within : count ≤ length words
        words_within = rw stored (front_room d keeps name named text before read_room read)

        pub words_long : length (take count words) ≡ count
        words_long = length-take-le count words words_within

        words_are : take count words ≡ board_reading table text
        unfolding board_reading
        words_are = ap (take count) stored ∙ (front_words d keeps name named text before read_room read ∙ ap (λ x. words_in x.device.words text) is)

        reading_ok_lem : reading_ok d.words (take count words) ≡ true
        reading_ok_lem = (λ i. reading_ok (is i).device.words (words_are i)) ∙ move_words table text ok

        -- under the record with line 1's ID
        module _ (id : ℕ) (first : id_told (Ok id) ≡ first_line text) (out : List ℕ) where
          abbrev given : Device
          given = record d { id = id }

          g : given ≡ with_id d (first_line text).id
          g = ap (λ x. record d { id = x.id }) first

          own : device_ok given ≡ true
          unfolding device_ok
          own = ap (device_up_to most_words) g ∙ with_id_lem d (first_line text).id most_words keeps (id_small text)

          reads : reading_ok given.words (take count words) ≡ true
          reads = reading_ok_lem

          old_text : sheet_text given (take count words) ≡ old_of table text
          unfolding old_of
          old_text =
              ap (λ x. sheet_text x (take count words)) g
              ∙ (with_text d (first_line text).id (take count words) ∙ (λ i. sheet_with (first_line text).id (is i).device (words_are i)))

          pub old_moved : (w : Written) → w ≡ written given (take count words) out
              → (after : List ℕ) → after ≡ written_text given (take count words) out → Moved (move_number table text) (old_of table text) out w after
          old_moved w p after q = moved_written (move_number table text) (old_of table text) out ok w (p ∙ answer) after (q ∙ whole)
            where
              far : sheet_length given ≡ length (old_of table text)
              far = sym (length_sheet given (take count words)) ∙ ap length old_text

              answer : written given (take count words) out ≡ pick (leb (length (old_of table text)) (length out)) (record { number = 0; length = length (old_of table text) }) (record { number = 26; length = 0 })
              answer = unfold written in pick_true _ _ _ own ∙ (pick_true _ _ _ reads ∙ ap (λ n. pick (leb n (length out)) (record { number = 0; length = n }) (record { number = 26; length = 0 })) far)

              whole : written_text given (take count words) out ≡ pick (eqb w.number 0) (sets out 0 (old_of table text)) out
              whole = unfold written_text in λ i. pick (eqb (sym p i).number 0) (sets out 0 (old_text i)) out

          new_text_lem : new_text given name (take count words) ≡ new_of table text
          unfolding new_of
          new_text_lem =
              ap (λ x. new_text x name (take count words)) g
              ∙ (with_new d (first_line text).id name (take count words)
              ∙ (λ i. new_with (first_line text).id (name_too i) (checksum_of (is i).device (words_are i)) (is i).device (words_are i)))

          pub new_moved : (w : Written) → w ≡ new_written given name (take count words) out
              → (after : List ℕ) → after ≡ new_written_text given name (take count words) out → Moved (move_number table text) (new_of table text) out w after
          new_moved w p after q = moved_written (move_number table text) (new_of table text) out ok w (p ∙ answer) after (q ∙ whole)
            where
              far : new_length given name ≡ length (new_of table text)
              far = sym (length_new_sheet given name (take count words)) ∙ ap length new_text_lem

              sound : (device_ok given && name_ok name) ≡ true
              sound = both (device_ok given) (name_ok name) own named

              answer : new_written given name (take count words) out ≡ pick (leb (length (new_of table text)) (length out)) (record { number = 0; length = length (new_of table text) }) (record { number = 26; length = 0 })
              answer = unfold new_written in pick_true _ _ _ sound ∙ (pick_true _ _ _ reads ∙ ap (λ n. pick (leb n (length out)) (record { number = 0; length = n }) (record { number = 26; length = 0 })) far)

              whole : new_written_text given name (take count words) out ≡ pick (eqb w.number 0) (sets out 0 (new_of table text)) out
              whole = unfold new_written_text in λ i. pick (eqb (sym p i).number 0) (sets out 0 (new_text_lem i)) out
