-- Laws of the programs newsheet and oldsheet: their text from what the code's parts answer, and how long it is at most.
use Rattle.std.specs.Prelude.{ℕ, ◌≤◌, ◌≡◌, refl, true, ◌&&◌, List, Result, Ok, Err, IfOk, leb, eqb, replicate}
use Rattle.std.proofs.Common.{arith, ◌∙◌, ne_eqb, leb-true}
use Rattle.std.proofs.Math.Path.{sym, ap}
use Rattle.std.proofs.Math.ListN.{length, take}
use Rattle.std.proofs.lemmas.List.{length-replicate}
use Rattle.words.specs.Choice.{unless}
use Rattle.words.specs.LawsChoice.{pick_false, first_holds, second_holds}
use Rattle.words.specs.LawsTests.{by_eq}
use Rattle.table.specs.Table.{name_ok, all_printable}
use Rattle.sheet.specs.Sheet.{body_length}
use Rattle.sheetwrite.specs.Write.{Written, written_told, sheet_length, new_length}
use Rattle.refusal.specs.declared.Refusal.{Refusal}
use Rattle.refusal.specs.Refusal.{number_of, number_in}
use Rattle.moves.specs.declared.sheets.Form.{Form}
use Rattle.moves.specs.declared.sheets.Form.TheVariants.{New, Old}
use Rattle.sheetwrite.specs.LawsWrite.{length_with, length_new_with}
use Rattle.print.specs.Print.{refused_text}
use Rattle.print.specs.LawsLines.{either_short}
use Rattle.board.specs.Open.{most_program, record_of, name_of, find_number, open_number, board_number}
use Rattle.board.specs.LawsOpen.{open_finds, opened_served, opened_named, served_most}
use Rattle.board.specs.LawsBoard.{board_found, record_there, board_unopened, Holds, refusal_text, answer_text}
use Rattle.moves.specs.Move.{move_number, new_of, old_of, moved, moved_text}
use Rattle.moves.specs.Programs.{newsheet_text, oldsheet_text}
use Rattle.moves.specs.LawsWords.{form_of}
use Rattle.moves.specs.LawsMove.{move_found, moved_is, moved_front, moved_long}

-- ---- how long the two texts are

name_short : (name : List ℕ) → name_ok name ≡ true → length name ≤ 16
unfolding name_ok
name_short name e = leb-true (length name) 16 (second_holds (leb 1 (length name)) (leb (length name) 16) (first_holds (leb 1 (length name) && leb (length name) 16) (all_printable name) e))

module _ (table sheet : List ℕ) (z : open_number table sheet ≡ 0) where
  most : (record_of table sheet).words ≤ most_program
  most = served_most (record_of table sheet) (opened_served table sheet z)

  pub new_short : length (new_of table sheet) ≤ 46157
  unfolding new_of new_length body_length
  new_short =
      let few : (record_of table sheet).words ≤ most_program = most in
      let name : length (name_of table sheet) ≤ 16 = name_short (name_of table sheet) (opened_named table sheet z) in
      rw length_new_with (omega arith)

  pub old_short : length (old_of table sheet) ≤ 46135
  unfolding old_of sheet_length body_length
  old_short = let few : (record_of table sheet).words ≤ most_program = most in rw length_with (omega arith)

-- either of them
pub form_short : (form : Form) (table sheet : List ℕ) → open_number table sheet ≡ 0 → length (form_of form table sheet) ≤ 46157
form_short New table sheet z = new_short table sheet z
form_short Old table sheet z = let h : length (old_of table sheet) ≤ 46135 = old_short table sheet z in omega arith

-- ---- a program that prints a moved sheet

-- its text
unfoldable pub prints_moved : (table sheet whole : List ℕ) → List ℕ
prints_moved table sheet whole = unless (eqb (board_number table sheet) 0) (refused_text (board_number table sheet) 0 0) whole

pub newsheet_is : (table sheet : List ℕ) → prints_moved table sheet (form_of New table sheet) ≡ newsheet_text table sheet
unfolding prints_moved newsheet_text
newsheet_is table sheet = refl

pub oldsheet_is : (table sheet : List ℕ) → prints_moved table sheet (form_of Old table sheet) ≡ oldsheet_text table sheet
unfolding prints_moved oldsheet_text
oldsheet_is table sheet = refl

module _ (table sheet whole : List ℕ) where
  pub moved_told : (e : Refusal) → number_of e ≡ board_number table sheet → refused_text (number_of e) 0 0 ≡ prints_moved table sheet whole
  unfolding prints_moved
  moved_told e p = refusal_text (board_number table sheet) whole e p

  pub moved_all : 0 ≡ board_number table sheet → (n : ℕ) (out : List ℕ) → Holds whole n out → take n out ≡ prints_moved table sheet whole
  unfolding prints_moved
  moved_all z n out h = h.whole ∙ answer_text (board_number table sheet) whole _ z

  -- a board that is not opened
  pub moved_unopened : (e : Refusal) → number_of e ≡ open_number table sheet → refused_text (number_of e) 0 0 ≡ prints_moved table sheet whole
  moved_unopened e p = moved_told e (board_unopened table sheet e p)

-- what a move answers of a board that the programs serve, in a buffer that has room
module _ (form : Form) (table sheet : List ℕ) (z : 0 ≡ open_number table sheet) (out : List ℕ) (long : length out ≡ 46157) (r : Result ℕ Refusal)
    (is : written_told r ≡ moved (move_number table sheet) (form_of form table sheet) out) where
  found : find_number table sheet ≡ 0
  found = open_finds table sheet (sym z)

  same : move_number table sheet ≡ board_number table sheet
  same = move_found table sheet found ∙ sym (board_found table sheet (sym z))

  room : length (form_of form table sheet) ≤ length out
  room = rw long (form_short form table sheet (sym z))

  refused_number : (n : ℕ) (whole : List ℕ) → (n ≡ 0 → ⊥) → (moved n whole out).number ≡ n
  unfolding moved
  refused_number n whole h = ap (λ (x : Written). x.number) (pick_false (eqb n 0) _ _ (ne_eqb n 0 h))

  pub served_number : number_in r ≡ board_number table sheet
  served_number = ap (λ x. x.number) is ∙ (by_eq (move_number table sheet) 0
      (λ y. ap (λ x. x.number) (moved_is (move_number table sheet) (form_of form table sheet) out y room) ∙ sym y)
      (λ n. refused_number (move_number table sheet) (form_of form table sheet) n) ∙ same)

  pub served_text : (after : List ℕ) → after ≡ moved_text (move_number table sheet) (form_of form table sheet) out → IfOk r (λ n. Holds (form_of form table sheet) n after)
  served_text after f = by r is served_number
    where
      by : (a : Result ℕ Refusal) → written_told a ≡ moved (move_number table sheet) (form_of form table sheet) out → number_in a ≡ board_number table sheet → IfOk a (λ n. Holds (form_of form table sheet) n after)
      by (Err e) p q = tt
      by (Ok n) p q =
          let zero : move_number table sheet ≡ 0 = same ∙ sym q in
          let count : n ≡ length (form_of form table sheet) = ap (λ x. x.length) (p ∙ moved_is (move_number table sheet) (form_of form table sheet) out zero room) in
          let stays : length after ≡ length out = ap length f ∙ moved_long (move_number table sheet) (form_of form table sheet) out in
          record {
            within = rw (count, stays) room;
            whole = (λ i. take (count i) (f i)) ∙ moved_front (move_number table sheet) (form_of form table sheet) out zero room;
          }

-- and in a local buffer of the longest sheet
module _ (form : Form) (table sheet : List ℕ) (z : 0 ≡ open_number table sheet) where
  abbrev buffer : List ℕ
  buffer = replicate 46157 0

  long : length buffer ≡ 46157
  long = length-replicate {A = ℕ} 46157 0

  pub served_told : (e : Refusal) → written_told (Err e) ≡ moved (move_number table sheet) (form_of form table sheet) buffer
      → refused_text (number_of e) 0 0 ≡ prints_moved table sheet (form_of form table sheet)
  served_told e is = moved_told table sheet (form_of form table sheet) e (served_number form table sheet z buffer long (Err e) is)

  module _ (n : ℕ) (is : written_told (Ok n) ≡ moved (move_number table sheet) (form_of form table sheet) buffer) (after : List ℕ)
      (f : after ≡ moved_text (move_number table sheet) (form_of form table sheet) buffer) where
    pub served_within : n ≤ length after
    served_within = (served_text form table sheet z buffer long (Ok n) is after f).within

    pub served_all : take n after ≡ prints_moved table sheet (form_of form table sheet)
    served_all = moved_all table sheet (form_of form table sheet) (served_number form table sheet z buffer long (Ok n) is) n after (served_text form table sheet z buffer long (Ok n) is after f)

-- ---- their texts are no longer

pub newsheet_short : (table sheet : List ℕ) → length (newsheet_text table sheet) ≤ 46157
unfolding newsheet_text
newsheet_short table sheet = either_short 46157 (omega arith) (board_number table sheet) 0 0 _ (λ z. new_short table sheet (record_there table sheet z))

pub oldsheet_short : (table sheet : List ℕ) → length (oldsheet_text table sheet) ≤ 46135
unfolding oldsheet_text
oldsheet_short table sheet = either_short 46135 (omega arith) (board_number table sheet) 0 0 _ (λ z. old_short table sheet (record_there table sheet z))
