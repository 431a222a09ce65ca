-- Laws of the limit on program words: a table that is sound up to one limit is sound up to any larger one, and the same is found in it.
use Rattle.std.specs.Prelude.{ℕ, ◌≤◌, ◌≡◌, ◌&&◌, length}
use Rattle.std.proofs.Common.{arith, ◌∙◌}
use Rattle.std.proofs.Math.Path.{refl, sym}
use Rattle.std.proofs.Math.Bool.{Bool, true}
use mathlib.Core.List.{List, [], ◌∷◌}
use Rattle.std.proofs.Math.Dec.{leb}
use Rattle.words.specs.LawsChoice.{pick_true, both, first_holds, second_holds}
use Rattle.numerals.specs.Decimal.{is_decimal}
use Rattle.device.specs.Record.{most_words, device_up_to}
use Rattle.device.specs.LawsRecord.{more_words}
use Rattle.table.specs.Table.{field, name_ok, hex_ok, device_of, count_ok, line_up_to, table_lines, most_lines, ends_in_lf, lines_up_to, ids_once, table_up_to, table_ok, found_up_to, found_in}

module _ (a b : ℕ) (h : a ≤ b) where
  more_line : (line : List ℕ) → line_up_to a line ≡ true → line_up_to b line ≡ true
  unfolding line_up_to
  more_line line e =
      both fields (device_up_to b (device_of line)) (first_holds fields (device_up_to a (device_of line)) e)
      (more_words a b h (device_of line) (second_holds fields (device_up_to a (device_of line)) e))
    where
      fields : Bool
      fields =
          count_ok line && name_ok (field 0 line) && hex_ok (field 1 line) && is_decimal (field 2 line) && is_decimal (field 3 line) && hex_ok (field 4 line) && hex_ok (field 5 line)

  more_lines : (ls : List (List ℕ)) → lines_up_to a ls ≡ true → lines_up_to b ls ≡ true
  unfolding lines_up_to
  more_lines [] e = refl
  more_lines (l ∷ ls) e =
      both (line_up_to b l) (lines_up_to b ls) (more_line l (first_holds (line_up_to a l) (lines_up_to a ls) e))
      (more_lines ls (second_holds (line_up_to a l) (lines_up_to a ls) e))

  more_table : (text : List ℕ) → table_up_to a text ≡ true → table_up_to b text ≡ true
  unfolding table_up_to
  more_table text e =
      let up_to : Bool = form && lines_up_to a (table_lines text) in
      let e2 : up_to ≡ true = first_holds up_to (ids_once (table_lines text)) e in
      both (form && lines_up_to b (table_lines text)) (ids_once (table_lines text))
      (both form (lines_up_to b (table_lines text)) (first_holds form (lines_up_to a (table_lines text)) e2)
      (more_lines (table_lines text) (second_holds form (lines_up_to a (table_lines text)) e2)))
      (second_holds up_to (ids_once (table_lines text)) e)
    where
      form : Bool
      form = ends_in_lf text && leb 1 (length (table_lines text)) && leb (length (table_lines text)) most_lines

  -- a record and the place of its name come from the line alone
  more_found : (text : List ℕ) (id : ℕ) → table_up_to a text ≡ true → found_up_to b text id ≡ found_up_to a text id
  unfolding found_up_to
  more_found text id e = pick_true (table_up_to b text) _ _ (more_table text e) ∙ sym (pick_true (table_up_to a text) _ _ e)

-- a table of devices with at most 8,192 program words is sound, and every ID is found in it as before
pub tables_so_far : (text : List ℕ) → table_up_to 8192 text ≡ true → (table_ok text ≡ true) × ((id : ℕ) → found_in text id ≡ found_up_to 8192 text id)
unfolding table_ok found_in
tables_so_far text e = (more_table 8192 most_words (omega arith) text e, λ id. more_found 8192 most_words (omega arith) text id e)
