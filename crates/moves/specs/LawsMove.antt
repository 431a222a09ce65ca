-- Laws of the moves: what a caller has of a sheet that is not refused, that each form moved to the other and back is the same bytes, and the answers.
use Rattle.std.specs.Prelude.{ℕ, ◌≤◌, Bool, List, Result, take}
use Rattle.std.proofs.Math.Nat.{zero-add}
use native.Mathlib.Omega.{arith}
use Rattle.std.proofs.Math.Path.{◌≡◌, refl, sym, ap}
use Rattle.std.proofs.Common.{subst, ◌∙◌, inl, inr}
use Rattle.std.proofs.Math.Bool.{true, false}
use Rattle.std.proofs.Math.Dec.{leb, eqb}
use Rattle.std.proofs.Math.ListN.{length}
use Rattle.std.proofs.Math.Seq.{sets, length-sets, sets-eq, take_at}
use borrow.Author.Tests.{eq-eqb, eqb-true, ne_eqb, le-leb, leb-true}
use Rattle.words.specs.Choice.{pick}
use Rattle.words.specs.LawsChoice.{pick_true, pick_false, true_not_false}
use Rattle.words.specs.LawsTests.{by_eq}
use Rattle.device.specs.declared.Device.{Device}
use Rattle.device.specs.Record.{device_ok, fits}
use Rattle.device.specs.Memory.{reading_ok}
use Rattle.table.specs.Table.{name_ok, table_ok, table_lines, has_id, found_in, name_at}
use Rattle.table.specs.LawsTable.{found_sound}
use Rattle.table.specs.LawsName.{found_name}
use Rattle.judge.specs.Checksum.{checksum_of}
use Rattle.sheet.specs.FirstLine.{id_in, is_new, line_ok, first_line}
use Rattle.sheet.specs.Sheet.{sheet_with, new_with, words_in, sheet_ok, sheet_number}
use Rattle.sheet.specs.LawsFirstLine.{first_given, id_stands}
use Rattle.sheet.specs.LawsSheet.{ReadOld, ReadNew, written_read, new_written_read, read_line_1, read_fits, read_sound, read_written, taken_written, taken, new_exactly, sum_small}
use Rattle.refusal.specs.declared.Refusal.{Refusal}
use Rattle.refusal.specs.LawsRefusal.{answer_unique}
use Rattle.sheetwrite.specs.Write.{Written, written_told}
use Rattle.board.specs.Open.{record_of, name_of, find_number, board_reading}
use Rattle.moves.specs.Move.{move_number, new_of, old_of, moved, moved_text}

-- ---- the table, line 1 and the search

module _ (table text : List ℕ) where
  -- the number of a move begins with what finds the record
  pub move_refused : (find_number table text ≡ 0 → ⊥) → move_number table text ≡ find_number table text
  unfolding move_number find_number
  move_refused = by (table_ok table) (eqb (first_line text).number 0) (has_id (first_line text).id (table_lines table))
    where
      by : (t f h : Bool) → (pick {A = ℕ} t (pick f (pick h 0 16) 14) 15 ≡ 0 → ⊥) → pick t (pick f (pick h (sheet_number (record_of table text) (name_of table text) text) 16) 14) 15 ≡ pick t (pick f (pick h 0 16) 14) 15
      by true true true n = absurd (n (unfold pick in refl))
      by true true false n = unfold pick in refl
      by true false h n = unfold pick in refl
      by false f h n = unfold pick in refl

  pub move_found : find_number table text ≡ 0 → move_number table text ≡ sheet_number (record_of table text) (name_of table text) text
  unfolding move_number find_number
  move_found = by (table_ok table) (eqb (first_line text).number 0) (has_id (first_line text).id (table_lines table))
    where
      by : (t f h : Bool) → pick {A = ℕ} t (pick f (pick h 0 16) 14) 15 ≡ 0
          → pick t (pick f (pick h (sheet_number (record_of table text) (name_of table text) text) 16) 14) 15 ≡ sheet_number (record_of table text) (name_of table text) text
      by true true true q = unfold pick in refl
      by true true false q = absurd (unfold pick in omega (arith, q))
      by true false h q = absurd (unfold pick in omega (arith, q))
      by false f h q = absurd (unfold pick in omega (arith, q))

  -- a sheet that is not refused was found
  pub move_there : move_number table text ≡ 0 → find_number table text ≡ 0
  move_there z = by_eq (find_number table text) 0 (λ e. e) (λ n. sym (move_refused n) ∙ z)

-- what was found: table and line 1 are sound, and so are the record and the name that they give
pub record Finds (table text : List ℕ) : Type 0 where
  pub table_ok_lem : table_ok table ≡ true
  pub first : (first_line text).number ≡ 0
  pub has : has_id (first_line text).id (table_lines table) ≡ true
  pub sound : device_ok (record_of table text) ≡ true
  pub named : name_ok (name_of table text) ≡ true

pub finds : (table text : List ℕ) → find_number table text ≡ 0 → Finds table text
unfolding find_number record_of name_of
finds table text z = by (table_ok table) (eqb (first_line text).number 0) (has_id (first_line text).id (table_lines table)) refl refl refl z
  where
    by : (t f h : Bool) → table_ok table ≡ t → eqb (first_line text).number 0 ≡ f → has_id (first_line text).id (table_lines table) ≡ h
        → pick {A = ℕ} t (pick f (pick h 0 16) 14) 15 ≡ 0 → Finds table text
    by true true true t f h q = record {
      table_ok_lem = t;
      first = eqb-true (first_line text).number 0 f;
      has = h;
      sound = found_sound table (first_line text).id t h;
      named = found_name table (first_line text).id t h;
    }
    by true true false t f h q = absurd (unfold pick in omega (arith, q))
    by true false h t f k q = absurd (unfold pick in omega (arith, q))
    by false f h t k l q = absurd (unfold pick in omega (arith, q))

-- ---- a sheet that is not refused

module _ (table text : List ℕ) (z : move_number table text ≡ 0) where
  f : Finds table text
  f = finds table text (move_there table text z)

  abbrev d : Device
  d = record_of table text

  abbrev name : List ℕ
  name = name_of table text

  abbrev words : List ℕ
  words = board_reading table text

  number : sheet_number d name text ≡ 0
  number = sym (move_found table text (move_there table text z)) ∙ z

  pub move_ok : sheet_ok d text ≡ true
  move_ok = (taken d name text number).ok

  pub move_words : reading_ok d.words words ≡ true
  unfolding board_reading
  move_words = read_sound d text move_ok

  id_is : (first_line text).id ≡ id_in text
  id_is = id_stands text f.first

  pub move_fits : fits d (first_line text).id ≡ true
  move_fits = ap (fits d) id_is ∙ read_fits d text move_ok

  -- a sheet in the form that it is moved to comes out the same
  pub new_same : is_new text ≡ true → new_of table text ≡ text
  unfolding new_of board_reading
  new_same y = ap (λ n. new_with n name (checksum_of d (words_in d.words text)) d (words_in d.words text)) id_is ∙ taken_written d name text number y

  pub old_same : is_new text ≡ false → old_of table text ≡ text
  unfolding old_of board_reading
  old_same o = ap (λ n. sheet_with n d (words_in d.words text)) id_is ∙ read_written d text move_ok o

  -- another text whose line 1 has the same ID, and which is a sheet under the same record and name
  module _ (other : List ℕ) (line : line_ok other ≡ true) (id : id_in other ≡ (first_line text).id) where
    first_is : first_line other ≡ record { number = 0; id = (first_line text).id }
    first_is = sym (first_given other line (first_line text).id (sym id))

    same_id : (first_line other).id ≡ (first_line text).id
    same_id = ap (λ x. x.id) first_is

    pub same_record : record_of table other ≡ d
    unfolding record_of
    same_record = ap (λ n. (found_in table n).device) same_id

    pub same_name : name_of table other ≡ name
    unfolding name_of
    same_name = ap (λ n. name_at table (found_in table n)) same_id

    same_number : sheet_number d name other ≡ 0 → move_number table other ≡ 0
    unfolding move_number pick
    same_number n =
        let there : eqb (first_line other).number 0 ≡ true = eq-eqb (first_line other).number 0 (ap (λ x. x.number) first_is) in
        let again : has_id (first_line other).id (table_lines table) ≡ true = ap (λ i. has_id i (table_lines table)) same_id ∙ f.has in
        let zero : sheet_number (record_of table other) (name_of table other) other ≡ 0 = (λ i. sheet_number (same_record i) (same_name i) other) ∙ n in
        rw (f.table_ok_lem, there, again) zero

  -- what a moved sheet is: not refused, with the same words, and the same again in either form
  pub record Back (other : List ℕ) : Type 0 where
    pub not_refused : move_number table other ≡ 0
    pub words_stay : board_reading table other ≡ board_reading table text
    pub new_again : new_of table other ≡ new_of table text
    pub old_again : old_of table other ≡ old_of table text

  module _ (other : List ℕ) (first_too : (first_line other).id ≡ (first_line text).id) (device_too : record_of table other ≡ d) (name_too : name_of table other ≡ name) where
    words_of_lem : words_in d.words other ≡ words → board_reading table other ≡ words
    unfolding board_reading
    words_of_lem same = ap (λ x. words_in x.words other) device_too ∙ same

    module _ (words_too : board_reading table other ≡ words) where
      new_of_lem : new_of table other ≡ new_of table text
      unfolding new_of
      new_of_lem = λ i. new_with (first_too i) (name_too i) (checksum_of (device_too i) (words_too i)) (device_too i) (words_too i)

      old_of_lem : old_of table other ≡ old_of table text
      unfolding old_of
      old_of_lem = λ i. sheet_with (first_too i) (device_too i) (words_too i)

  back_of : (other : List ℕ) → line_ok other ≡ true → id_in other ≡ (first_line text).id → words_in d.words other ≡ words → sheet_number d name other ≡ 0 → Back other
  back_of other line id same n =
      let first_too : (first_line other).id ≡ (first_line text).id = same_id other line id in
      let device_too : record_of table other ≡ d = same_record other line id in
      let name_too : name_of table other ≡ name = same_name other line id in
      let words_too : board_reading table other ≡ words = words_of_lem other first_too device_too name_too same in
      record {
        not_refused = same_number other line id n;
        words_stay = words_too;
        new_again = new_of_lem other first_too device_too name_too words_too;
        old_again = old_of_lem other first_too device_too name_too words_too;
      }

  new_read : ReadNew (first_line text).id name (checksum_of d words) d words (new_of table text)
  unfolding new_of
  new_read = new_written_read d f.sound (first_line text).id move_fits words move_words name f.named (checksum_of d words) (sum_small d words)

  new_taken : sheet_number d name (new_of table text) ≡ 0
  unfolding new_of
  new_taken = (new_exactly d f.sound name f.named (new_of table text)).1 (inr ((first_line text).id, move_fits, words, move_words, checksum_of d words, sum_small d words, refl, refl))

  old_read : ReadOld (first_line text).id d words (old_of table text)
  unfolding old_of
  old_read = written_read d f.sound (first_line text).id move_fits words move_words

  old_taken : sheet_number d name (old_of table text) ≡ 0
  unfolding old_of
  old_taken = (new_exactly d f.sound name f.named (old_of table text)).1 (inl ((first_line text).id, move_fits, words, move_words, refl))

  pub new_back : Back (new_of table text)
  new_back = back_of (new_of table text) (read_line_1 d (new_of table text) new_read.ok) new_read.id_is new_read.words_are new_taken

  pub old_back : Back (old_of table text)
  old_back = back_of (old_of table text) (read_line_1 d (old_of table text) old_read.ok) old_read.id_is old_read.words_are old_taken

-- ---- the answers

-- two answers that are told alike are equal
pub moved_unique : (a b : Result ℕ Refusal) → written_told a ≡ written_told b → a ≡ b
moved_unique a b e = answer_unique 0 a b (ap (λ x. x.number) e) (ap (λ x. x.length) e)

-- what a call leaves: its answer and the text
abbrev pub Moved : (number : ℕ) (whole out : List ℕ) → Written → List ℕ → Type 0
Moved number whole out r after = (r ≡ moved number whole out) × (after ≡ moved_text number whole out)

module _ (number : ℕ) (whole out : List ℕ) where
  pub moved_refused : (n : ℕ) → n ≡ number → (n ≡ 0 → ⊥) → Moved number whole out (record { number = n; length = 0 }) out
  unfolding moved moved_text
  moved_refused n e h =
      let f : eqb number 0 ≡ false = ne_eqb number 0 (λ z. h (e ∙ z)) in
      let is : moved number whole out ≡ record { number = number; length = 0 } = pick_false (eqb number 0) _ _ f in (
        (λ i. record { number = e i; length = 0 }) ∙ sym is,
        sym (pick_false _ _ _ (ap (λ w. eqb w.number 0) is ∙ f)),
      )

  -- a writer that has its record, name and reading answers 26 or the whole text
  pub moved_written : number ≡ 0 → (w : Written) → w ≡ pick (leb (length whole) (length out)) (record { number = 0; length = length whole }) (record { number = 26; length = 0 })
      → (after : List ℕ) → after ≡ pick (eqb w.number 0) (sets out 0 whole) out → Moved number whole out w after
  unfolding moved moved_text
  moved_written z w e after g =
      let is : w ≡ moved number whole out = e ∙ sym (pick_true (eqb number 0) _ _ (eq-eqb number 0 z)) in
      (is, g ∙ ap (λ x. pick (eqb x.number 0) (sets out 0 whole) out) is)

  -- no more is written than there is room for
  pub moved_short : (w : Written) → w ≡ moved number whole out → w.length ≤ length out
  unfolding moved
  moved_short w e = rw e (by (eqb number 0) (leb (length whole) (length out)) (leb-true (length whole) (length out)))
    where
      by : (a b : Bool) → (b ≡ true → length whole ≤ length out)
          → (pick {A = Written} a (pick b (record { number = 0; length = length whole }) (record { number = 26; length = 0 })) (record { number = number; length = 0 })).length ≤ length out
      by true true r = unfold pick in r refl
      by true false r = unfold pick in omega arith
      by false b r = unfold pick in omega arith

  -- with room, the call answers the whole text, and it stands at the start of the buffer
  module _ (z : number ≡ 0) (room : length whole ≤ length out) where
    pub moved_is : moved number whole out ≡ record { number = 0; length = length whole }
    unfolding moved
    moved_is = pick_true (eqb number 0) _ _ (eq-eqb number 0 z) ∙ pick_true _ _ _ (le-leb (length whole) (length out) room)

    pub moved_front : take (length whole) (moved_text number whole out) ≡ whole
    unfolding moved_text
    moved_front =
        let stored : pick (eqb (moved number whole out).number 0) (sets out 0 whole) out ≡ sets out 0 whole = pick_true _ _ _ (eq-eqb _ 0 (ap (λ w. w.number) moved_is)) in
        ap (take (length whole)) (stored ∙ sets-eq whole out 0 (rw zero-add room)) ∙ take_at whole _ (length whole) refl

-- the buffer stays as long as it is
pub moved_long : (number : ℕ) (whole out : List ℕ) → length (moved_text number whole out) ≡ length out
unfolding moved_text
moved_long number whole out = by (eqb (moved number whole out).number 0)
  where
    by : (b : Bool) → length (pick b (sets out 0 whole) out) ≡ length out
    by true = unfold pick in length-sets out 0 whole
    by false = unfold pick in refl

-- a call that is not refused had room
module _ (number : ℕ) (whole out : List ℕ) (z : (moved number whole out).number ≡ 0) where
  pub moved_sound : (number ≡ 0) × (length whole ≤ length out)
  moved_sound = by (eqb number 0) (leb (length whole) (length out)) refl refl (unfold moved in z)
    where
      by : (a b : Bool) → eqb number 0 ≡ a → leb (length whole) (length out) ≡ b
          → (pick {A = Written} a (pick b (record { number = 0; length = length whole }) (record { number = 26; length = 0 })) (record { number = number; length = 0 })).number ≡ 0
          → (number ≡ 0) × (length whole ≤ length out)
      by true true p q y = (eqb-true number 0 p, leb-true (length whole) (length out) q)
      by true false p q y = absurd (unfold pick in omega (arith, y))
      by false b p q y = absurd (true_not_false (eq-eqb number 0 (unfold pick in y)) p)

-- ---- there and back, from the calls' answers

-- what a call wrote, if it did not refuse
abbrev pub wrote : (number : ℕ) (whole out : List ℕ) → List ℕ
wrote number whole out = take (moved number whole out).length (moved_text number whole out)

wrote_whole : (number : ℕ) (whole out : List ℕ) → (moved number whole out).number ≡ 0 → wrote number whole out ≡ whole
wrote_whole number whole out z =
    let s : (number ≡ 0) × (length whole ≤ length out) = moved_sound number whole out z in
    ap (λ w. take w.length (moved_text number whole out)) (moved_is number whole out s.0 s.1) ∙ moved_front number whole out s.0 s.1

module _ (table text out : List ℕ) where
  -- an old sheet that to_new does not refuse: what it wrote is not refused by to_old, which with room writes the same bytes again; the words are the same
  pub old_new_old : is_new text ≡ false → (moved (move_number table text) (new_of table text) out).number ≡ 0
      → (new : List ℕ) → new ≡ wrote (move_number table text) (new_of table text) out → (back : List ℕ) → length text ≤ length back
      → (moved (move_number table new) (old_of table new) back ≡ record { number = 0; length = length text })
      × (take (length text) (moved_text (move_number table new) (old_of table new) back) ≡ text)
      × (board_reading table new ≡ board_reading table text)
  old_new_old o z new e back room =
      let s : (move_number table text ≡ 0) × (length (new_of table text) ≤ length out) = moved_sound (move_number table text) (new_of table text) out z in
      let is : new ≡ new_of table text = e ∙ wrote_whole (move_number table text) (new_of table text) out z in
      let b : Back table text s.0 new = subst (λ x. Back table text s.0 x) (sym is) (new_back table text s.0) in
      let same : old_of table new ≡ text = b.old_again ∙ old_same table text s.0 o in
      let fits_in : length (old_of table new) ≤ length back = rw same room in (
        moved_is (move_number table new) (old_of table new) back b.not_refused fits_in ∙ (λ i. record { number = 0; length = length (same i) }),
        ap (λ l. take (length l) (moved_text (move_number table new) (old_of table new) back)) (sym same) ∙ (moved_front (move_number table new) (old_of table new) back b.not_refused fits_in ∙ same),
        b.words_stay,
      )

  -- and a new sheet that to_old does not refuse, likewise
  pub new_old_new : is_new text ≡ true → (moved (move_number table text) (old_of table text) out).number ≡ 0
      → (old : List ℕ) → old ≡ wrote (move_number table text) (old_of table text) out → (back : List ℕ) → length text ≤ length back
      → (moved (move_number table old) (new_of table old) back ≡ record { number = 0; length = length text })
      × (take (length text) (moved_text (move_number table old) (new_of table old) back) ≡ text)
      × (board_reading table old ≡ board_reading table text)
  new_old_new y z old e back room =
      let s : (move_number table text ≡ 0) × (length (old_of table text) ≤ length out) = moved_sound (move_number table text) (old_of table text) out z in
      let is : old ≡ old_of table text = e ∙ wrote_whole (move_number table text) (old_of table text) out z in
      let b : Back table text s.0 old = subst (λ x. Back table text s.0 x) (sym is) (old_back table text s.0) in
      let same : new_of table old ≡ text = b.new_again ∙ new_same table text s.0 y in
      let fits_in : length (new_of table old) ≤ length back = rw same room in (
        moved_is (move_number table old) (new_of table old) back b.not_refused fits_in ∙ (λ i. record { number = 0; length = length (same i) }),
        ap (λ l. take (length l) (moved_text (move_number table old) (new_of table old) back)) (sym same) ∙ (moved_front (move_number table old) (new_of table old) back b.not_refused fits_in ∙ same),
        b.words_stay,
      )
