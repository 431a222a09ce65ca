-- Laws of the device table: its test line by line, and the search for an ID.
use Prim.Native.Nat.{ℕ, suc, ◌+◌, ◌-◌, ◌≤◌, ◌<◌}
use Rattle.std.proofs.Common.{zero-add, ◌∙◌, drop_of_length-le}
use Rattle.std.proofs.Math.Nat.{add-zero}
use native.Mathlib.Omega.{arith}
use Rattle.std.specs.Prelude.{◌≡◌, Result, Ok, Err, Bool, ◌&&◌, ◌||◌, drop}
use Rattle.std.proofs.Math.Path.{refl, sym, ap}
use Rattle.std.proofs.Math.Bool.{true, false}
use mathlib.Core.List.{List, [], ◌∷◌}
use Rattle.std.proofs.Math.Dec.{leb, eqb}
use Rattle.std.proofs.Math.ListN.{length, take, length-drop}
use borrow.Author.Tests.{ne_eqb, le-leb, lt-leb}
use Rattle.marks.specs.Marks.{index_of, slice}
use Rattle.words.specs.Choice.{pick, unless}
use Rattle.words.specs.LawsChoice.{pick_true, pick_false, first_holds, second_holds, first_fails, second_fails, true_not_false}
use Rattle.refusal.specs.Refusal.{number_of}
use Rattle.refusal.specs.declared.Refusal.{Refusal}
use Rattle.refusal.specs.LawsRefusal.{number_of_positive, number_of_unique}
use Rattle.device.specs.declared.Device.{Device}
use Rattle.table.specs.declared.Found.{Found as Place}
use Rattle.numerals.specs.Text.{lf, split}
use Rattle.numerals.specs.Decimal.{is_decimal}
use Rattle.device.specs.Record.{most_words, device_ok, fits}
use Rattle.numerals.specs.LawsText.{part, part_found, part_last, some_piece}
use Rattle.table.specs.LawsPieces.{Parted, parted_length}
use Rattle.table.specs.LawsLine.{LineRead}
use Rattle.table.specs.Table.{but_last, last_of, field, name_ok, hex_ok, device_of, count_ok, line_up_to, table_lines, most_lines, ends_in_lf, lines_up_to, clash, clashes, ids_once, table_up_to, table_ok, table_number, has_id, line_with, start_of, refused, given, found_up_to, found_in, found_told}

-- ---- all pieces but the last, and the last

module _ (mark : ℕ) (p : List ℕ) (l : List ℕ) where
  pub but_last_more : but_last (p ∷ split mark l) ≡ p ∷ but_last (split mark l)
  but_last_more = some_piece mark l (λ ps. but_last (p ∷ ps) ≡ p ∷ but_last ps) (λ q qs. unfold but_last in refl)

  pub last_more : last_of (p ∷ split mark l) ≡ last_of (split mark l)
  last_more = some_piece mark l (λ ps. last_of (p ∷ ps) ≡ last_of ps) (λ q qs. unfold last_of in refl)

-- ---- the first line of what is left of a text

-- r is where a search for LF from `from` on ended
module _ (text : List ℕ) (from r : ℕ) (e : r ≡ from + index_of lf (slice from (length text) text)) (within : from ≤ length text) where
  pub lines_more : r < length text → table_lines (drop from text) ≡ take (r - from) (drop from text) ∷ table_lines (drop (r + 1) text)
  unfolding table_lines
  lines_more h =
      ap but_last (part_found lf text from r e within h) ∙ (but_last_more lf (part from r text) (drop (r + 1) text) ∙ (unfold part in refl))

  pub ends_more : r < length text → ends_in_lf (drop from text) ≡ ends_in_lf (drop (r + 1) text)
  unfolding ends_in_lf
  ends_more h =
      ap (λ s. eqb (length (last_of s)) 0) (part_found lf text from r e within h)
      ∙ ap (λ s. eqb (length s) 0) (last_more lf (part from r text) (drop (r + 1) text))

  pub lines_none : length text ≤ r → table_lines (drop from text) ≡ []
  unfolding table_lines
  lines_none h = rw (part_last lf text from r e within h) (unfold but_last in refl)

  -- what is left has characters and no LF
  pub ends_not : length text ≤ r → from < length text → ends_in_lf (drop from text) ≡ false
  unfolding ends_in_lf
  ends_not h p =
      rw (part_last lf text from r e within h)
      (unfold last_of in ne_eqb (length (drop from text)) 0 (λ q. let n : length text - from ≡ 0 = rw length-drop at q in omega arith))

pub lines_end : (text : List ℕ) (from : ℕ) → length text ≤ from → table_lines (drop from text) ≡ []
unfolding table_lines split but_last
lines_end text from h = rw (drop_of_length-le text h)

pub ends_end : (text : List ℕ) (from : ℕ) → length text ≤ from → ends_in_lf (drop from text) ≡ true
unfolding ends_in_lf split last_of
ends_end text from h = rw (drop_of_length-le text h)

-- ---- the table's test, when n lines have been passed

unfoldable pub left_ok : ℕ → List ℕ → Bool
left_ok n rest =
    ends_in_lf rest
    && leb 1 (n + length (table_lines rest))
    && leb (n + length (table_lines rest)) most_lines
    && lines_up_to most_words (table_lines rest)
    && ids_once (table_lines rest)

pub left_all : (text : List ℕ) → table_ok text ≡ left_ok 0 (drop 0 text)
unfolding table_ok table_up_to left_ok
left_all text = rw (zero-add (length (table_lines text)))

-- a line and what is left after it
module _ (n : ℕ) (text l rest : List ℕ) (lines : table_lines text ≡ l ∷ table_lines rest) where
  step_bad : line_up_to most_words l ≡ false → left_ok n text ≡ false
  unfolding left_ok lines_up_to
  step_bad f =
      rw (lines, f)
      (first_fails (chain && false) (ids_once (l ∷ table_lines rest)) (second_fails chain false refl))
    where
      chain : Bool
      chain = ends_in_lf text && leb 1 (n + suc (length (table_lines rest))) && leb (n + suc (length (table_lines rest))) most_lines

  step_clash : clashes (device_of l) (table_lines rest) ≡ true → left_ok n text ≡ false
  unfolding left_ok ids_once
  step_clash t =
      rw (lines, t)
      (second_fails (ends_in_lf text && leb 1 (n + suc (length (table_lines rest))) && leb (n + suc (length (table_lines rest))) most_lines && lines_up_to most_words (l ∷ table_lines rest)) false refl)

  step_on : ends_in_lf text ≡ ends_in_lf rest → line_up_to most_words l ≡ true → clashes (device_of l) (table_lines rest) ≡ false → left_ok n text ≡ left_ok (n + 1) rest
  unfolding left_ok lines_up_to ids_once
  step_on ends t f =
      let count : n + suc (length (table_lines rest)) ≡ n + 1 + length (table_lines rest) = omega arith in
      rw (lines, ends, t, f, count)

module _ (n : ℕ) (text : List ℕ) (from r : ℕ) (e : r ≡ from + index_of lf (slice from (length text) text)) (within : from < length text) where
  here : from ≤ length text
  here = omega arith

  pub left_no_end : length text ≤ r → left_ok n (drop from text) ≡ false
  unfolding left_ok
  left_no_end h = rw (ends_not text from r e here h within)

  module _ (h : r < length text) where
    lines : table_lines (drop from text) ≡ take (r - from) (drop from text) ∷ table_lines (drop (r + 1) text)
    lines = lines_more text from r e here h

    pub left_bad_line : line_up_to most_words (take (r - from) (drop from text)) ≡ false → left_ok n (drop from text) ≡ false
    left_bad_line f = step_bad n _ _ _ lines f

    pub left_clash : clashes (device_of (take (r - from) (drop from text))) (table_lines (drop (r + 1) text)) ≡ true → left_ok n (drop from text) ≡ false
    left_clash t = step_clash n _ _ _ lines t

    pub left_on : line_up_to most_words (take (r - from) (drop from text)) ≡ true → clashes (device_of (take (r - from) (drop from text))) (table_lines (drop (r + 1) text)) ≡ false
        → left_ok n (drop from text) ≡ left_ok (n + 1) (drop (r + 1) text)
    left_on t f = step_on n _ _ _ lines (ends_more text from r e here h) t f

-- more than 64 lines
pub left_many : (n : ℕ) (rest : List ℕ) → most_lines < n → left_ok n rest ≡ false
unfolding left_ok
left_many n rest h =
    rw (lt-leb (n + length (table_lines rest)) most_lines (omega arith))
    (first_fails (ends_in_lf rest && leb 1 (n + length (table_lines rest)) && false && lines_up_to most_words (table_lines rest)) (ids_once (table_lines rest))
    (first_fails (ends_in_lf rest && leb 1 (n + length (table_lines rest)) && false) (lines_up_to most_words (table_lines rest))
    (second_fails (ends_in_lf rest && leb 1 (n + length (table_lines rest))) false refl)))

-- at the text's end
module _ (n : ℕ) (text : List ℕ) (from : ℕ) (done : length text ≤ from) where
  pub left_none : n < 1 → left_ok n (drop from text) ≡ false
  unfolding left_ok
  left_none h =
      rw (ends_end text from done, lines_end text from done, add-zero n, lt-leb 1 n h)

  pub left_some : 1 ≤ n → n ≤ most_lines → left_ok n (drop from text) ≡ true
  unfolding left_ok lines_up_to ids_once
  left_some p q = rw (ends_end text from done, lines_end text from done, add-zero n, le-leb 1 n p, le-leb n most_lines q)

-- ---- the answers

module _ (text : List ℕ) where
  pub table_bad : table_ok text ≡ false → 15 ≡ table_number text
  unfolding table_number
  table_bad f = sym (pick_false (table_ok text) 0 15 f)

  pub table_good : table_ok text ≡ true → 0 ≡ table_number text
  unfolding table_number
  table_good t = sym (pick_true (table_ok text) 0 15 t)

  -- a last line without its LF
  pub table_unended : ends_in_lf text ≡ false → 15 ≡ table_number text
  table_unended f = table_bad (unfold table_ok table_up_to in rw f)

  pub good_of_number : table_number text ≡ 0 → table_ok text ≡ true
  unfolding table_number pick
  good_of_number e = by (table_ok text) e
    where
      by : (t : Bool) → pick {A = ℕ} t 0 15 ≡ 0 → t ≡ true
      by true q = refl
      by false q = absurd (omega arith)

  pub bad_of_number : (table_number text ≡ 0 → ⊥) → table_ok text ≡ false
  unfolding table_number pick
  bad_of_number h = by (table_ok text) h
    where
      by : (t : Bool) → (pick {A = ℕ} t 0 15 ≡ 0 → ⊥) → t ≡ false
      by true q = absurd (q refl)
      by false q = refl

-- ---- the lines one after another, as the code parts the text

module _ (text line rest : List ℕ) (p : Parted lf text line rest) where
  parted_lines : table_lines text ≡ line ∷ table_lines rest
  unfolding table_lines
  parted_lines = ap but_last p.pieces ∙ but_last_more lf line rest

  parted_ends : ends_in_lf text ≡ ends_in_lf rest
  unfolding ends_in_lf
  parted_ends = ap (λ s. eqb (length (last_of s)) 0) p.pieces ∙ ap (λ s. eqb (length s) 0) (last_more lf line rest)

  pub turn_bad : (n : ℕ) → line_up_to most_words line ≡ false → left_ok n text ≡ false
  turn_bad n f = step_bad n text line rest parted_lines f

  module _ (n name : ℕ) (d : Device) (l : LineRead line name d) where
    pub turn_clash : clashes d (table_lines rest) ≡ true → left_ok n text ≡ false
    turn_clash t = step_clash n text line rest parted_lines (rw (← l.device) t)

    pub turn_on : clashes d (table_lines rest) ≡ false → left_ok n text ≡ left_ok (n + 1) rest
    turn_on f = step_on n text line rest parted_lines parted_ends l.test (rw (← l.device) f)

  module _ (d : Device) where
    pub clash_here : clash d (device_of line) ≡ true → true ≡ clashes d (table_lines text)
    unfolding clashes
    clash_here t = rw (parted_lines, t)

    pub clash_on : clash d (device_of line) ≡ false → clashes d (table_lines text) ≡ clashes d (table_lines rest)
    unfolding clashes
    clash_on f = rw (parted_lines, f)

-- no line is left
module _ (text : List ℕ) (w : split lf text ≡ text ∷ []) where
  whole_lines : table_lines text ≡ []
  unfolding table_lines but_last
  whole_lines = rw w

  whole_ends : ends_in_lf text ≡ eqb (length text) 0
  unfolding ends_in_lf last_of
  whole_ends = rw w

  pub clash_none : (d : Device) → false ≡ clashes d (table_lines text)
  unfolding clashes
  clash_none d = rw whole_lines

  pub end_few : (n : ℕ) → n < 1 → left_ok n text ≡ false
  unfolding left_ok
  end_few n h = rw (whole_lines, add-zero n, lt-leb 1 n h) (first_fails _ _ (first_fails _ _ (first_fails _ _ (second_fails (ends_in_lf text) false refl))))

  pub end_rest : (n : ℕ) → 0 < length text → left_ok n text ≡ false
  unfolding left_ok
  end_rest n h = rw (whole_ends, ne_eqb (length text) 0 (λ q. omega arith))

  pub end_good : (n : ℕ) → length text ≡ 0 → 1 ≤ n → n ≤ most_lines → left_ok n text ≡ true
  unfolding left_ok lines_up_to ids_once
  end_good n e p q = rw (whole_ends, whole_lines, e, add-zero n, le-leb 1 n p, le-leb n most_lines q)

-- ---- the search for an ID

module _ (id : ℕ) (l : List ℕ) (ls : List (List ℕ)) where
  module _ (e : fits (device_of l) id ≡ true) where
    has_here : has_id id (l ∷ ls) ≡ true
    unfolding has_id
    has_here = rw e

    pub start_here : start_of id (l ∷ ls) ≡ 0
    unfolding start_of pick
    start_here = rw e

    pub line_here : line_with id (l ∷ ls) ≡ l
    unfolding line_with pick
    line_here = rw e

  module _ (n : fits (device_of l) id ≡ false) where
    pub has_later : has_id id (l ∷ ls) ≡ has_id id ls
    unfolding has_id
    has_later = rw n

    pub start_later : start_of id (l ∷ ls) ≡ length l + 1 + start_of id ls
    unfolding start_of pick
    start_later = rw n

    pub line_later : line_with id (l ∷ ls) ≡ line_with id ls
    unfolding line_with pick
    line_later = rw n

-- ---- the record of an ID

-- in a sound table every line is sound
pub line_with_ok : (id : ℕ) (ls : List (List ℕ)) → lines_up_to most_words ls ≡ true → has_id id ls ≡ true → line_up_to most_words (line_with id ls) ≡ true
unfolding lines_up_to has_id line_with
line_with_ok id [] a h = absurd (true_not_false h refl)
line_with_ok id (l ∷ ls) a h = by (fits (device_of l) id) h (line_with_ok id ls (second_holds (line_up_to most_words l) (lines_up_to most_words ls) a))
  where
    by : (t : Bool) → (t || has_id id ls) ≡ true → (has_id id ls ≡ true → line_up_to most_words (line_with id ls) ≡ true) → line_up_to most_words (pick t l (line_with id ls)) ≡ true
    by true q ih = unfold pick in first_holds (line_up_to most_words l) (lines_up_to most_words ls) a
    by false q ih = unfold pick in ih q

pub lines_ok : (text : List ℕ) → table_ok text ≡ true → lines_up_to most_words (table_lines text) ≡ true
unfolding table_ok table_up_to
lines_ok text e =
    second_holds (ends_in_lf text && leb 1 (length (table_lines text)) && leb (length (table_lines text)) most_lines) (lines_up_to most_words (table_lines text))
    (first_holds (ends_in_lf text && leb 1 (length (table_lines text)) && leb (length (table_lines text)) most_lines && lines_up_to most_words (table_lines text)) (ids_once (table_lines text)) e)

module _ (text : List ℕ) (id : ℕ) where
  pub found_bad : table_ok text ≡ false → found_in text id ≡ refused 15
  unfolding found_in found_up_to table_ok
  found_bad f = pick_false (table_ok text) _ _ f

  -- what judges the table refuses it for the call that finds a record
  pub found_refused : (n : ℕ) → 0 < n → n ≡ table_number text → refused n ≡ found_in text id
  found_refused n h e =
      let bad : table_ok text ≡ false = bad_of_number text (λ z. omega arith) in
      let same : 15 ≡ n = table_bad text bad ∙ sym e in
      ap refused (sym same) ∙ sym (found_bad bad)

-- the lines of a rest still hold what is looked for, and every one of them is sound
pub record Ahead (text : List ℕ) (id : ℕ) (rest : List ℕ) : Type 0 where
  pub sound : lines_up_to most_words (table_lines rest) ≡ true
  pub within : length rest ≤ length text
  pub found : found_in text id
      ≡ unless (has_id id (table_lines rest)) (refused 16) (given (length text - length rest + start_of id (table_lines rest)) (line_with id (table_lines rest)))

module _ (text : List ℕ) (id : ℕ) where
  pub ahead_all : table_ok text ≡ true → Ahead text id text
  unfolding found_in found_up_to table_ok
  ahead_all t =
      let start : length text - length text + start_of id (table_lines text) ≡ start_of id (table_lines text) = omega arith in
      record {
        sound = lines_ok text t;
        within = omega arith;
        found = pick_true (table_ok text) _ _ t ∙ (rw start);
      }

  module _ (rest : List ℕ) (so : Ahead text id rest) where
    pub ahead_none : split lf rest ≡ rest ∷ [] → refused 16 ≡ found_in text id
    unfolding has_id pick
    ahead_none w = sym (so.found ∙ (rw (whole_lines rest w)))

    module _ (line after : List ℕ) (p : Parted lf rest line after) where
      both_sound : (line_up_to most_words line ≡ true) × (lines_up_to most_words (table_lines after) ≡ true)
      unfolding lines_up_to
      both_sound =
          let e : (line_up_to most_words line && lines_up_to most_words (table_lines after)) ≡ true = rw (parted_lines rest line after p) at so.sound in
          (first_holds _ _ e, second_holds (line_up_to most_words line) _ e)

      pub ahead_sound : line_up_to most_words line ≡ false → ⊥
      ahead_sound f = true_not_false both_sound.0 f

      pub ahead_here : (name : ℕ) (d : Device) → LineRead line name d → fits d id ≡ true
          → record { number = 0; device = d; name_at = length text - length rest; name_len = name } ≡ found_in text id
      unfolding given pick
      ahead_here name d l y =
          let fit : fits (device_of line) id ≡ true = rw (← l.device) y in
          let place : length text - length rest + 0 ≡ length text - length rest = omega arith in
          sym (so.found ∙ (rw (parted_lines rest line after p, has_here id line (table_lines after) fit, start_here id line (table_lines after) fit, line_here id line (table_lines after) fit, ← l.device, ← l.named, place)))

      pub ahead_on : (name : ℕ) (d : Device) → LineRead line name d → fits d id ≡ false → Ahead text id after
      ahead_on name d l n =
          let other : fits (device_of line) id ≡ false = rw (← l.device) n in
          let long : length line + 1 + length after ≡ length rest = parted_length lf rest line after p in
          let within : length rest ≤ length text = so.within in
          let place : length text - length rest + (length line + 1 + start_of id (table_lines after)) ≡ length text - length after + start_of id (table_lines after) = omega arith in
          record {
            sound = both_sound.1;
            within = omega arith;
            found = so.found ∙ (rw (parted_lines rest line after p, has_later id line (table_lines after) other, start_later id line (table_lines after) other, line_later id line (table_lines after) other, place));
          }

-- the device of a sound line keeps the rules of a record
pub line_device : (line : List ℕ) → line_up_to most_words line ≡ true → device_ok (device_of line) ≡ true
unfolding line_up_to device_ok
line_device line e =
    second_holds
    (count_ok line && name_ok (field 0 line) && hex_ok (field 1 line) && is_decimal (field 2 line) && is_decimal (field 3 line) && hex_ok (field 4 line) && hex_ok (field 5 line))
    (device_ok (device_of line)) e

-- and so does each record that is found
pub found_sound : (text : List ℕ) (id : ℕ) → table_ok text ≡ true → has_id id (table_lines text) ≡ true → device_ok (found_in text id).device ≡ true
unfolding found_in found_up_to table_ok
found_sound text id t has =
    let same : found_in text id ≡ given (start_of id (table_lines text)) (line_with id (table_lines text)) = pick_true (table_ok text) _ _ t ∙ pick_true (has_id id (table_lines text)) _ _ has in
    ap (λ x. device_ok x.device) same
    ∙ (unfold given in line_device (line_with id (table_lines text)) (line_with_ok id (table_lines text) (lines_ok text t) has))

-- a table without a line
pub table_empty : 15 ≡ table_number []
table_empty = table_bad [] (unfold table_ok table_up_to ends_in_lf last_of table_lines but_last split in refl)

-- ---- the answers, by what they tell

pub found_told_unique : (a b : Result Place Refusal) → found_told a ≡ found_told b → a ≡ b
unfolding refused
found_told_unique (Ok f) (Ok g) e = ap (λ x. Ok (record { device = x.device; name_at = x.name_at; name_len = x.name_len })) e
found_told_unique (Ok f) (Err d) e = let z : 0 ≡ number_of d = ap (λ x. x.number) e in absurd (omega (arith, number_of_positive d))
found_told_unique (Err c) (Ok g) e = let z : number_of c ≡ 0 = ap (λ x. x.number) e in absurd (omega (arith, number_of_positive c))
found_told_unique (Err c) (Err d) e = ap Err (number_of_unique c d (ap (λ x. x.number) e))
