-- Laws of a found name: it stands in the table's text where the search says, and it is a table name.
use Rattle.std.specs.Prelude.{ℕ, suc, ◌+◌, ◌≤◌, ◌≡◌, Bool, true, ◌&&◌, List, [], ◌∷◌, ◌++◌, eqb, drop}
use Rattle.std.proofs.Common.{zero-add, arith, ◌∙◌, length-append, take-take, length-take-le, eqb-true}
use Rattle.std.proofs.Math.Path.{refl, sym, ap}
use Rattle.std.proofs.Math.Bool.{false}
use Rattle.std.proofs.Math.ListN.{length, take}
use Rattle.std.proofs.Math.Seq.{take-length, take-append_seam, drop-append-add}
use Rattle.marks.specs.Marks.{index_of}
use Rattle.words.specs.Choice.{pick}
use Rattle.words.specs.LawsChoice.{pick_true, pick_false, first_holds, second_holds, true_not_false}
use Rattle.words.specs.LawsTests.{by_lt, by_test}
use Rattle.numerals.specs.Text.{tab, lf, split, in_front}
use Rattle.numerals.specs.Decimal.{is_decimal}
use Rattle.numerals.specs.LawsText.{split_at, split_whole, some_piece}
use Rattle.device.specs.Record.{most_words, device_up_to, fits}
use Rattle.table.specs.Table.{but_last, field, name_ok, hex_ok, device_of, count_ok, line_up_to, table_lines, table_ok, has_id, line_with, start_of, refused, given, found_up_to, found_in, name_at}
use Rattle.table.specs.LawsTable.{line_with_ok, lines_ok, found_bad, start_here, line_here, has_later, start_later, line_later}

-- ---- a text and its pieces

-- pieces put together again, a mark between
unfoldable joined_by : (mark : ℕ) → List (List ℕ) → List ℕ
joined_by mark [] = []
joined_by mark (p ∷ []) = p
joined_by mark (p ∷ q ∷ ps) = p ++ (mark ∷ joined_by mark (q ∷ ps))

joined_front : (mark c : ℕ) (p : List ℕ) (ps : List (List ℕ)) → joined_by mark (in_front c (p ∷ ps)) ≡ c ∷ joined_by mark (p ∷ ps)
unfolding joined_by in_front
joined_front mark c p [] = refl
joined_front mark c p (q ∷ ps) = refl

joined_split : (mark : ℕ) (l : List ℕ) → joined_by mark (split mark l) ≡ l
unfolding split
joined_split mark [] = unfold joined_by in refl
joined_split mark (c ∷ l) = by (eqb c mark) refl (joined_split mark l)
  where
    start : joined_by mark ([] ∷ split mark l) ≡ mark ∷ joined_by mark (split mark l)
    start = some_piece mark l (λ ps. joined_by mark ([] ∷ ps) ≡ mark ∷ joined_by mark ps) (λ p ps. unfold joined_by in refl)

    front : joined_by mark (in_front c (split mark l)) ≡ c ∷ joined_by mark (split mark l)
    front = some_piece mark l (λ ps. joined_by mark (in_front c ps) ≡ c ∷ joined_by mark ps) (joined_front mark c)

    by : (t : Bool) → eqb c mark ≡ t → joined_by mark (split mark l) ≡ l → joined_by mark (pick t ([] ∷ split mark l) (in_front c (split mark l))) ≡ c ∷ l
    by true e ih = unfold pick in start ∙ (λ i. sym (eqb-true c mark e) i ∷ ih i)
    by false e ih = unfold pick in front ∙ ap (λ r. c ∷ r) ih

-- ---- the line of an ID in the text

-- a line stands in a text from a place on
record At (text line : List ℕ) (start : ℕ) : Type 0 where
  here : take (length line) (drop start text) ≡ line
  within : start + length line ≤ length text

at_start : (p r : List ℕ) → At (p ++ r) p 0
at_start p r = record { here = take-append_seam p r; within = rw (zero-add, length-append) (omega arith) }

at_later : (p r line : List ℕ) (start : ℕ) → At r line start → At (p ++ (lf ∷ r)) line (length p + 1 + start)
at_later p r line start a =
    let place : length p + 1 + start ≡ length p + suc start = omega arith in
    record {
      here = rw (place, drop-append-add p (lf ∷ r) (suc start)) a.here;
      within = let w : start + length line ≤ length r = a.within in rw length-append (omega arith);
    }

line_at_lem : (id : ℕ) (ps : List (List ℕ)) → has_id id (but_last ps) ≡ true → At (joined_by lf ps) (line_with id (but_last ps)) (start_of id (but_last ps))
unfolding but_last joined_by
line_at_lem id [] h = absurd (true_not_false h (unfold has_id in refl))
line_at_lem id (p ∷ []) h = absurd (true_not_false h (unfold has_id in refl))
line_at_lem id (p ∷ q ∷ ps) h = by (fits (device_of p) id) refl (line_at_lem id (q ∷ ps))
  where
    Rest : Type 0
    Rest = has_id id (but_last (q ∷ ps)) ≡ true → At (joined_by lf (q ∷ ps)) (line_with id (but_last (q ∷ ps))) (start_of id (but_last (q ∷ ps)))

    by : (t : Bool) → fits (device_of p) id ≡ t → Rest
        → At (p ++ (lf ∷ joined_by lf (q ∷ ps))) (line_with id (p ∷ but_last (q ∷ ps))) (start_of id (p ∷ but_last (q ∷ ps)))
    by true e ih = rw (line_here id p (but_last (q ∷ ps)) e, start_here id p (but_last (q ∷ ps)) e) (at_start p (lf ∷ joined_by lf (q ∷ ps)))
    by false e ih =
        rw (line_later id p (but_last (q ∷ ps)) e, start_later id p (but_last (q ∷ ps)) e)
        (at_later p (joined_by lf (q ∷ ps)) (line_with id (but_last (q ∷ ps))) (start_of id (but_last (q ∷ ps)))
        (ih (sym (has_later id p (but_last (q ∷ ps)) e) ∙ h)))

-- ---- the name of a line

-- the first field is the front of its line
field_front : (line : List ℕ) → (take (length (field 0 line)) line ≡ field 0 line) × (length (field 0 line) ≤ length line)
unfolding field
field_front line =
    by_lt (index_of tab line) (length line)
    (λ h. let e : split tab line ≡ take (index_of tab line) line ∷ split tab (drop (suc (index_of tab line)) line) = split_at tab line h in
    let n : length (take (index_of tab line) line) ≡ index_of tab line = length-take-le (index_of tab line) line (omega arith) in
    rw e (rw n, rw n (omega arith)))
    (λ h. let e : split tab line ≡ line ∷ [] = split_whole tab line h in rw e (take-length line, omega arith))

line_name : (line : List ℕ) → line_up_to most_words line ≡ true → name_ok (field 0 line) ≡ true
unfolding line_up_to
line_name line e =
    let a : Bool = count_ok line && name_ok (field 0 line) in
    let b : Bool = a && hex_ok (field 1 line) in
    let c : Bool = b && is_decimal (field 2 line) in
    let d : Bool = c && is_decimal (field 3 line) in
    let f : Bool = d && hex_ok (field 4 line) in
    let g : Bool = f && hex_ok (field 5 line) in
    second_holds (count_ok line) (name_ok (field 0 line))
    (first_holds a (hex_ok (field 1 line))
    (first_holds b (is_decimal (field 2 line))
    (first_holds c (is_decimal (field 3 line))
    (first_holds d (hex_ok (field 4 line))
    (first_holds f (hex_ok (field 5 line))
    (first_holds g (device_up_to most_words (device_of line)) e))))))

-- ---- a found name

found_absent : (text : List ℕ) (id : ℕ) → table_ok text ≡ true → has_id id (table_lines text) ≡ false → found_in text id ≡ refused 16
unfolding found_in found_up_to table_ok
found_absent text id t f = pick_true (table_ok text) _ _ t ∙ pick_false (has_id id (table_lines text)) _ _ f

module _ (text : List ℕ) (id : ℕ) (t : table_ok text ≡ true) (has : has_id id (table_lines text) ≡ true) where
  found_is : found_in text id ≡ given (start_of id (table_lines text)) (line_with id (table_lines text))
  unfolding found_in found_up_to table_ok
  found_is = pick_true (table_ok text) _ _ t ∙ pick_true (has_id id (table_lines text)) _ _ has

  stands : At text (line_with id (table_lines text)) (start_of id (table_lines text))
  unfolding table_lines
  stands = rw (joined_split lf text) at (line_at_lem id (split lf text) has)

  line : List ℕ
  line = line_with id (table_lines text)

  start : ℕ
  start = start_of id (table_lines text)

  name_is : name_at text (found_in text id) ≡ field 0 line
  unfolding name_at given line start
  name_is =
      ap (λ x. take x.name_len (drop x.name_at text)) found_is
      ∙ (sym (take-take (length (field 0 line)) (length line) (drop start text) (field_front line).1)
      ∙ (ap (take (length (field 0 line))) stands.here ∙ (field_front line).0))

  -- a found name is a table name
  pub found_name : name_ok (name_at text (found_in text id)) ≡ true
  found_name = ap name_ok name_is ∙ line_name line (unfold line in line_with_ok id (table_lines text) (lines_ok text t) has)

  within_here : (found_in text id).name_at + (found_in text id).name_len ≤ length text
  unfolding given
  within_here =
      let w : start_of id (table_lines text) + length (line_with id (table_lines text)) ≤ length text = stands.within in
      let f : length (field 0 (line_with id (table_lines text))) ≤ length (line_with id (table_lines text)) = (field_front (line_with id (table_lines text))).1 in
      rw found_is (omega arith)

none_within : (text : List ℕ) (n : ℕ) → (refused n).name_at + (refused n).name_len ≤ length text
unfolding refused
none_within text n = omega arith

-- what is found stands within the text, beside a refusal too
pub found_within : (text : List ℕ) (id : ℕ) → (found_in text id).name_at + (found_in text id).name_len ≤ length text
found_within text id =
    by_test (table_ok text)
    (λ t. by_test (has_id id (table_lines text)) (within_here text id t) (λ f. rw (found_absent text id t f) (none_within text 16)))
    (λ f. rw (found_bad text id f) (none_within text 15))
