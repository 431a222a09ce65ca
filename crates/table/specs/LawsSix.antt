-- Laws of lines of six fields: a table of them is judged and searched as it was before a line could carry the ID's mask.
use Rattle.std.specs.Prelude.{ℕ, ◌+◌, ◌<◌, ◌≡◌, Bool, ◌&&◌, ◌||◌, not, leb, eqb}
use Rattle.std.proofs.Common.{arith, ◌∙◌}
use Rattle.std.proofs.Math.Path.{refl, sym, ap}
use Rattle.std.proofs.Math.Bool.{true, false}
use mathlib.Core.List.{List, [], ◌∷◌}
use Rattle.std.specs.Int.Bits.{bit_and}
use Rattle.std.proofs.lemmas.Nat.{and_comm}
use Rattle.std.proofs.Math.ListN.{length}
use borrow.Author.Tests.{eqb-true, eq-eqb, ne_eqb}
use Rattle.words.specs.Choice.{pick, unless}
use Rattle.words.specs.Word.{erased, is_word, bit}
use Rattle.words.specs.LawsChoice.{pick_true, pick_false, first_holds, second_holds, second_fails, first_fails, same_test}
use Rattle.words.specs.LawsTests.{by_test}
use Rattle.words.specs.LawsWord.{is_word_lem, and_erased}
use Rattle.numerals.specs.Text.{tab, split}
use Rattle.numerals.specs.Decimal.{is_decimal, value_of}
use Rattle.device.specs.declared.Device.{Device}
use Rattle.device.specs.Record.{most_words, row_ok, words_up_to, device_up_to, fits}
use Rattle.device.specs.LawsRecord.{rules_lem}
use Rattle.device.specs.LawsId.{fits_whole}
use Rattle.table.specs.Table.{Found, field, name_ok, hex_field, hex_ok, id_of, id_mask_of, device_of, count_ok, line_up_to, table_lines, most_lines, ends_in_lf, lines_up_to, clash, clashes, ids_once, table_up_to, table_ok, has_id, line_with, start_of, refused, given, found_up_to, found_in}
use Rattle.table.specs.LawsTable.{line_device}

-- ---- as it was

-- a line's device, with every bit in the mask
unfoldable pub device_before : List ℕ → Device
device_before line =
    record {
      id = id_of line;
      words = value_of (field 2 line);
      row = value_of (field 3 line);
      mask1 = hex_field (field 4 line);
      mask2 = hex_field (field 5 line);
      idmask = erased;
    }

-- the rules of a record of five numbers
unfoldable pub rules_before : Device → Bool
rules_before d = row_ok d.row && words_up_to most_words d.words d.row && is_word d.id && is_word d.mask1 && is_word d.mask2 && eqb (bit d.mask1 7) 1

-- six fields, each of its kind
unfoldable pub line_before : List ℕ → Bool
line_before line =
    eqb (length (split tab line)) 6
    && name_ok (field 0 line)
    && hex_ok (field 1 line)
    && is_decimal (field 2 line)
    && is_decimal (field 3 line)
    && hex_ok (field 4 line)
    && hex_ok (field 5 line)
    && rules_before (device_before line)

unfoldable pub lines_before : List (List ℕ) → Bool
lines_before [] = true
lines_before (l ∷ ls) = line_before l && lines_before ls

-- IDs compared whole
unfoldable pub has_before : ℕ → List (List ℕ) → Bool
has_before id [] = false
has_before id (l ∷ ls) = eqb (id_of l) id || has_before id ls

unfoldable pub once_before : List (List ℕ) → Bool
once_before [] = true
once_before (l ∷ ls) = not (has_before (id_of l) ls) && once_before ls

unfoldable pub table_before : List ℕ → Bool
table_before text =
    ends_in_lf text
    && leb 1 (length (table_lines text))
    && leb (length (table_lines text)) most_lines
    && lines_before (table_lines text)
    && once_before (table_lines text)

unfoldable pub with_before : ℕ → List (List ℕ) → List ℕ
with_before id [] = []
with_before id (l ∷ ls) = pick (eqb (id_of l) id) l (with_before id ls)

unfoldable pub start_before : ℕ → List (List ℕ) → ℕ
start_before id [] = 0
start_before id (l ∷ ls) = pick (eqb (id_of l) id) 0 (length l + 1 + start_before id ls)

unfoldable pub given_before : (at : ℕ) → List ℕ → Found
given_before at line = record { number = 0; device = device_before line; name_at = at; name_len = length (field 0 line) }

unfoldable pub found_before : List ℕ → ℕ → Found
found_before text id =
    unless (table_before text) (refused 15)
    (unless (has_before id (table_lines text)) (refused 16)
    (given_before (start_before id (table_lines text)) (with_before id (table_lines text))))

-- every line has six fields
unfoldable pub all_six : List (List ℕ) → Bool
all_six [] = true
all_six (l ∷ ls) = eqb (length (split tab l)) 6 && all_six ls

-- ---- a line

eqb_swap : (a b : ℕ) → eqb a b ≡ eqb b a
eqb_swap a b = same_test (eqb a b) (eqb b a) (λ e. eq-eqb b a (sym (eqb-true a b e))) (λ e. eq-eqb a b (sym (eqb-true b a e)))

module _ (line : List ℕ) (six : eqb (length (split tab line)) 6 ≡ true) where
  six_mask : id_mask_of line ≡ erased
  unfolding id_mask_of
  six_mask = pick_false _ _ _ (ne_eqb (length (split tab line)) 7 (λ e. let s : length (split tab line) ≡ 6 = eqb-true (length (split tab line)) 6 six in omega arith))

  six_device : device_of line ≡ device_before line
  unfolding device_of device_before
  six_device = rw six_mask

  six_rules : device_up_to most_words (device_before line) ≡ rules_before (device_before line)
  unfolding device_up_to rules_before
  six_rules =
      rw (ap is_word mask_whole ∙ is_word_lem erased (omega arith))
      (by (row_ok b.row && words_up_to most_words b.words b.row && is_word b.id && is_word b.mask1 && is_word b.mask2) (eqb (bit b.mask1 7) 1))
    where
      b : Device
      b = device_before line

      mask_whole : (device_before line).idmask ≡ erased
      mask_whole = unfold device_before in refl

      by : (s t : Bool) → (s && true && t) ≡ (s && t)
      by true t = refl
      by false t = refl

  six_line : line_up_to most_words line ≡ line_before line
  unfolding line_up_to count_ok line_before
  six_line = rw (six, six_device, six_rules)

six_lines : (ls : List (List ℕ)) → all_six ls ≡ true → lines_up_to most_words ls ≡ lines_before ls
unfolding all_six lines_up_to lines_before
six_lines [] s = refl
six_lines (l ∷ ls) s =
    (λ i. six_line l (first_holds (eqb (length (split tab l)) 6) (all_six ls) s) i && six_lines ls (second_holds (eqb (length (split tab l)) 6) (all_six ls) s) i)

-- ---- sound lines of six fields

module _ (l : List ℕ) (six : eqb (length (split tab l)) 6 ≡ true) (sound : line_up_to most_words l ≡ true) where
  id_small : (device_of l).id < 0x4000
  id_small = (rules_lem (device_of l) (line_device l sound)).id_word

  id_is : (device_of l).id ≡ id_of l
  id_is = unfold device_of in refl

  mask_is : (device_of l).idmask ≡ erased
  unfolding device_of
  mask_is = six_mask l six

  fits_before : (id : ℕ) → fits (device_of l) id ≡ eqb (id_of l) id
  fits_before id = fits_whole (device_of l) id mask_is id_small ∙ (ap (eqb id) id_is ∙ eqb_swap id (id_of l))

whole_under : (x : ℕ) → x < 0x4000 → bit_and x (bit_and erased erased) ≡ x
whole_under x h = ap (bit_and x) (and_erased erased (omega arith)) ∙ (and_comm x erased ∙ and_erased x h)

clash_before : (d : Device) → d.idmask ≡ erased → d.id < 0x4000 → (m : List ℕ) → eqb (length (split tab m)) 6 ≡ true → line_up_to most_words m ≡ true → clash d (device_of m) ≡ eqb (id_of m) d.id
unfolding clash
clash_before d whole small m six sound =
    (λ i. eqb (bit_and d.id (bit_and (whole i) (mask_is m six sound i))) (bit_and (device_of m).id (bit_and (whole i) (mask_is m six sound i))))
    ∙ ((λ i. eqb (whole_under d.id small i) (whole_under (device_of m).id (id_small m six sound) i))
    ∙ (ap (eqb d.id) (id_is m six sound) ∙ eqb_swap d.id (id_of m)))

-- all of the lines
module _ (l : List ℕ) (ls : List (List ℕ)) (s : all_six (l ∷ ls) ≡ true) (a : lines_up_to most_words (l ∷ ls) ≡ true) where
  first_six : eqb (length (split tab l)) 6 ≡ true
  unfolding all_six
  first_six = first_holds (eqb (length (split tab l)) 6) (all_six ls) s

  rest_six : all_six ls ≡ true
  unfolding all_six
  rest_six = second_holds (eqb (length (split tab l)) 6) (all_six ls) s

  first_sound : line_up_to most_words l ≡ true
  unfolding lines_up_to
  first_sound = first_holds (line_up_to most_words l) (lines_up_to most_words ls) a

  rest_sound : lines_up_to most_words ls ≡ true
  unfolding lines_up_to
  rest_sound = second_holds (line_up_to most_words l) (lines_up_to most_words ls) a

clashes_before : (d : Device) → d.idmask ≡ erased → d.id < 0x4000 → (ls : List (List ℕ)) → all_six ls ≡ true → lines_up_to most_words ls ≡ true → clashes d ls ≡ has_before d.id ls
unfolding clashes has_before
clashes_before d whole small [] s a = refl
clashes_before d whole small (l ∷ ls) s a =
    λ i. clash_before d whole small l (first_six l ls s a) (first_sound l ls s a) i || clashes_before d whole small ls (rest_six l ls s a) (rest_sound l ls s a) i

once_before_lem : (ls : List (List ℕ)) → all_six ls ≡ true → lines_up_to most_words ls ≡ true → ids_once ls ≡ once_before ls
unfolding ids_once once_before
once_before_lem [] s a = refl
once_before_lem (l ∷ ls) s a =
    let six = first_six l ls s a in
    let sound = first_sound l ls s a in
    (λ i. not ((clashes_before (device_of l) (mask_is l six sound) (id_small l six sound) ls (rest_six l ls s a) (rest_sound l ls s a) ∙ ap (λ n. has_before n ls) (id_is l six sound)) i)
    && once_before_lem ls (rest_six l ls s a) (rest_sound l ls s a) i)

module _ (id : ℕ) where
  has_before_lem : (ls : List (List ℕ)) → all_six ls ≡ true → lines_up_to most_words ls ≡ true → has_id id ls ≡ has_before id ls
  unfolding has_id has_before
  has_before_lem [] s a = refl
  has_before_lem (l ∷ ls) s a = λ i. fits_before l (first_six l ls s a) (first_sound l ls s a) id i || has_before_lem ls (rest_six l ls s a) (rest_sound l ls s a) i

  with_before_lem : (ls : List (List ℕ)) → all_six ls ≡ true → lines_up_to most_words ls ≡ true → line_with id ls ≡ with_before id ls
  unfolding line_with with_before
  with_before_lem [] s a = refl
  with_before_lem (l ∷ ls) s a = λ i. pick (fits_before l (first_six l ls s a) (first_sound l ls s a) id i) l (with_before_lem ls (rest_six l ls s a) (rest_sound l ls s a) i)

  start_before_lem : (ls : List (List ℕ)) → all_six ls ≡ true → lines_up_to most_words ls ≡ true → start_of id ls ≡ start_before id ls
  unfolding start_of start_before
  start_before_lem [] s a = refl
  start_before_lem (l ∷ ls) s a = λ i. pick (fits_before l (first_six l ls s a) (first_sound l ls s a) id i) 0 (length l + 1 + start_before_lem ls (rest_six l ls s a) (rest_sound l ls s a) i)

  -- the line that is found has six fields, and so has the mask that stands for none
  found_mask : (ls : List (List ℕ)) → all_six ls ≡ true → id_mask_of (with_before id ls) ≡ erased
  unfolding all_six with_before
  found_mask [] s = unfold id_mask_of split pick in refl
  found_mask (l ∷ ls) s =
      by (eqb (id_of l) id) (six_mask l (first_holds (eqb (length (split tab l)) 6) (all_six ls) s)) (found_mask ls (second_holds (eqb (length (split tab l)) 6) (all_six ls) s))
    where
      by : (t : Bool) → id_mask_of l ≡ erased → id_mask_of (with_before id ls) ≡ erased → id_mask_of (pick t l (with_before id ls)) ≡ erased
      by true p q = unfold pick in p
      by false p q = unfold pick in q

-- ---- the table

module _ (text : List ℕ) (six : all_six (table_lines text) ≡ true) where
  form : Bool
  form = ends_in_lf text && leb 1 (length (table_lines text)) && leb (length (table_lines text)) most_lines

  table_before_lem : table_ok text ≡ table_before text
  unfolding table_ok table_up_to table_before form
  table_before_lem =
      ap (λ t. form && t && ids_once (table_lines text)) (six_lines (table_lines text) six)
      ∙ by_test (lines_before (table_lines text))
      (λ t. ap (λ o. form && lines_before (table_lines text) && o) (once_before_lem (table_lines text) six (six_lines (table_lines text) six ∙ t)))
      (λ f. rw f (none (ids_once (table_lines text)) ∙ sym (none (once_before (table_lines text)))))
    where
      none : (o : Bool) → (form && false && o) ≡ false
      none o = first_fails (form && false) o (second_fails form false refl)

  sound_lines : table_ok text ≡ true → lines_up_to most_words (table_lines text) ≡ true
  unfolding table_ok table_up_to form
  sound_lines e = second_holds form (lines_up_to most_words (table_lines text)) (first_holds (form && lines_up_to most_words (table_lines text)) (ids_once (table_lines text)) e)

  given_before_lem : (id : ℕ) → table_ok text ≡ true → given (start_of id (table_lines text)) (line_with id (table_lines text)) ≡ given_before (start_before id (table_lines text)) (with_before id (table_lines text))
  unfolding given given_before device_of device_before
  given_before_lem id t =
      let a = sound_lines t in
      (λ i. given (start_before_lem id (table_lines text) six a i) (with_before_lem id (table_lines text) six a i))
      ∙ rw (found_mask id (table_lines text) six)

  found_before_lem : (id : ℕ) → found_in text id ≡ found_before text id
  unfolding found_in found_up_to table_ok found_before
  found_before_lem id =
      by_test (table_ok text)
      (λ t. pick_true _ _ _ t
      ∙ ((λ i. pick (has_before_lem id (table_lines text) six (sound_lines t) i) (given_before_lem id t i) (refused 16))
      ∙ sym (pick_true _ _ _ (sym table_before_lem ∙ t))))
      (λ f. pick_false _ _ _ f ∙ sym (pick_false _ _ _ (sym table_before_lem ∙ f)))

-- a table whose lines have six fields each is sound just where it was, and what is found in it is what was found, with every bit in the mask
pub six_as_before : (text : List ℕ) → all_six (table_lines text) ≡ true → (table_ok text ≡ table_before text) × ((id : ℕ) → found_in text id ≡ found_before text id)
six_as_before text six = (table_before_lem text six, found_before_lem text six)
