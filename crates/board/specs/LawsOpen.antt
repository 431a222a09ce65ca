-- Laws of a board's record, from what the code's parts answer.
use Rattle.std.specs.Prelude.{ℕ, ◌+◌, ◌≤◌, ◌<◌, ◌≡◌, Result, Ok, Err, Option, IfOk, MatchResult, Bool, List, leb, eqb, length, drop}
use native.Mathlib.Omega.{arith}
use Rattle.std.proofs.Math.Path.{refl, ap}
use Rattle.std.proofs.Common.{sym, ◌∙◌}
use Rattle.std.proofs.Math.Bool.{true, false}
use Rattle.std.proofs.Math.ListN.{take}
use Rattle.std.specs.Result.{result_unwrap_or, result_err}
use Rattle.std.specs.Option.{unwrap_or}
use Rattle.refusal.specs.declared.Refusal.{Refusal}
use Rattle.refusal.specs.declared.Refusal.TheVariants.{Table}
use Rattle.refusal.specs.Refusal.{number_of, number_in, value_in}
use Rattle.refusal.specs.LawsRefusal.{number_of_unique, number_of_positive, answer_unique}
use borrow.Author.Tests.{eq-eqb, ne_eqb, eqb-true, le-leb, lt-leb, leb-true}
use Rattle.words.specs.Choice.{pick}
use Rattle.words.specs.LawsTests.{by_eq}
use Rattle.words.specs.LawsChoice.{pick_true, pick_false, both}
use Rattle.device.specs.declared.Device.{Device}
use Rattle.table.specs.declared.Found.{Found as Place}
use Rattle.device.specs.Record.{most_words, device_up_to, device_ok}
use Rattle.table.specs.Table.{table_ok, table_lines, has_id, found_told, refused, given, start_of, line_with, found_up_to, found_in, name_ok, name_at}
use Rattle.device.specs.LawsRecord.{rules_up_to, other_limit, more_words}
use Rattle.device.specs.Memory.{reading_tail}
use Rattle.table.specs.LawsTable.{found_sound}
use Rattle.table.specs.LawsName.{found_name}
use Rattle.sheet.specs.FirstLine.{Line1, id_in, line_ok, first_line, id_told}
use Rattle.sheet.specs.Sheet.{body_length, sheet_ok, words_in, sheet_number, read_number, read_buffer}
use Rattle.sheet.specs.LawsFirstLine.{id_stands}
use Rattle.sheet.specs.LawsSheet.{taken}
use Rattle.sheetwrite.specs.Write.{sheet_length}
use Rattle.board.specs.declared.Unopened.{Unopened}
use Rattle.board.specs.Open.{most_program, number_told, record_of, name_of, place_of, find_number, open_number}

-- the number of the search by itself
found_number : (table : List ℕ) (id : ℕ) → (found_in table id).number ≡ pick (table_ok table) (pick (has_id id (table_lines table)) 0 16) 15
unfolding found_in found_up_to table_ok
found_number table id = by (table_ok table) (has_id id (table_lines table))
  where
    by : (t h : Bool) → (pick t (pick h (given (start_of id (table_lines table)) (line_with id (table_lines table))) (refused 16)) (refused 15)).number ≡ pick t (pick h 0 16) 15
    by true true = unfold pick given in refl
    by true false = unfold pick refused in refl
    by false h = unfold pick refused in refl

-- ---- what the code's parts come to

-- the place of nothing
abbrev nothing : Place
nothing = record { device = record { id = 0; words = 0; row = 0; mask1 = 0; mask2 = 0; idmask = 0 }; name_at = 0; name_len = 0 }

-- the record by what the search answers for line 1's ID, or for 0
module _ (table sheet : List ℕ) (line : Result ℕ Refusal) (first : id_told line ≡ first_line sheet) (id : ℕ) (asked : id ≡ result_unwrap_or line 0) where
  id_is : id ≡ (first_line sheet).id
  id_is = asked ∙ (by line ∙ ap (λ l. l.id) first)
    where
      by : (a : Result ℕ Refusal) → result_unwrap_or a 0 ≡ value_in 0 a
      by (Ok n) = refl
      by (Err e) = refl

  same : (r : Result Place Refusal) → found_told r ≡ found_in table id → found_told r ≡ found_in table (first_line sheet).id
  same r is = is ∙ ap (found_in table) id_is

  -- the place of what it answers
  pub place_found : (f : Place) → found_told (Ok f) ≡ found_in table id → f ≡ place_of table sheet
  unfolding record_of
  place_found f is = λ i. let e : found_told (Ok f) ≡ found_in table (first_line sheet).id = same (Ok f) is in record { device = (e i).device; name_at = (e i).name_at; name_len = (e i).name_len }

  pub place_unfound : (e : Refusal) → found_told (Err e) ≡ found_in table id → nothing ≡ place_of table sheet
  unfolding record_of refused
  place_unfound e is = λ i. let f : found_told (Err e) ≡ found_in table (first_line sheet).id = same (Err e) is in record { device = (f i).device; name_at = (f i).name_at; name_len = (f i).name_len }

  told_number : (a : Result Place Refusal) → number_in a ≡ (found_told a).number
  unfolding refused
  told_number (Ok f) = refl
  told_number (Err e) = refl

  -- a malformed table before a malformed line 1 before what the search answers
  find_is : (r : Result Place Refusal) → found_told r ≡ found_in table id → find_number table sheet ≡ pick (eqb (number_in r) 15) 15 (pick (eqb (number_in line) 0) (number_in r) 14)
  unfolding find_number
  find_is r is =
      by (table_ok table) (eqb (first_line sheet).number 0) (has_id (first_line sheet).id (table_lines table))
      ∙ ((λ i. pick (eqb (searched i) 15) 15 (pick (eqb (first_line sheet).number 0) (searched i) 14)) ∙ ap (λ l. pick (eqb (number_in r) 15) 15 (pick (eqb l.number 0) (number_in r) 14)) (sym first))
    where
      searched : pick (table_ok table) (pick (has_id (first_line sheet).id (table_lines table)) 0 16) 15 ≡ number_in r
      searched = sym (told_number r ∙ (ap (λ x. x.number) (same r is) ∙ found_number table (first_line sheet).id))

      by : (t f h : Bool) → ◌≡◌ {A = ℕ} (pick t (pick f (pick h 0 16) 14) 15) (pick (eqb (pick t (pick h 0 16) 15) 15) 15 (pick f (pick t (pick h 0 16) 15) 14))
      by true true true = unfold pick in refl
      by true true false = unfold pick in refl
      by true false true = unfold pick in refl
      by true false false = unfold pick in refl
      by false f h = unfold pick in refl

  pub searched_found : (i : ℕ) → line ≡ Ok i → (f : Place) → found_told (Ok f) ≡ found_in table id → 0 ≡ find_number table sheet
  searched_found i l f is = sym (find_is (Ok f) is ∙ (unfold pick in ap (λ a. pick (eqb (number_in a) 0) 0 14) l))

  -- a refused line 1
  line_14 : (e : Refusal) → line ≡ Err e → number_of e ≡ 14
  unfolding first_line
  line_14 e l = by (line_ok sheet) (sym (ap number_in l) ∙ ap (λ x. x.number) first)
    where
      by : (b : Bool) → number_of e ≡ (pick {A = Line1} b (record { number = 0; id = id_in sheet }) (record { number = 14; id = 0 })).number → number_of e ≡ 14
      by true p = let n : 0 < number_of e = number_of_positive e in absurd (unfold pick in omega (arith, p))
      by false p = unfold pick in p

  unread : (e : Refusal) → line ≡ Err e → (n : ℕ) → (n ≡ 15 → ⊥) → pick (eqb n 15) 15 (pick (eqb (number_in line) 0) n 14) ≡ 14
  unread e l n h =
      pick_false _ _ _ (ne_eqb n 15 h)
      ∙ pick_false _ _ _ (ne_eqb (number_in line) 0 (λ z. let m : number_of e ≡ 0 = sym (ap number_in l) ∙ z in omega (arith, line_14 e l)))

  pub searched_unread : (e : Refusal) → line ≡ Err e → (f : Place) → found_told (Ok f) ≡ found_in table id → number_of e ≡ find_number table sheet
  searched_unread e l f is = line_14 e l ∙ sym (find_is (Ok f) is ∙ unread e l 0 (λ z. omega (arith, z)))

  pub searched_malformed : (e : Refusal) → e ≡ Table → found_told (Err e) ≡ found_in table id → number_of e ≡ find_number table sheet
  searched_malformed e t is = sym (find_is (Err e) is ∙ (pick_true _ _ _ (eq-eqb (number_of e) 15 (ap number_of t)) ∙ sym (ap number_of t)))

  -- an ID that the table has not
  pub searched_unknown : (e : Refusal) → (e ≡ Table → ⊥) → found_told (Err e) ≡ found_in table id → (o : Option Refusal) → o ≡ result_err line → (a : Refusal) → a ≡ unwrap_or o e → number_of a ≡ find_number table sheet
  searched_unknown e h is o from a told = by line refl (told ∙ ap (λ x. unwrap_or x e) from)
    where
      other : number_of e ≡ 15 → ⊥
      other z = h (number_of_unique e Table z)

      by : (b : Result ℕ Refusal) → line ≡ b → a ≡ unwrap_or (result_err b) e → number_of a ≡ find_number table sheet
      by (Ok i) l p = ap number_of p ∙ sym (find_is (Err e) is ∙ (pick_false _ _ _ (ne_eqb (number_of e) 15 other) ∙ pick_true _ _ _ (eq-eqb (number_in line) 0 (ap number_in l))))
      by (Err x) l p = ap number_of p ∙ (line_14 x l ∙ sym (find_is (Err e) is ∙ unread x l (number_of e) other))

-- 17 comes after what finds the record
open_is : (table sheet : List ℕ) → open_number table sheet ≡ pick (eqb (find_number table sheet) 0) (pick (leb (record_of table sheet).words most_program) 0 17) (find_number table sheet)
unfolding open_number find_number
open_is table sheet = by (table_ok table) (eqb (first_line sheet).number 0) (has_id (first_line sheet).id (table_lines table)) (pick (leb (record_of table sheet).words most_program) 0 17)
  where
    by : (t f h : Bool) (n : ℕ) → ◌≡◌ {A = ℕ} (pick t (pick f (pick h n 16) 14) 15) (pick (eqb (pick t (pick f (pick h 0 16) 14) 15) 0) n (pick t (pick f (pick h 0 16) 14) 15))
    by true true true n = unfold pick in refl
    by true true false n = unfold pick in refl
    by true false h n = unfold pick in refl
    by false f h n = unfold pick in refl

-- a record that the programs serve was found
pub open_finds : (table sheet : List ℕ) → open_number table sheet ≡ 0 → find_number table sheet ≡ 0
open_finds table sheet z = by_eq (find_number table sheet) 0 (λ e. e) (λ n. sym (open_is table sheet ∙ pick_false _ _ _ (ne_eqb (find_number table sheet) 0 n)) ∙ z)

module _ (table sheet : List ℕ) where
  pub open_unfound : (e : Refusal) → number_of e ≡ find_number table sheet → number_of e ≡ open_number table sheet
  open_unfound e p =
      let n : 0 < number_of e = number_of_positive e in
      p ∙ sym (open_is table sheet ∙ pick_false _ _ _ (ne_eqb (find_number table sheet) 0 (λ z. omega (arith, p))))

  module _ (found : 0 ≡ find_number table sheet) (f : Place) (is : f ≡ place_of table sheet) where
    sizes : open_number table sheet ≡ pick (leb f.device.words most_program) 0 17
    sizes =
        open_is table sheet ∙ (pick_true _ _ _ (eq-eqb (find_number table sheet) 0 (sym found))
        ∙ ap (λ x. pick (leb x.device.words most_program) 0 17) (sym is))

    pub open_large : most_program < f.device.words → 17 ≡ open_number table sheet
    open_large h = sym (sizes ∙ pick_false _ _ _ (lt-leb f.device.words most_program h))

    pub open_found : f.device.words ≤ most_program → 0 ≡ open_number table sheet
    open_found h = sym (sizes ∙ pick_true _ _ _ (le-leb f.device.words most_program h))

-- two answers of one number are equal, where each has no other value than this
pub answer_fixed : {T : Type 0} (v : T) (a b : Result T Refusal) → number_in a ≡ number_in b → IfOk a (λ x. x ≡ v) → IfOk b (λ x. x ≡ v) → a ≡ b
answer_fixed {T} v a b n p q = answer_unique v a b n (told a p ∙ sym (told b q))
  where
    told : (r : Result T Refusal) → IfOk r (λ x. x ≡ v) → value_in v r ≡ v
    told (Ok x) e = e
    told (Err e) u = refl

-- and so are two openings of one number, each with this place
pub opened_fixed : (v : Place) (a b : Result Place Unopened) → number_told a ≡ number_told b → MatchResult a (λ f. f ≡ v) (λ u. u.found ≡ v) → MatchResult b (λ f. f ≡ v) (λ u. u.found ≡ v) → a ≡ b
opened_fixed v (Ok x) (Ok y) n p q = ap Ok (p ∙ sym q)
opened_fixed v (Ok x) (Err e) n p q = let z : 0 < number_of e.refusal = number_of_positive e.refusal in absurd (omega (arith, n))
opened_fixed v (Err e) (Ok y) n p q = let z : 0 < number_of e.refusal = number_of_positive e.refusal in absurd (omega (arith, n))
opened_fixed v (Err e) (Err f) n p q = λ i. Err (record { refusal = number_of_unique e.refusal f.refusal n i; found = (p ∙ sym q) i })

-- ---- a device that the programs serve

module _ (d : Device) (served : device_up_to most_program d ≡ true) where
  pub served_sound : device_ok d ≡ true
  unfolding device_ok
  served_sound = more_words most_program most_words (omega arith) d served

  pub served_most : d.words ≤ most_program
  served_most = (rules_up_to most_program d served).most

  -- how long its sheet is at most
  pub served_sheet : sheet_length d ≤ 46135
  unfolding sheet_length body_length
  served_sheet = let most : d.words ≤ most_program = served_most in omega arith

-- ---- a record that was found

-- line 1 is not refused; it keeps the rules, and has no more program words than the programs serve
record Opens (table sheet : List ℕ) : Type 0 where
  pub first : (first_line sheet).number ≡ 0
  pub sound : device_ok (record_of table sheet) ≡ true
  pub few : (record_of table sheet).words ≤ most_program
  pub named : name_ok (name_of table sheet) ≡ true

opens : (table sheet : List ℕ) → open_number table sheet ≡ 0 → Opens table sheet
unfolding open_number record_of name_of
opens table sheet z =
    by (table_ok table) (eqb (first_line sheet).number 0) (has_id (first_line sheet).id (table_lines table)) (leb (record_of table sheet).words most_program) z
    (eqb-true (first_line sheet).number 0) (λ t h. (found_sound table (first_line sheet).id t h, found_name table (first_line sheet).id t h))
    (leb-true (record_of table sheet).words most_program)
  where
    Sound : Type 0
    Sound = (device_ok (found_in table (first_line sheet).id).device ≡ true) × (name_ok (name_at table (found_in table (first_line sheet).id)) ≡ true)

    by : (t f h w : Bool) → pick {A = ℕ} t (pick {A = ℕ} f (pick {A = ℕ} h (pick {A = ℕ} w 0 17) 16) 14) 15 ≡ 0
        → (f ≡ true → (first_line sheet).number ≡ 0) → (t ≡ true → h ≡ true → Sound) → (w ≡ true → (record_of table sheet).words ≤ most_program) → Opens table sheet
    by true true true true q j k m = record { first = j refl; sound = (k refl refl).0; few = m refl; named = (k refl refl).1 }
    by true true true false q j k m = absurd (unfold pick in omega (arith, q))
    by true true false w q j k m = absurd (unfold pick in omega (arith, q))
    by true false h w q j k m = absurd (unfold pick in omega (arith, q))
    by false f h w q j k m = absurd (unfold pick in omega (arith, q))

-- the ID of line 1 is the number that stands there
pub opened_id : (table sheet : List ℕ) → open_number table sheet ≡ 0 → (first_line sheet).id ≡ id_in sheet
opened_id table sheet z = id_stands sheet (opens table sheet z).first

pub opened_sound : (table sheet : List ℕ) → open_number table sheet ≡ 0 → device_ok (record_of table sheet) ≡ true
opened_sound table sheet z = (opens table sheet z).sound

-- its name is a table name
pub opened_named : (table sheet : List ℕ) → open_number table sheet ≡ 0 → name_ok (name_of table sheet) ≡ true
opened_named table sheet z = (opens table sheet z).named

-- the name of what is answered
pub name_is : (table sheet : List ℕ) (f : Place) → f ≡ place_of table sheet → take f.name_len (drop f.name_at table) ≡ name_of table sheet
unfolding name_of name_at
name_is table sheet f is = λ i. take (is i).name_len (drop (is i).name_at table)

-- so it is one that the programs serve
pub opened_served : (table sheet : List ℕ) → open_number table sheet ≡ 0 → device_up_to most_program (record_of table sheet) ≡ true
opened_served table sheet z =
    let o : Opens table sheet = opens table sheet z in other_limit most_words most_program (record_of table sheet) (unfold device_ok in o.sound) o.few

module _ (table sheet : List ℕ) (n : ℕ) (e : n ≡ open_number table sheet) (z : n ≡ 0) (d : Device) (f : d ≡ record_of table sheet) where
  pub opened_serves : device_up_to most_program d ≡ true
  opened_serves = ap (device_up_to most_program) f ∙ opened_served table sheet (sym e ∙ z)

  pub opened_most : d.words ≤ most_program
  opened_most = served_most d opened_serves

-- ---- a sheet that is read under a sound record and a name, into a buffer of its length

module _ (d : Device) (sound : device_ok d ≡ true) (name : List ℕ) (named : name_ok name ≡ true) (t b : List ℕ) (long : length b ≡ d.words + reading_tail) (n : ℕ)
    (e : n ≡ read_number d name t b) where
  pub read_number_lem : n ≡ sheet_number d name t
  unfolding read_number pick
  read_number_lem = e ∙ (rw (both (device_ok d) (name_ok name) sound named, eq-eqb (length b) (d.words + reading_tail) long))

  pub sheet_good : n ≡ 0 → sheet_ok d t ≡ true
  sheet_good z = (taken d name t (sym read_number_lem ∙ z)).ok

  pub sheet_words : n ≡ 0 → (b' : List ℕ) → b' ≡ read_buffer d name t b → b' ≡ words_in d.words t
  unfolding read_buffer pick
  sheet_words z b' f = f ∙ (rw (eq-eqb (read_number d name t b) 0 (sym e ∙ z)))
