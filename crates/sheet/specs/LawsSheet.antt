-- Laws of a sheet of either form: that reading and writing undo each other, that no text has both forms, and what each refusal says of a text.
use Prim.Native.Nat.{ℕ, ◌+◌, ◌%◌, ◌<◌}
use Rattle.std.proofs.Common.{arith, sym, ◌∙◌, inl, inr, eq-eqb, eqb-true, ne_eqb}
use Rattle.std.specs.Prelude.{◌≡◌, Bool, ◌&&◌, ◌↔◌, ◌⊎◌, eqb, length}
use Rattle.std.proofs.Math.Path.{refl, ap}
use Rattle.std.proofs.Math.Bool.{true, false}
use mathlib.Core.List.{List, ◌++◌}
use Rattle.std.proofs.Math.ListN.{get_or}
use Rattle.std.proofs.Math.Seq.{take-append_seam}
use Rattle.words.specs.Choice.{pick}
use Rattle.words.specs.LawsChoice.{pick_true, pick_false, both, first_holds, second_holds, true_not_false}
use Rattle.words.specs.LawsTests.{by_test, fails}
use Rattle.numerals.specs.Text.{tab, lf}
use Rattle.device.specs.declared.Device.{Device}
use Rattle.device.specs.Record.{device_ok, fits}
use Rattle.device.specs.Memory.{reading_tail, reading_ok}
use Rattle.device.specs.LawsRecord.{rules_lem, words_eighths}
use Rattle.device.specs.LawsId.{fits_word}
use Rattle.table.specs.Table.{name_ok}
use Rattle.judge.specs.Checksum.{checksum_of}
use Rattle.sheet.specs.FirstLine.{same_text, old_line, new_line, id_in, is_new, name_in, sum_in, line_ok, rest_in}
use Rattle.sheet.specs.Sheet.{body_text, body_words, body_ok, sheet_with, new_with, words_in, sheet_ok, name_holds, sum_holds, sheet_number}
use Rattle.sheet.specs.LawsStands.{same_self, same_equal, front_stands}
use Rattle.sheet.specs.LawsFirstLine.{OldRead, NewRead, NewIs, old_read, new_read, new_is, old_whole, new_whole, old_end, new_tab}
use Rattle.sheet.specs.LawsBody.{length_body_words, body_read, body_sound, body_written}

-- ---- what is written is read back

-- a sheet in the old form, read
pub record ReadOld (id : ℕ) (d : Device) (l t : List ℕ) : Type 0 where
  pub ok : sheet_ok d t ≡ true
  pub form : is_new t ≡ false
  pub id_is : id_in t ≡ id
  pub words_are : words_in d.words t ≡ l

-- a sheet in the new form, read
pub record ReadNew (id : ℕ) (name : List ℕ) (sum : ℕ) (d : Device) (l t : List ℕ) : Type 0 where
  pub ok : sheet_ok d t ≡ true
  pub form : is_new t ≡ true
  pub id_is : id_in t ≡ id
  pub name_is : name_in t ≡ name
  pub sum_is : sum_in t ≡ sum
  pub words_are : words_in d.words t ≡ l

module _ (d : Device) (sound : device_ok d ≡ true) (id : ℕ) (good : fits d id ≡ true) (l : List ℕ) (ok : reading_ok d.words l ≡ true) where
  eighths : d.words % 8 ≡ 0
  eighths = words_eighths d (rules_lem d sound)

  -- lines 2 and on, wherever they follow a line 1 with that ID
  sheet_of : (t : List ℕ) → line_ok t ≡ true → id_in t ≡ id → rest_in t ≡ body_text d.words l → (sheet_ok d t ≡ true) × (words_in d.words t ≡ l)
  unfolding sheet_ok words_in
  sheet_of t first is rest =
      let r = body_read d.words eighths l ok in (
        both (line_ok t && fits d (id_in t)) (body_ok d.words (rest_in t)) (both (line_ok t) (fits d (id_in t)) first (ap (fits d) is ∙ good)) (ap (body_ok d.words) rest ∙ r.0),
        ap (body_words d.words) rest ∙ r.1,
      )

  -- the old form, with an ID that fits
  pub written_read : ReadOld id d l (sheet_with id d l)
  unfolding sheet_with
  written_read =
      let t : List ℕ = old_line id ++ body_text d.words l in
      let r : OldRead id (fits_word d id good) (body_text d.words l) t = old_read id (fits_word d id good) (body_text d.words l) in
      let s : (sheet_ok d t ≡ true) × (words_in d.words t ≡ l) = sheet_of t r.line_ok r.id_is r.rest_is in
      record { ok = s.0; form = r.form; id_is = r.id_is; words_are = s.1 }

  -- the new form, with an ID that fits, any name and any sum
  module _ (name : List ℕ) (named : name_ok name ≡ true) (sum : ℕ) (low : sum < 65536) where
    pub new_written_read : ReadNew id name sum d l (new_with id name sum d l)
    unfolding new_with
    new_written_read =
        let t : List ℕ = new_line id name sum ++ body_text d.words l in
        let r : NewRead id (fits_word d id good) name named sum low (body_text d.words l) t = new_read id (fits_word d id good) name named sum low (body_text d.words l) in
        let s : (sheet_ok d t ≡ true) × (words_in d.words t ≡ l) = sheet_of t r.line_ok r.id_is r.rest_is in
        record { ok = s.0; form = r.form; id_is = r.id_is; name_is = r.name_is; sum_is = r.sum_is; words_are = s.1 }

-- ---- what is read is written back

module _ (d : Device) (t : List ℕ) (e : sheet_ok d t ≡ true) where
  pub read_line_1 : line_ok t ≡ true
  unfolding sheet_ok
  read_line_1 = first_holds (line_ok t) (fits d (id_in t)) (first_holds (line_ok t && fits d (id_in t)) (body_ok d.words (rest_in t)) e)

  -- line 1 of a sheet fits the record
  pub read_fits : fits d (id_in t) ≡ true
  unfolding sheet_ok
  read_fits = second_holds (line_ok t) (fits d (id_in t)) (first_holds (line_ok t && fits d (id_in t)) (body_ok d.words (rest_in t)) e)

  pub body_holds : body_ok d.words (rest_in t) ≡ true
  unfolding sheet_ok
  body_holds = second_holds (line_ok t && fits d (id_in t)) (body_ok d.words (rest_in t)) e

  -- a sheet's words are a reading
  pub read_sound : reading_ok d.words (words_in d.words t) ≡ true
  unfolding words_in
  read_sound = body_sound d.words (rest_in t) body_holds

  rest_written : body_text d.words (words_in d.words t) ≡ rest_in t
  unfolding words_in
  rest_written = body_written d.words (rest_in t) body_holds

  -- what is read in the old form is written back as the same bytes, with line 1's ID
  pub read_written : is_new t ≡ false → sheet_with (id_in t) d (words_in d.words t) ≡ t
  unfolding sheet_with
  read_written f = ap (λ r. old_line (id_in t) ++ r) rest_written ∙ old_whole t read_line_1 f

  -- and in the new form, with line 1's ID, name and sum
  pub new_read_written : is_new t ≡ true → new_with (id_in t) (name_in t) (sum_in t) d (words_in d.words t) ≡ t
  unfolding new_with
  new_read_written y = ap (λ r. new_line (id_in t) (name_in t) (sum_in t) ++ r) rest_written ∙ new_whole t read_line_1 y

  -- of which the name is a table name and the sum has four digits
  pub new_read_fields : is_new t ≡ true → NewIs t
  new_read_fields y = new_is t read_line_1 y

pub length_words : (words : ℕ) (t : List ℕ) → length (words_in words t) ≡ words + reading_tail
unfolding words_in
length_words words t = length_body_words words (rest_in t)

-- ---- exactly which texts

-- the sheet of some reading in the old form, with an ID that fits
abbrev pub OldSheet : Device → List ℕ → Type 0
OldSheet d t = (id : ℕ) × (fits d id ≡ true) × (l : List ℕ) × (reading_ok d.words l ≡ true) × (sheet_with id d l ≡ t)

-- the sheet of some reading in the new form, with an ID that fits and this name, and a sum of which something is told
abbrev pub NewSheet : Device → (name : List ℕ) → (List ℕ → ℕ → Type 0) → List ℕ → Type 0
NewSheet d name told t =
    (id : ℕ) × (fits d id ≡ true) × (l : List ℕ) × (reading_ok d.words l ≡ true) × (sum : ℕ) × (sum < 65536) × told l sum × (new_with id name sum d l ≡ t)

-- a text is a sheet in the old form just where it is what is written of some reading with some ID that fits
pub sheet_exactly : (d : Device) → device_ok d ≡ true → (t : List ℕ) → ((sheet_ok d t ≡ true) × (is_new t ≡ false)) ↔ OldSheet d t
sheet_exactly d sound t = (
  (λ e. (id_in t, read_fits d t e.0, words_in d.words t, read_sound d t e.0, read_written d t e.0 e.1)),
  (λ w. let r : ReadOld w.0 d w.2 (sheet_with w.0 d w.2) = written_read d sound w.0 w.1 w.2 w.3 in
      (ap (sheet_ok d) (sym w.4) ∙ r.ok, ap is_new (sym w.4) ∙ r.form)),
)

-- no text has both forms, whatever the records
pub told_apart : (id : ℕ) (d : Device) (l : List ℕ) (id' : ℕ) (name : List ℕ) (sum : ℕ) (d' : Device) (l' : List ℕ) → sheet_with id d l ≡ new_with id' name sum d' l' → ⊥
told_apart id d l id' name sum d' l' e =
    let a : get_or (sheet_with id d l) 4 0 ≡ lf = (unfold sheet_with in old_end id (old_line id ++ body_text d.words l) (front_stands (old_line id) (old_line id ++ body_text d.words l) (take-append_seam (old_line id) (body_text d.words l)))) in
    let b : get_or (new_with id' name sum d' l') 4 0 ≡ tab = (unfold new_with in new_tab id' name sum (new_line id' name sum ++ body_text d'.words l')
    (front_stands (new_line id' name sum) (new_line id' name sum ++ body_text d'.words l') (take-append_seam (new_line id' name sum) (body_text d'.words l')))) in
    let c : get_or (sheet_with id d l) 4 0 ≡ get_or (new_with id' name sum d' l') 4 0 = ap (λ t. get_or t 4 0) e in
    omega (arith, a, b, c)

-- ---- the numbers

-- what each of 0, 18 and 19 says
module _ (d : Device) (name t : List ℕ) where
  pub record Taken : Type 0 where
    pub ok : sheet_ok d t ≡ true
    pub named : name_holds name t ≡ true
    pub summed : sum_holds d t ≡ true

  pub taken : sheet_number d name t ≡ 0 → Taken
  unfolding sheet_number
  taken = by (sheet_ok d t) (name_holds name t) (sum_holds d t) refl refl refl
    where
      by : (a b c : Bool) → sheet_ok d t ≡ a → name_holds name t ≡ b → sum_holds d t ≡ c → pick {A = ℕ} a (pick {A = ℕ} b (pick {A = ℕ} c 0 19) 18) 14 ≡ 0 → Taken
      by true true true p q r z = record { ok = p; named = q; summed = r }
      by true true false p q r z = absurd (unfold pick in omega (arith, z))
      by true false c p q r z = absurd (unfold pick in omega (arith, z))
      by false b c p q r z = absurd (unfold pick in omega (arith, z))

  pub of_taken : Taken → sheet_number d name t ≡ 0
  unfolding sheet_number pick
  of_taken k = rw (k.ok, k.named, k.summed)

  pub other_name : sheet_number d name t ≡ 18 → (sheet_ok d t ≡ true) × (name_holds name t ≡ false)
  unfolding sheet_number
  other_name = by (sheet_ok d t) (name_holds name t) (sum_holds d t) refl refl
    where
      by : (a b c : Bool) → sheet_ok d t ≡ a → name_holds name t ≡ b → pick {A = ℕ} a (pick {A = ℕ} b (pick {A = ℕ} c 0 19) 18) 14 ≡ 18 → (sheet_ok d t ≡ true) × (name_holds name t ≡ false)
      by true true true p q z = absurd (unfold pick in omega (arith, z))
      by true true false p q z = absurd (unfold pick in omega (arith, z))
      by true false c p q z = (p, q)
      by false b c p q z = absurd (unfold pick in omega (arith, z))

  pub of_other_name : (sheet_ok d t ≡ true) → (name_holds name t ≡ false) → sheet_number d name t ≡ 18
  unfolding sheet_number pick
  of_other_name p q = rw (p, q)

  pub other_sum : sheet_number d name t ≡ 19 → (sheet_ok d t ≡ true) × (name_holds name t ≡ true) × (sum_holds d t ≡ false)
  unfolding sheet_number
  other_sum = by (sheet_ok d t) (name_holds name t) (sum_holds d t) refl refl refl
    where
      by : (a b c : Bool) → sheet_ok d t ≡ a → name_holds name t ≡ b → sum_holds d t ≡ c → pick {A = ℕ} a (pick {A = ℕ} b (pick {A = ℕ} c 0 19) 18) 14 ≡ 19
          → (sheet_ok d t ≡ true) × (name_holds name t ≡ true) × (sum_holds d t ≡ false)
      by true true true p q r z = absurd (unfold pick in omega (arith, z))
      by true true false p q r z = (p, q, r)
      by true false c p q r z = absurd (unfold pick in omega (arith, z))
      by false b c p q r z = absurd (unfold pick in omega (arith, z))

  pub of_other_sum : (sheet_ok d t ≡ true) → (name_holds name t ≡ true) → (sum_holds d t ≡ false) → sheet_number d name t ≡ 19
  unfolding sheet_number pick
  of_other_sum p q r = rw (p, q, r)

-- the name and the sum by themselves
module _ (d : Device) (name t : List ℕ) where
  pub old_name : is_new t ≡ false → name_holds name t ≡ true
  unfolding name_holds
  old_name f = pick_false (is_new t) _ _ f

  pub old_sum : is_new t ≡ false → sum_holds d t ≡ true
  unfolding sum_holds
  old_sum f = pick_false (is_new t) _ _ f

  module _ (y : is_new t ≡ true) where
    pub new_name : name_holds name t ≡ same_text (name_in t) name
    unfolding name_holds
    new_name = pick_true (is_new t) _ _ y

    pub new_sum : sum_holds d t ≡ eqb (sum_in t) (checksum_of d (words_in d.words t))
    unfolding sum_holds
    new_sum = pick_true (is_new t) _ _ y

-- what is taken in the new form is written back with line 1's ID, this name and the checksum of its words
pub taken_written : (d : Device) (name t : List ℕ) → sheet_number d name t ≡ 0 → is_new t ≡ true
    → new_with (id_in t) name (checksum_of d (words_in d.words t)) d (words_in d.words t) ≡ t
taken_written d name t z y =
    let k : Taken d name t = taken d name t z in
    let named : name_in t ≡ name = same_equal (name_in t) name (sym (new_name d name t y) ∙ k.named) in
    let summed : sum_in t ≡ checksum_of d (words_in d.words t) = eqb-true _ _ (sym (new_sum d name t y) ∙ k.summed) in
    (λ i. new_with (id_in t) (sym named i) (sym summed i) d (words_in d.words t)) ∙ new_read_written d t k.ok y

pub sum_small : (d : Device) (l : List ℕ) → checksum_of d l < 65536
unfolding checksum_of
sum_small d l = omega arith

module _ (d : Device) (sound : device_ok d ≡ true) (name : List ℕ) (named : name_ok name ≡ true) (t : List ℕ) where
  -- what a sheet in the new form gives
  given : (e : sheet_ok d t ≡ true) → is_new t ≡ true → (other : List ℕ) → name_in t ≡ other → (told : List ℕ → ℕ → Type 0) → told (words_in d.words t) (sum_in t) → NewSheet d other told t
  given e y other is told says = (
    id_in t,
    read_fits d t e,
    words_in d.words t,
    read_sound d t e,
    sum_in t,
    (new_read_fields d t e y).sum_small,
    says,
    ap (λ n. new_with (id_in t) n (sum_in t) d (words_in d.words t)) (sym is) ∙ new_read_written d t e y,
  )

  -- and what is read of one
  taken_as : (other : List ℕ) → name_ok other ≡ true → (told : List ℕ → ℕ → Type 0) → (w : NewSheet d other told t) → ReadNew w.0 other w.4 d w.2 t
  taken_as other ok told w =
      rw w.7 at (new_written_read d sound w.0 w.1 w.2 w.3 other ok w.4 w.5)

  same_name : name_holds name t ≡ true → is_new t ≡ true → name_in t ≡ name
  same_name h y = same_equal (name_in t) name (sym (new_name d name t y) ∙ h)

  -- not refused: the old or the new sheet of some reading with an ID that fits, this name and its checksum
  pub new_exactly : (sheet_number d name t ≡ 0) ↔ (OldSheet d t ⊎ NewSheet d name (λ l sum. sum ≡ checksum_of d l) t)
  new_exactly = (there, back)
    where
      there : sheet_number d name t ≡ 0 → OldSheet d t ⊎ NewSheet d name (λ l sum. sum ≡ checksum_of d l) t
      there z =
          let k : Taken d name t = taken d name t z in
          by_test (is_new t)
          (λ y. inr (given k.ok y name (same_name k.named y) (λ l sum. sum ≡ checksum_of d l) (eqb-true _ _ (sym (new_sum d name t y) ∙ k.summed))))
          (λ f. inl ((sheet_exactly d sound t).0 (k.ok, f)))

      back : OldSheet d t ⊎ NewSheet d name (λ l sum. sum ≡ checksum_of d l) t → sheet_number d name t ≡ 0
      back (inl w) =
          let o : (sheet_ok d t ≡ true) × (is_new t ≡ false) = (sheet_exactly d sound t).1 w in
          of_taken d name t (record { ok = o.0; named = old_name d name t o.1; summed = old_sum d name t o.1 })
      back (inr w) =
          let r : ReadNew w.0 name w.4 d w.2 t = taken_as name named (λ l sum. sum ≡ checksum_of d l) w in
          of_taken d name t (record {
            ok = r.ok;
            named = new_name d name t r.form ∙ (ap (λ n. same_text n name) r.name_is ∙ same_self name);
            summed = new_sum d name t r.form ∙ eq-eqb _ _ (r.sum_is ∙ (w.6 ∙ ap (checksum_of d) (sym r.words_are)));
          })

  -- 18: the new sheet of some reading with an ID that fits, and another name
  pub eighteen_exactly : (sheet_number d name t ≡ 18) ↔ ((other : List ℕ) × (name_ok other ≡ true) × (other ≡ name → ⊥) × NewSheet d other (λ l sum. Unit) t)
  eighteen_exactly = (there, back)
    where
      must : name_holds name t ≡ false → is_new t ≡ true
      must f = by_test (is_new t) (λ y. y) (λ n. absurd (true_not_false (old_name d name t n) f))

      there : sheet_number d name t ≡ 18 → (other : List ℕ) × (name_ok other ≡ true) × (other ≡ name → ⊥) × NewSheet d other (λ l sum. Unit) t
      there z =
          let k : (sheet_ok d t ≡ true) × (name_holds name t ≡ false) = other_name d name t z in
          let y : is_new t ≡ true = must k.1 in (
            name_in t,
            (new_read_fields d t k.0 y).name_ok_lem,
            (λ e. true_not_false (new_name d name t y ∙ (ap (λ n. same_text n name) e ∙ same_self name)) k.1),
            given k.0 y (name_in t) refl (λ l sum. Unit) tt,
          )

      back : ((other : List ℕ) × (name_ok other ≡ true) × (other ≡ name → ⊥) × NewSheet d other (λ l sum. Unit) t) → sheet_number d name t ≡ 18
      back w =
          let r : ReadNew w.3.0 w.0 w.3.4 d w.3.2 t = taken_as w.0 w.1 (λ l sum. Unit) w.3 in
          of_other_name d name t r.ok (fails (name_holds name t) (λ e. w.2 (sym r.name_is ∙ same_name e r.form)))

  -- 19: the new sheet of some reading with an ID that fits, this name, and another sum
  pub nineteen_exactly : (sheet_number d name t ≡ 19) ↔ NewSheet d name (λ l sum. (sum ≡ checksum_of d l → ⊥)) t
  nineteen_exactly = (there, back)
    where
      must : sum_holds d t ≡ false → is_new t ≡ true
      must f = by_test (is_new t) (λ y. y) (λ n. absurd (true_not_false (old_sum d name t n) f))

      there : sheet_number d name t ≡ 19 → NewSheet d name (λ l sum. (sum ≡ checksum_of d l → ⊥)) t
      there z =
          let k : (sheet_ok d t ≡ true) × (name_holds name t ≡ true) × (sum_holds d t ≡ false) = other_sum d name t z in
          let y : is_new t ≡ true = must k.2 in
          given k.0 y name (same_name k.1 y) (λ l sum. (sum ≡ checksum_of d l → ⊥)) (λ e. true_not_false (new_sum d name t y ∙ eq-eqb _ _ e) k.2)

      back : NewSheet d name (λ l sum. (sum ≡ checksum_of d l → ⊥)) t → sheet_number d name t ≡ 19
      back w =
          let r : ReadNew w.0 name w.4 d w.2 t = taken_as name named (λ l sum. (sum ≡ checksum_of d l → ⊥)) w in
          of_other_sum d name t r.ok (new_name d name t r.form ∙ (ap (λ n. same_text n name) r.name_is ∙ same_self name))
          (new_sum d name t r.form ∙ ne_eqb _ _ (λ e. w.6 (sym r.sum_is ∙ (e ∙ ap (checksum_of d) r.words_are))))
