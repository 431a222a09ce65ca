-- Laws of the reader: what each test of the code and each turn of its loops comes to, what is stored, and the answers.
use Rattle.std.specs.Prelude.{ℕ, ◌+◌, ◌-◌, ◌*◌, ◌/◌, ◌%◌, ◌≤◌, ◌<◌, ◌≡◌, refl, Some, None, Option, Result, Ok, Bool, true, not, ◌&&◌, List, [], ◌∷◌, ◌++◌, ltb, length, get_or, set, take, replicate}
use Rattle.std.specs.Option.{option_eq}
use Rattle.std.specs.Cmp.Lexicographic.{pointwise}
use Rattle.std.proofs.Common.{le_antisymm, zero-add, arith, ◌∙◌, length-append, take_at, length-take-le}
use Rattle.std.proofs.Math.Path.{sym, ap}
use Rattle.std.proofs.Math.Bool.{false}
use Rattle.std.proofs.Math.Dec.{eqb}
use Rattle.std.proofs.lemmas.List.{length-replicate}
use borrow.Author.Tests.{eq-eqb, eqb-true, ne_eqb, lt-ltb, le-ltb}
use Rattle.words.specs.Choice.{pick, below}
use Rattle.words.specs.Word.{is_word}
use Rattle.words.specs.Lists.{overlay}
use Rattle.numerals.specs.Text.{tab, lf}
use Rattle.numerals.specs.Hex.{capital_of, word_by}
use Rattle.words.specs.Address.{config_base}
use Rattle.words.specs.LawsChoice.{pick_true, pick_false, both, first_fails, second_fails, true_not_false}
use Rattle.words.specs.LawsTests.{fails, by_lt}
use Rattle.words.specs.LawsLists.{every_none, every_more, every_no, get_d_past, same_entries, length_overlay, overlay_inside, overlay_none, overlay_more}
use Rattle.words.specs.LawsWord.{words_each}
use Rattle.device.specs.declared.Device.{Device}
use Rattle.device.specs.Record.{most_words, device_ok, fits, record_number}
use Rattle.device.specs.Memory.{reading_tail, reading_ok}
use Rattle.device.specs.LawsRecord.{Rules, keeps, breaks, judged_good, judged_bad as record_bad}
use Rattle.table.specs.Table.{name_ok}
use Rattle.table.specs.LawsLine.{below_low, below_high, below_none, below_some}
use Rattle.refusal.specs.declared.Refusal.{Refusal}
use Rattle.judge.specs.Checksum.{checksum_of, summed, sum_told}
use Rattle.judge.specs.LawsChecksum.{sum_there}
use Rattle.sheet.specs.FirstLine.{same_text, id_in, is_new, line_ok, rest_in}
use Rattle.sheet.specs.Sheet.{digits_at, body_words, body_ok, words_in, sheet_ok, name_holds, sheet_number, read_number, read_buffer}
use Rattle.sheet.specs.LawsFirstLine.{HeadOf, LabelOf}
use Rattle.sheet.specs.LawsBody.{length_body_words, word_in, body_sound}
use Rattle.sheet.specs.LawsPlaces.{field_ok, fields_ok, sheet_line_ok, lines_ok, places_ok, places_body}
use Rattle.sheet.specs.LawsSheet.{read_line_1, read_fits, read_sound, taken, of_taken, of_other_name, of_other_sum, old_name, old_sum, new_name, new_sum}

-- ---- the tests as the code makes them

-- a byte that is none past the end
pub byte_past : (t : List ℕ) (at c : ℕ) → length t ≤ at → 0 < c → false ≡ eqb (get_or t at 0) c
byte_past t at c h p = sym (ne_eqb (get_or t at 0) c (λ e. let z : get_or t at 0 ≡ 0 = get_d_past t at h in omega arith))

not_true : (b : Bool) → true ≡ not b → b ≡ false
not_true true e = e
not_true false e = refl

not_false : (b : Bool) → false ≡ not b → b ≡ true
not_false true e = refl
not_false false e = e

-- a number of four digits held against an address
module _ (w address : ℕ) (read : Option ℕ) (e : read ≡ below 65536 w) where
  pub address_no : address < 65536 → true ≡ not (option_eq eqb read (Some address)) → w ≡ address → ⊥
  address_no h n q =
      let s : below 65536 w ≡ Some address = below_low 65536 w (rw q h) ∙ ap Some q in
      let same : option_eq eqb read (Some address) ≡ eqb address address = ap (λ o. option_eq eqb o (Some address)) (e ∙ s) in
      true_not_false (same ∙ eq-eqb address address refl) (not_true _ n)

  pub address_is : false ≡ not (option_eq eqb read (Some address)) → w ≡ address
  address_is n =
      let same : option_eq eqb (below 65536 w) (Some address) ≡ true = ap (λ o. option_eq eqb o (Some address)) (sym e) ∙ not_false _ n in
      by_lt w 65536
      (λ h. eqb-true w address (ap (λ o. option_eq eqb o (Some address)) (sym (below_low 65536 w h)) ∙ same))
      (λ h. absurd (true_not_false same (ap (λ o. option_eq eqb o (Some address)) (below_high 65536 w h))))

module _ (t : List ℕ) (at : ℕ) where
  pub field_no_word : below 65536 (word_by capital_of t (at + 1)) ≡ None → false ≡ field_ok t at
  unfolding field_ok is_word
  field_no_word e = let h = below_none 65536 _ e in rw (le-ltb (word_by capital_of t (at + 1)) 0x4000 (omega arith)) (sym (second_fails (eqb (get_or t at 0) tab) false refl))

  pub field_word : eqb (get_or t at 0) tab ≡ true → (w : ℕ) → below 65536 (word_by capital_of t (at + 1)) ≡ Some w → ltb w 0x4000 ≡ field_ok t at
  unfolding field_ok is_word
  field_word e w s = rw (e, ← (below_some 65536 _ w s).1)

module _ (t : List ℕ) (at address count : ℕ) where
  pub line_no_address : (word_by capital_of t at ≡ address → ⊥) → false ≡ sheet_line_ok t at address count
  unfolding sheet_line_ok
  line_no_address n = rw (ne_eqb (word_by capital_of t at) address n)

  module _ (e : word_by capital_of t at ≡ address) where
    pub line_end : fields_ok t (at + 4) count ≡ true → eqb (get_or t (at + 4 + 5 * count) 0) lf ≡ sheet_line_ok t at address count
    unfolding sheet_line_ok
    line_end f = rw (eq-eqb (word_by capital_of t at) address e, f)

module _ (words : ℕ) (t : List ℕ) where
  pub places_long : (length t ≡ 45 * (words / 8) + 50 → ⊥) → false ≡ places_ok words t
  unfolding places_ok
  places_long n = rw (ne_eqb (length t) (45 * (words / 8) + 50) n)

  module _ (long : length t ≡ 45 * (words / 8) + 50) where
    pub places_no_lines : lines_ok t (words / 8) ≡ false → false ≡ places_ok words t
    unfolding places_ok
    places_no_lines f = rw (eq-eqb (length t) (45 * (words / 8) + 50) long, f)

    pub places_last : lines_ok t (words / 8) ≡ true → sheet_line_ok t (45 * (words / 8)) config_base reading_tail ≡ places_ok words t
    unfolding places_ok
    places_last f = rw (eq-eqb (length t) (45 * (words / 8) + 50) long, f)

-- ---- what is stored

-- every word of the buffer replaced
pub all_stored : (words : ℕ) (t l : List ℕ) → length l ≡ words + reading_tail → overlay 0 (words + reading_tail) (λ i. word_by capital_of t (digits_at words i)) l ≡ body_words words t
all_stored words t l e =
    let f : ℕ → ℕ = λ i. word_by capital_of t (digits_at words i) in
    same_entries (overlay 0 (words + reading_tail) f l) (body_words words t) (length_overlay 0 (words + reading_tail) f l ∙ (e ∙ sym (length_body_words words t)))
    (λ i h. let p : i < words + reading_tail = rw (length_overlay, e) at h in
    overlay_inside 0 (words + reading_tail) f l i (omega arith) (omega arith) (omega arith) ∙ sym (word_in words t i p))

-- a sheet's words fit where they are stored
pub stored_small : (words : ℕ) (t : List ℕ) → reading_ok words (body_words words t) ≡ true → (i : ℕ) → i < words + reading_tail → word_by capital_of t (digits_at words i) < 0x4000
unfolding reading_ok
stored_small words t ok i h = rw (word_in words t i h) at (words_each (words + reading_tail) (body_words words t) ok i)

-- and so they are there
pub stored_there : (words : ℕ) (t : List ℕ) → reading_ok words (body_words words t) ≡ true → (i : ℕ) → i < words + reading_tail → (at : ℕ) → at ≡ digits_at words i
    → below 65536 (word_by capital_of t at) ≡ Some (word_by capital_of t (digits_at words i))
stored_there words t ok i h at e = rw e (below_low 65536 (word_by capital_of t (digits_at words i)) (let s = stored_small words t ok i h in omega arith))

-- where the code looks for word i
pub digits_low : (words i : ℕ) → i < words → 45 * (i / 8) + 5 * (i % 8) + 5 ≡ digits_at words i
unfolding digits_at
digits_low words i h = sym (pick_true (ltb i words) _ _ (lt-ltb i words h))

pub digits_high : (words i : ℕ) → words ≤ i → 45 * (words / 8) + 5 * (i - words) + 5 ≡ digits_at words i
unfolding digits_at
digits_high words i h = sym (pick_false (ltb i words) _ _ (le-ltb i words h))

-- ---- two texts compared

-- the code's comparison is that of the definitions
same_is : (a b : List ℕ) → pointwise eqb a b ≡ same_text a b
unfolding same_text
same_is [] [] = refl
same_is [] (c ∷ m) = refl
same_is (c ∷ l) [] = refl
same_is (c ∷ l) (b ∷ m) = ap (λ t. eqb c b && t) (same_is l m)

-- ---- the answers

module _ (d : Device) (name t : List ℕ) where
  judged_bad : sheet_ok d t ≡ false → 14 ≡ sheet_number d name t
  unfolding sheet_number pick
  judged_bad f = rw f

  pub text_no_line : line_ok t ≡ false → 14 ≡ sheet_number d name t
  text_no_line f = judged_bad (fails (sheet_ok d t) (λ e. true_not_false (read_line_1 d t e) f))

  module _ (id : ℕ) (rest : List ℕ) (h : HeadOf t id rest) where
    pub text_no_fit : fits d id ≡ false → 14 ≡ sheet_number d name t
    text_no_fit f = judged_bad (fails (sheet_ok d t) (λ e. true_not_false (ap (fits d) h.id_is ∙ read_fits d t e) f))

    module _ (sound : Rules d) where
      body_is : places_ok d.words rest ≡ body_ok d.words rest
      body_is = places_body d (keeps d sound) rest

      pub text_no_body : places_ok d.words rest ≡ false → 14 ≡ sheet_number d name t
      text_no_body f =
          judged_bad (unfold sheet_ok in second_fails (line_ok t && fits d (id_in t)) (body_ok d.words (rest_in t)) (ap (body_ok d.words) (sym h.rest_is) ∙ (sym body_is ∙ f)))

      module _ (fit : fits d id ≡ true) (body : places_ok d.words rest ≡ true) where
        pub text_body : body_ok d.words rest ≡ true
        text_body = sym body_is ∙ body

        pub text_good : sheet_ok d t ≡ true
        unfolding sheet_ok
        text_good =
            both (line_ok t && fits d (id_in t)) (body_ok d.words (rest_in t))
            (both (line_ok t) (fits d (id_in t)) h.ok (ap (fits d) (sym h.id_is) ∙ fit)) (ap (body_ok d.words) (sym h.rest_is) ∙ text_body)

        pub text_old : is_new t ≡ false → 0 ≡ sheet_number d name t
        text_old o = sym (of_taken d name t (record { ok = text_good; named = old_name d name t o; summed = old_sum d name t o }))

        -- the name and the sum of the new form
        module _ (label : List ℕ) (sum : ℕ) (l : LabelOf t label sum) where
          named : name_holds name t ≡ pointwise eqb label name
          named = new_name d name t l.new ∙ (ap (λ n. same_text n name) (sym l.name_is) ∙ sym (same_is label name))

          pub text_18 : true ≡ not (pointwise eqb label name) → 18 ≡ sheet_number d name t
          text_18 n = sym (of_other_name d name t text_good (named ∙ not_true _ n))

          module _ (e : false ≡ not (pointwise eqb label name)) (own : ℕ) (o : own ≡ checksum_of d (body_words d.words rest)) where
            own_is : own ≡ checksum_of d (words_in d.words t)
            unfolding words_in
            own_is = o ∙ ap (λ b. checksum_of d (body_words d.words b)) h.rest_is

            pub text_19 : (own ≡ sum → ⊥) → 19 ≡ sheet_number d name t
            text_19 n =
                sym (of_other_sum d name t text_good (named ∙ not_false _ e)
                (new_sum d name t l.new ∙ ne_eqb _ _ (λ q. n (own_is ∙ (sym q ∙ sym l.sum_is)))))

            pub text_0 : own ≡ sum → 0 ≡ sheet_number d name t
            text_0 q =
                sym (of_taken d name t (record {
                  ok = text_good;
                  named = named ∙ not_false _ e;
                  summed = new_sum d name t l.new ∙ eq-eqb _ _ (sym l.sum_is ∙ (sym q ∙ own_is));
                }))

-- words stored aside, in a buffer of the most words
abbrev pub longest_reading : ℕ
longest_reading = most_words + reading_tail

module _ (d : Device) (sound : Rules d) where
  pub aside_room : d.words + reading_tail ≤ length (replicate {A = ℕ} longest_reading 0)
  aside_room = let few : d.words ≤ most_words = sound.most in rw (length-replicate {A = ℕ} longest_reading 0) (omega arith)

  pub aside_long : length (take (d.words + reading_tail) (replicate {A = ℕ} longest_reading 0)) ≡ d.words + reading_tail
  aside_long = length-take-le (d.words + reading_tail) (replicate {A = ℕ} longest_reading 0) aside_room

  module _ (body : List ℕ) (good : body_ok d.words body ≡ true) (words : List ℕ) (stored : words ≡ body_words d.words body) (rest : List ℕ) where
    count : length words ≡ d.words + reading_tail
    count = ap length stored ∙ length_body_words d.words body

    pub stored_within : d.words + reading_tail ≤ length (words ++ rest)
    stored_within = rw (length-append words rest) (omega (arith, count))

    pub stored_long : length (take (d.words + reading_tail) (words ++ rest)) ≡ d.words + reading_tail
    stored_long = length-take-le (d.words + reading_tail) (words ++ rest) stored_within

    -- and their checksum
    pub sum_of_stored : (r : Result ℕ Refusal) → sum_told r ≡ summed d (take (d.words + reading_tail) (words ++ rest)) → r ≡ Ok (checksum_of d (body_words d.words body))
    sum_of_stored r e =
        let these : take (d.words + reading_tail) (words ++ rest) ≡ body_words d.words body = take_at words rest (d.words + reading_tail) count ∙ stored in
        sum_there d (body_words d.words body) (keeps d sound) (body_sound d.words body good) r (e ∙ ap (summed d) these)

-- what a call leaves: its number and the buffer
abbrev pub ReadBy : Device → (name text buffer : List ℕ) → (number : ℕ) → List ℕ → Type 0
ReadBy d name t b number after = (number ≡ read_number d name t b) × (after ≡ read_buffer d name t b)

module _ (d : Device) (name t b : List ℕ) where
  judged_13 : (device_ok d && name_ok name) ≡ false → ReadBy d name t b 13 b
  unfolding read_number read_buffer pick
  judged_13 f = (rw f, rw f)

  pub read_no_record : (n : ℕ) → 0 < n → n ≡ record_number d → ReadBy d name t b n b
  read_no_record n h e =
      let bad : Rules d → ⊥ = λ r. let z : 0 ≡ record_number d = judged_good d r in omega arith in
      let same : n ≡ 13 = e ∙ sym (record_bad d bad) in
      rw same (judged_13 (first_fails (device_ok d) (name_ok name) (breaks d bad)))

  pub read_no_name : name_ok name ≡ false → ReadBy d name t b 13 b
  read_no_name f = judged_13 (second_fails (device_ok d) (name_ok name) f)

  module _ (sound : Rules d) (named : name_ok name ≡ true) where
    good : (device_ok d && name_ok name) ≡ true
    good = both (device_ok d) (name_ok name) (keeps d sound) named

    pub read_no_room : (length b ≡ d.words + reading_tail → ⊥) → ReadBy d name t b 12 b
    unfolding read_number read_buffer pick
    read_no_room n =
        let f : eqb (length b) (d.words + reading_tail) ≡ false = ne_eqb (length b) (d.words + reading_tail) n in
        (rw (good, f), rw (good, f))

    module _ (room : length b ≡ d.words + reading_tail) where
      number_is : read_number d name t b ≡ sheet_number d name t
      unfolding read_number pick
      number_is = rw (good, eq-eqb (length b) (d.words + reading_tail) room)

      pub read_refused : (number : ℕ) → number ≡ sheet_number d name t → 0 < number → ReadBy d name t b number b
      unfolding read_buffer
      read_refused number e h = (e ∙ sym number_is, sym (pick_false _ _ _ (ne_eqb (read_number d name t b) 0 (λ z. let same : number ≡ 0 = e ∙ (sym number_is ∙ z) in omega arith))))

      -- the lines that are stored
      module _ (e : 0 ≡ sheet_number d name t) (lines : List ℕ) (cut : lines ≡ rest_in t) where
        read_good : sheet_ok d t ≡ true
        read_good = (taken d name t (sym e)).ok

        pub read_lines : reading_ok d.words (body_words d.words lines) ≡ true
        read_lines = ap (λ x. reading_ok d.words (body_words d.words x)) cut ∙ (unfold words_in in read_sound d t read_good)

        pub read_all : (after : List ℕ) → after ≡ body_words d.words lines → ReadBy d name t b 0 after
        unfolding read_buffer words_in
        read_all after f = (
          e ∙ sym number_is,
          f ∙ (ap (body_words d.words) cut ∙ sym (pick_true _ _ _ (eq-eqb (read_number d name t b) 0 (number_is ∙ sym e)))),
        )

-- ---- the turns of the loops

module _ (t : List ℕ) (at : ℕ) where
  pub fields_none : fields_ok t at 0 ≡ true
  unfolding fields_ok
  fields_none = every_none (λ k. field_ok t (at + 5 * k))

  module _ (k : ℕ) where
    pub fields_more : fields_ok t at k ≡ true → field_ok t (at + 5 * k) ≡ true → fields_ok t at (k + 1) ≡ true
    unfolding fields_ok
    fields_more p q = every_more k (λ j. field_ok t (at + 5 * j)) p q

    pub fields_no : (count : ℕ) → k < count → field_ok t (at + 5 * k) ≡ false → false ≡ fields_ok t at count
    unfolding fields_ok
    fields_no count h f = sym (every_no count (λ j. field_ok t (at + 5 * j)) k h f)

module _ (t : List ℕ) where
  pub lines_none : lines_ok t 0 ≡ true
  unfolding lines_ok
  lines_none = every_none (λ k. sheet_line_ok t (45 * k) (8 * k) 8)

  module _ (k : ℕ) where
    pub lines_more : lines_ok t k ≡ true → sheet_line_ok t (45 * k) (8 * k) 8 ≡ true → lines_ok t (k + 1) ≡ true
    unfolding lines_ok
    lines_more p q = every_more k (λ j. sheet_line_ok t (45 * j) (8 * j) 8) p q

    pub lines_no : (lines : ℕ) → k < lines → sheet_line_ok t (45 * k) (8 * k) 8 ≡ false → false ≡ lines_ok t lines
    unfolding lines_ok
    lines_no lines h f = sym (every_no lines (λ j. sheet_line_ok t (45 * j) (8 * j) 8) k h f)

-- the words stored so far
unfoldable pub stored : (words : ℕ) (text : List ℕ) (count : ℕ) (buffer : List ℕ) → List ℕ
stored words t count l = overlay 0 count (λ i. word_by capital_of t (digits_at words i)) l

module _ (words : ℕ) (t l : List ℕ) where
  pub stored_none : l ≡ stored words t 0 l
  unfolding stored
  stored_none = sym (overlay_none 0 (λ i. word_by capital_of t (digits_at words i)) l)

  pub stored_more : (i : ℕ) (m : List ℕ) (at v : ℕ) → m ≡ stored words t i l → at ≡ digits_at words i → v ≡ word_by capital_of t at → set m i v ≡ stored words t (i + 1) l
  unfolding stored
  stored_more i m at v e p q =
      rw (zero-add i) at (overlay_more 0 i (λ k. word_by capital_of t (digits_at words k)) l m v e (q ∙ (ap (word_by capital_of t) p ∙ ap (λ k. word_by capital_of t (digits_at words k)) (sym (zero-add i)))))

  pub stored_end : length l ≡ words + reading_tail → (i : ℕ) (m : List ℕ) → i ≤ words + reading_tail → words + reading_tail ≤ i → m ≡ stored words t i l → m ≡ body_words words t
  unfolding stored
  stored_end long i m p q e = e ∙ (ap (λ k. overlay 0 k (λ j. word_by capital_of t (digits_at words j)) l) (le_antisymm p q) ∙ all_stored words t l long)
