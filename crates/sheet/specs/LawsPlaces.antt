-- The reader's tests of the lines after line 1, place by place in the order of the text, and that together they are the test of these lines.
use Rattle.std.specs.Prelude.{ℕ, ◌+◌, ◌-◌, ◌*◌, ◌/◌, ◌%◌, ◌<◌, ◌≡◌, refl, ◌&&◌, List}
use Rattle.std.proofs.Common.{arith, ◌∙◌}
use Rattle.std.proofs.Math.Decide.{dec_lt}
use Rattle.std.proofs.Math.Path.{sym, ap}
use Rattle.std.proofs.Math.Bool.{Bool, true}
use Rattle.std.proofs.Math.Dec.{eqb}
use Rattle.std.proofs.Math.ListN.{length, get_or}
use borrow.Author.Tests.{eq-eqb, eqb-true}
use Rattle.words.specs.Word.{is_word}
use Rattle.words.specs.Lists.{every}
use Rattle.numerals.specs.Text.{tab, lf}
use Rattle.numerals.specs.Hex.{capital_of, word_by}
use Rattle.words.specs.Address.{config_base}
use Rattle.words.specs.LawsChoice.{both, first_holds, second_holds, same_test}
use Rattle.words.specs.LawsLists.{every_at, every_all}
use Rattle.words.specs.LawsWord.{is_word_lem, word_lt, words_each, words_of_lem}
use Rattle.device.specs.declared.Device.{Device}
use Rattle.device.specs.Record.{device_ok}
use Rattle.device.specs.Memory.{reading_tail, reading_ok}
use Rattle.device.specs.LawsRecord.{Rules, rules_lem, words_eighths}
use Rattle.sheet.specs.FirstLine.{same_text}
use Rattle.sheet.specs.Sheet.{body_text, body_length, body_words, body_ok}
use Rattle.sheet.specs.LawsStands.{stands_self, stands_whole, stands_word, word_stands, same_self}
use Rattle.sheet.specs.LawsBody.{Line, Parts, parts_stand, stand_parts, length_body, digits_program, digits_last, length_body_words, word_in, body_sound, body_written}

-- ---- the tests, in the order of the text

-- a tab and four digits of a word
unfoldable pub field_ok : (text : List ℕ) (at : ℕ) → Bool
field_ok text at = eqb (get_or text at 0) tab && is_word (word_by capital_of text (at + 1))

-- so many of them
unfoldable pub fields_ok : (text : List ℕ) (at count : ℕ) → Bool
fields_ok text at count = every count (λ k. field_ok text (at + 5 * k))

-- an address, so many words, LF
unfoldable pub sheet_line_ok : (text : List ℕ) (at address count : ℕ) → Bool
sheet_line_ok text at address count =
    eqb (word_by capital_of text at) address && fields_ok text (at + 4) count && eqb (get_or text (at + 4 + 5 * count) 0) lf

-- so many program lines
unfoldable pub lines_ok : (text : List ℕ) (lines : ℕ) → Bool
lines_ok text lines = every lines (λ k. sheet_line_ok text (45 * k) (8 * k) 8)

-- the length, the program lines, the last line
unfoldable pub places_ok : (words : ℕ) (text : List ℕ) → Bool
places_ok words text =
    eqb (length text) (45 * (words / 8) + 50)
    && lines_ok text (words / 8)
    && sheet_line_ok text (45 * (words / 8)) config_base reading_tail

-- ---- a line's tests and its parts

-- what a field's test tells
pub record FieldIs (text : List ℕ) (at : ℕ) : Type 0 where
  pub tab_here : get_or text at 0 ≡ tab
  pub word_small : word_by capital_of text (at + 1) < 0x4000

module _ (t : List ℕ) (at : ℕ) where
  pub field_is : field_ok t at ≡ true → FieldIs t at
  unfolding field_ok
  field_is e =
      record {
        tab_here = eqb-true (get_or t at 0) tab (first_holds (eqb (get_or t at 0) tab) (is_word (word_by capital_of t (at + 1))) e);
        word_small = word_lt (word_by capital_of t (at + 1)) (second_holds (eqb (get_or t at 0) tab) (is_word (word_by capital_of t (at + 1))) e);
      }

  pub is_field : FieldIs t at → field_ok t at ≡ true
  unfolding field_ok
  is_field p =
      both (eqb (get_or t at 0) tab) (is_word (word_by capital_of t (at + 1))) (eq-eqb (get_or t at 0) tab p.tab_here) (is_word_lem (word_by capital_of t (at + 1)) p.word_small)

-- what a line's test tells
pub record LineIs (text : List ℕ) (at address count : ℕ) : Type 0 where
  pub address_is : word_by capital_of text at ≡ address
  pub field_here : (k : ℕ) → k < count → FieldIs text (at + 4 + 5 * k)
  pub end_here : get_or text (at + 4 + 5 * count) 0 ≡ lf

module _ (t : List ℕ) (at address count : ℕ) where
  start : Bool
  start = eqb (word_by capital_of t at) address

  stop : Bool
  stop = eqb (get_or t (at + 4 + 5 * count) 0) lf

  pub line_is : sheet_line_ok t at address count ≡ true → LineIs t at address count
  unfolding sheet_line_ok fields_ok start stop
  line_is e =
      let two : (start && fields_ok t (at + 4) count) ≡ true = first_holds (start && fields_ok t (at + 4) count) stop e in
      record {
        address_is = eqb-true (word_by capital_of t at) address (first_holds start (fields_ok t (at + 4) count) two);
        field_here = λ k h. field_is t (at + 4 + 5 * k) (every_at count (λ j. field_ok t (at + 4 + 5 * j)) (second_holds start (fields_ok t (at + 4) count) two) k h);
        end_here = eqb-true (get_or t (at + 4 + 5 * count) 0) lf (second_holds (start && fields_ok t (at + 4) count) stop e);
      }

  pub is_line : LineIs t at address count → sheet_line_ok t at address count ≡ true
  unfolding sheet_line_ok fields_ok
  is_line p =
      rw (
        eq-eqb (word_by capital_of t at) address p.address_is,
        eq-eqb (get_or t (at + 4 + 5 * count) 0) lf p.end_here,
        every_all count (λ k. field_ok t (at + 4 + 5 * k)) (λ k h. is_field t (at + 4 + 5 * k) (p.field_here k h)),
      )

  module _ (i : ℕ) (l : List ℕ) (below : address < 65536) where
    pub parts_of_line : LineIs t at address count → ((k : ℕ) → k < count → word_by capital_of t (at + 4 + 5 * k + 1) ≡ get_or l (i + k) 0) → Line at address count i l t
    parts_of_line p words =
        record {
          address_here = stands_word t at address p.address_is below;
          tab_here = λ k h. (p.field_here k h).tab_here;
          word_here = λ k h.
              stands_word t (at + 4 + 5 * k + 1) (get_or l (i + k) 0) (words k h)
              (let s : word_by capital_of t (at + 4 + 5 * k + 1) < 0x4000 = (p.field_here k h).word_small in
              let e : word_by capital_of t (at + 4 + 5 * k + 1) ≡ get_or l (i + k) 0 = words k h in
              omega arith);
          end_here = p.end_here;
        }

    pub line_of_parts : Line at address count i l t → ((k : ℕ) → get_or l k 0 < 0x4000) → LineIs t at address count
    line_of_parts p small =
        record {
          address_is = word_stands t at address p.address_here below;
          field_here = λ k h. record {
            tab_here = p.tab_here k h;
            word_small =
                let s : get_or l (i + k) 0 < 0x4000 = small (i + k) in
                let e : word_by capital_of t (at + 4 + 5 * k + 1) ≡ get_or l (i + k) 0 = word_stands t (at + 4 + 5 * k + 1) (get_or l (i + k) 0) (p.word_here k h) (omega arith) in
                omega arith;
          };
          end_here = p.end_here;
        }

-- ---- the tests together, and the test of a sheet's lines

-- what the tests tell
pub record Places (words : ℕ) (text : List ℕ) : Type 0 where
  pub long : length text ≡ 45 * (words / 8) + 50
  pub line_here : (k : ℕ) → k < words / 8 → LineIs text (45 * k) (8 * k) 8
  pub last_here : LineIs text (45 * (words / 8)) config_base reading_tail

module _ (words : ℕ) (t : List ℕ) where
  pub places : places_ok words t ≡ true → Places words t
  unfolding places_ok lines_ok
  places e =
      let one : Bool = eqb (length t) (45 * (words / 8) + 50) in
      let two : Bool = one && lines_ok t (words / 8) in
      let last : Bool = sheet_line_ok t (45 * (words / 8)) config_base reading_tail in
      let e2 : two ≡ true = first_holds two last e in
      record {
        long = eqb-true (length t) (45 * (words / 8) + 50) (first_holds one (lines_ok t (words / 8)) e2);
        line_here = λ k h. line_is t (45 * k) (8 * k) 8 (every_at (words / 8) (λ j. sheet_line_ok t (45 * j) (8 * j) 8) (second_holds one (lines_ok t (words / 8)) e2) k h);
        last_here = line_is t (45 * (words / 8)) config_base reading_tail (second_holds two last e);
      }

  pub of_places : Places words t → places_ok words t ≡ true
  unfolding places_ok lines_ok
  of_places p =
      rw (
        eq-eqb (length t) (45 * (words / 8) + 50) p.long,
        every_all (words / 8) (λ k. sheet_line_ok t (45 * k) (8 * k) 8) (λ k h. is_line t (45 * k) (8 * k) 8 (p.line_here k h)),
        is_line t (45 * (words / 8)) config_base reading_tail p.last_here,
      )

module _ (d : Device) (sound : device_ok d ≡ true) (t : List ℕ) where
  read : List ℕ
  read = body_words d.words t

  kept : Rules d
  kept = rules_lem d sound

  eighths : d.words % 8 ≡ 0
  eighths = words_eighths d kept

  -- the word in a field, by its entry
  program_word : (line k : ℕ) → line < d.words / 8 → k < 8 → word_by capital_of t (45 * line + 4 + 5 * k + 1) ≡ get_or read (8 * line + k) 0
  unfolding read
  program_word line k p h =
      let e : d.words % 8 ≡ 0 = eighths in
      sym (word_in d.words t (8 * line + k) (omega arith) ∙ ap (word_by capital_of t) (digits_program d.words line k h (omega arith)))

  last_word : (k : ℕ) → k < reading_tail → word_by capital_of t (45 * (d.words / 8) + 4 + 5 * k + 1) ≡ get_or read (d.words + k) 0
  unfolding read
  last_word k h = sym (word_in d.words t (d.words + k) (omega arith) ∙ ap (word_by capital_of t) (digits_last d.words k))

  -- each word of a text that passes the tests
  small : Places d.words t → (i : ℕ) → i < d.words + reading_tail → Dec (i < d.words) → get_or read i 0 < 0x4000
  small p i h (yes q) =
      let e : d.words % 8 ≡ 0 = eighths in
      let whole : 8 * (i / 8) + i % 8 ≡ i = omega arith in
      let row : i / 8 < d.words / 8 = omega arith in
      let column : i % 8 < 8 = omega arith in
      rw (ap (λ n. get_or read n 0) whole) at
      (rw (program_word (i / 8) (i % 8) row column) at ((p.line_here (i / 8) row).field_here (i % 8) column).word_small)
  small p i h (no q) =
      let whole : d.words + (i - d.words) ≡ i = omega arith in
      let column : i - d.words < reading_tail = omega arith in
      rw (ap (λ n. get_or read n 0) whole) at
      (rw (last_word (i - d.words) column) at (p.last_here.field_here (i - d.words) column).word_small)

  passes : Places d.words t → body_ok d.words t ≡ true
  unfolding body_ok reading_ok read
  passes p =
      let r : Rules d = kept in
      let e : d.words % 8 ≡ 0 = eighths in
      let parts : Parts d.words read t = record {
        line_here = λ k h. parts_of_line t (45 * k) (8 * k) 8 (8 * k) read (omega arith) (p.line_here k h) (λ j q. program_word k j h q);
        last_here = parts_of_line t (45 * (d.words / 8)) config_base reading_tail d.words read (omega arith) p.last_here last_word;
      } in
      let long : length t ≡ length (body_text d.words read) = p.long ∙ sym (length_body d.words read ∙ (unfold body_length in refl)) in
      let same : t ≡ body_text d.words read = stands_whole (body_text d.words read) t (stand_parts d.words read t parts) long in
      both (reading_ok d.words read) (same_text t (body_text d.words read))
      (words_of_lem (d.words + reading_tail) read (length_body_words d.words t) (λ i h. small p i h (dec_lt i d.words)))
      (ap (same_text t) (sym same) ∙ same_self t)

  stands : body_ok d.words t ≡ true → Places d.words t
  unfolding reading_ok read
  stands ok =
      let r : Rules d = kept in
      let each : (i : ℕ) → get_or read i 0 < 0x4000 = words_each (d.words + reading_tail) read (body_sound d.words t ok) in
      let same : body_text d.words read ≡ t = body_written d.words t ok in
      let parts : Parts d.words read t = parts_stand d.words read t (rw same (stands_self t)) in
      record {
        long = ap length (sym same) ∙ (length_body d.words read ∙ (unfold body_length in refl));
        line_here = λ k h. line_of_parts t (45 * k) (8 * k) 8 (8 * k) read (omega arith) (parts.line_here k h) each;
        last_here = line_of_parts t (45 * (d.words / 8)) config_base reading_tail d.words read (omega arith) parts.last_here each;
      }

  -- the tests, place by place, are the test of a sheet's lines
  pub places_body : places_ok d.words t ≡ body_ok d.words t
  places_body = same_test (places_ok d.words t) (body_ok d.words t) (λ e. passes (places d.words t e)) (λ e. of_places d.words t (stands e))
