-- Laws of the lines after line 1: their length, what stands at each place of them, and that reading and writing them undo each other.
use Prim.Native.Nat.{ℕ, zero, suc, ◌+◌, ◌-◌, ◌*◌, ◌/◌, ◌%◌, ◌<◌}
use Rattle.std.proofs.Common.{not-suc-le-zero, le_of_suc-le-suc, add-zero, zero-add, ap, ◌∙◌, length-append, lt-ltb, le-ltb}
use native.Mathlib.Omega.{arith}
use Rattle.std.proofs.Math.Decide.{dec_lt}
use Rattle.std.specs.Prelude.{◌≡◌, refl, Bool, true, ltb, length, get_or}
use Rattle.std.proofs.Math.Path.{sym}
use mathlib.Core.List.{List, [], ◌∷◌, ◌++◌}
use Rattle.numerals.specs.Text.{tab, lf}
use Rattle.numerals.specs.Hex.{capital_of, word_by, word_text}
use Rattle.words.specs.Address.{config_base}
use Rattle.words.specs.LawsChoice.{pick_true, pick_false, both, first_holds, second_holds}
use Rattle.numerals.specs.LawsHex.{length_word_text}
use Rattle.words.specs.LawsLists.{length_build, get_or_build, built}
use Rattle.words.specs.LawsWord.{words_long, words_each}
use Rattle.device.specs.Memory.{reading_tail, reading_ok}
use Rattle.sheet.specs.FirstLine.{same_text}
use Rattle.sheet.specs.Sheet.{fields, line_text, program_lines, body_text, body_length, digits_at, body_words, body_ok}
use Rattle.sheet.specs.LawsStands.{Stands, stands_join, stands_left, stands_right, stands_byte, byte_stands, stands_next, stands_cons, stands_self, word_stands, same_self, same_equal}

-- ---- lengths

pub length_fields : (n i : ℕ) (l : List ℕ) → length (fields n i l) ≡ 5 * n
unfolding fields
length_fields zero i l = refl
length_fields (suc n) i l =
    let rest : length (fields n (i + 1) l) ≡ 5 * n = length_fields n (i + 1) l in
    rw (length-append, length_word_text) (omega arith)

pub length_line : (address n i : ℕ) (l : List ℕ) → length (line_text address n i l) ≡ 5 + 5 * n
unfolding line_text
length_line address n i l = rw (length-append, length_word_text, length-append, length_fields) (omega arith)

pub length_lines : (n k : ℕ) (l : List ℕ) → length (program_lines n k l) ≡ 45 * n
unfolding program_lines
length_lines zero k l = refl
length_lines (suc n) k l =
    let rest : length (program_lines n (k + 1) l) ≡ 45 * n = length_lines n (k + 1) l in
    rw (length-append, length_line) (omega arith)

pub length_body : (words : ℕ) (l : List ℕ) → length (body_text words l) ≡ body_length words
unfolding body_text body_length
length_body words l = rw (length-append, length_lines, length_line) (omega arith)

-- ---- the parts of a line and of the lines, each at its place

-- a line's address, its tabs, its words and its LF
pub record Line (at address count i : ℕ) (l t : List ℕ) : Type 0 where
  pub address_here : Stands at (word_text address) t
  pub tab_here : (k : ℕ) → k < count → get_or t (at + 4 + 5 * k) 0 ≡ tab
  pub word_here : (k : ℕ) → k < count → Stands (at + 4 + 5 * k + 1) (word_text (get_or l (i + k) 0)) t
  pub end_here : get_or t (at + 4 + 5 * count) 0 ≡ lf

-- a field at its place
record Field (at i : ℕ) (l t : List ℕ) : Type 0 where
  tab_here : get_or t at 0 ≡ tab
  word_here : Stands (at + 1) (word_text (get_or l i 0)) t

fields_stand : (n at i : ℕ) (l t : List ℕ) → Stands at (fields n i l) t → (k : ℕ) → k < n → Field (at + 5 * k) (i + k) l t
unfolding fields
fields_stand zero at i l t p k h = absurd (not-suc-le-zero h)
fields_stand (suc n) at i l t p zero h =
    let here : at + 5 * 0 ≡ at = omega arith in
    rw (here, add-zero i)
    (record { tab_here = byte_stands at tab _ t p; word_here = stands_left (at + 1) (word_text (get_or l i 0)) (fields n (i + 1) l) t (stands_next at tab _ t p) })
fields_stand (suc n) at i l t p (suc k) h =
    let place : at + 1 + 4 + 5 * k ≡ at + 5 * suc k = omega arith in
    let entry : i + 1 + k ≡ i + suc k = omega arith in
    let rest : Stands (at + 1 + 4) (fields n (i + 1) l) t = rw length_word_text at (stands_right (at + 1) (word_text (get_or l i 0)) (fields n (i + 1) l) t (stands_next at tab _ t p)) in
    rw (place, entry) at (fields_stand n (at + 1 + 4) (i + 1) l t rest k (le_of_suc-le-suc h))

stand_fields : (n at i : ℕ) (l t : List ℕ) → ((k : ℕ) → k < n → Field (at + 5 * k) (i + k) l t) → Stands at (fields n i l) t
unfolding fields Stands
stand_fields zero at i l t h = tt
stand_fields (suc n) at i l t h =
    let here : at + 5 * 0 ≡ at = omega arith in
    let first : Field at i l t = rw (here, add-zero i) at (h 0 (omega arith)) in
    let more : (k : ℕ) → k < n → Field (at + 1 + 4 + 5 * k) (i + 1 + k) l t = λ k p.
    let place : at + 1 + 4 + 5 * k ≡ at + 5 * suc k = omega arith in
    let entry : i + 1 + k ≡ i + suc k = omega arith in
    rw (place, entry) (h (suc k) (omega arith)) in
    stands_cons at tab (word_text (get_or l i 0) ++ fields n (i + 1) l) t first.tab_here
    (stands_join (at + 1) (word_text (get_or l i 0)) (fields n (i + 1) l) t first.word_here
    (rw length_word_text (stand_fields n (at + 1 + 4) (i + 1) l t more)))

module _ (at address count i : ℕ) (l t : List ℕ) where
  pub line_stands : Stands at (line_text address count i l) t → Line at address count i l t
  unfolding line_text
  line_stands p =
      let rest : Stands (at + 4) (fields count i l ++ lf ∷ []) t = rw length_word_text at (stands_right at (word_text address) (fields count i l ++ lf ∷ []) t p) in
      let body : Stands (at + 4) (fields count i l) t = stands_left (at + 4) (fields count i l) (lf ∷ []) t rest in
      let last : Stands (at + 4 + 5 * count) (lf ∷ []) t = rw length_fields at (stands_right (at + 4) (fields count i l) (lf ∷ []) t rest) in
      record {
        address_here = stands_left at (word_text address) (fields count i l ++ lf ∷ []) t p;
        tab_here = λ k h. (fields_stand count (at + 4) i l t body k h).tab_here;
        word_here = λ k h. (fields_stand count (at + 4) i l t body k h).word_here;
        end_here = byte_stands (at + 4 + 5 * count) lf [] t last;
      }

  pub stand_line : Line at address count i l t → Stands at (line_text address count i l) t
  unfolding line_text
  stand_line p =
      let body : Stands (at + 4) (fields count i l) t = stand_fields count (at + 4) i l t (λ k h. record { tab_here = p.tab_here k h; word_here = p.word_here k h }) in
      stands_join at (word_text address) (fields count i l ++ lf ∷ []) t p.address_here
      (rw length_word_text
      (stands_join (at + 4) (fields count i l) (lf ∷ []) t body
      (rw length_fields (stands_byte (at + 4 + 5 * count) lf t p.end_here))))

lines_stand : (n at k : ℕ) (l t : List ℕ) → Stands at (program_lines n k l) t → (j : ℕ) → j < n → Stands (at + 45 * j) (line_text (8 * (k + j)) 8 (8 * (k + j)) l) t
unfolding program_lines
lines_stand zero at k l t p j h = absurd (not-suc-le-zero h)
lines_stand (suc n) at k l t p zero h =
    let here : at + 45 * 0 ≡ at = omega arith in
    rw (here, add-zero k) (stands_left at (line_text (8 * k) 8 (8 * k) l) (program_lines n (k + 1) l) t p)
lines_stand (suc n) at k l t p (suc j) h =
    let place : at + (5 + 5 * 8) + 45 * j ≡ at + 45 * suc j = omega arith in
    let number : k + 1 + j ≡ k + suc j = omega arith in
    let rest : Stands (at + (5 + 5 * 8)) (program_lines n (k + 1) l) t = rw length_line at (stands_right at (line_text (8 * k) 8 (8 * k) l) (program_lines n (k + 1) l) t p) in
    rw (place, number) at (lines_stand n (at + (5 + 5 * 8)) (k + 1) l t rest j (le_of_suc-le-suc h))

stand_lines : (n at k : ℕ) (l t : List ℕ) → ((j : ℕ) → j < n → Stands (at + 45 * j) (line_text (8 * (k + j)) 8 (8 * (k + j)) l) t) → Stands at (program_lines n k l) t
unfolding program_lines Stands
stand_lines zero at k l t h = tt
stand_lines (suc n) at k l t h =
    let here : at + 45 * 0 ≡ at = omega arith in
    let first : Stands at (line_text (8 * k) 8 (8 * k) l) t = rw (here, add-zero k) at (h 0 (omega arith)) in
    let more : (j : ℕ) → j < n → Stands (at + (5 + 5 * 8) + 45 * j) (line_text (8 * (k + 1 + j)) 8 (8 * (k + 1 + j)) l) t = λ j p.
    let place : at + (5 + 5 * 8) + 45 * j ≡ at + 45 * suc j = omega arith in
    let number : k + 1 + j ≡ k + suc j = omega arith in
    rw (place, number) (h (suc j) (omega arith)) in
    stands_join at (line_text (8 * k) 8 (8 * k) l) (program_lines n (k + 1) l) t first
    (rw length_line (stand_lines n (at + (5 + 5 * 8)) (k + 1) l t more))

-- the program lines and the last line
pub record Parts (words : ℕ) (l t : List ℕ) : Type 0 where
  pub line_here : (k : ℕ) → k < words / 8 → Line (45 * k) (8 * k) 8 (8 * k) l t
  pub last_here : Line (45 * (words / 8)) config_base reading_tail words l t

module _ (words : ℕ) (l t : List ℕ) where
  pub parts_stand : Stands 0 (body_text words l) t → Parts words l t
  unfolding body_text
  parts_stand p =
      let program : Stands 0 (program_lines (words / 8) 0 l) t = stands_left 0 (program_lines (words / 8) 0 l) (line_text config_base reading_tail words l) t p in
      let last : Stands (45 * (words / 8)) (line_text config_base reading_tail words l) t = rw (length_lines, zero-add) at
      (stands_right 0 (program_lines (words / 8) 0 l) (line_text config_base reading_tail words l) t p) in
      record {
        line_here = λ k h. line_stands (45 * k) (8 * k) 8 (8 * k) l t (rw (zero-add, zero-add) at (lines_stand (words / 8) 0 0 l t program k h));
        last_here = line_stands (45 * (words / 8)) config_base reading_tail words l t last;
      }

  pub stand_parts : Parts words l t → Stands 0 (body_text words l) t
  unfolding body_text
  stand_parts p =
      let program : Stands 0 (program_lines (words / 8) 0 l) t =
      stand_lines (words / 8) 0 0 l t (λ k h. rw (zero-add, zero-add) (stand_line (45 * k) (8 * k) 8 (8 * k) l t (p.line_here k h))) in
      let last : Stands (45 * (words / 8)) (line_text config_base reading_tail words l) t = stand_line (45 * (words / 8)) config_base reading_tail words l t p.last_here in
      stands_join 0 (program_lines (words / 8) 0 l) (line_text config_base reading_tail words l) t program (rw (length_lines, zero-add) last)

-- ---- where the words stand

module _ (words : ℕ) where
  -- word k of a program line
  pub digits_program : (line k : ℕ) → k < 8 → 8 * line + k < words → digits_at words (8 * line + k) ≡ 45 * line + 4 + 5 * k + 1
  unfolding digits_at
  digits_program line k p h =
      pick_true (ltb (8 * line + k) words) _ _ (lt-ltb (8 * line + k) words h)
      ∙ (let row : (8 * line + k) / 8 ≡ line = omega arith in
      let column : (8 * line + k) % 8 ≡ k = omega arith in
      rw (row, column) (omega arith))

  -- word k of the last line
  pub digits_last : (k : ℕ) → digits_at words (words + k) ≡ 45 * (words / 8) + 4 + 5 * k + 1
  unfolding digits_at
  digits_last k =
      pick_false (ltb (words + k) words) _ _ (le-ltb (words + k) words (omega arith))
      ∙ omega arith

  pub length_body_words : (t : List ℕ) → length (body_words words t) ≡ words + reading_tail
  unfolding body_words
  length_body_words t = length_build (words + reading_tail) _

  pub word_in : (t : List ℕ) (i : ℕ) → i < words + reading_tail → get_or (body_words words t) i 0 ≡ word_by capital_of t (digits_at words i)
  unfolding body_words
  word_in t i h = get_or_build (words + reading_tail) _ i h

-- ---- what is written is read back, and what is read is written back

module _ (words : ℕ) (eighths : words % 8 ≡ 0) where
  module _ (l t : List ℕ) (parts : Parts words l t) (long : length l ≡ words + reading_tail) (small : (i : ℕ) → get_or l i 0 < 0x4000) where
    -- each word is read where it stands
    word_read : (i : ℕ) → i < words + reading_tail → Dec (i < words) → get_or l i 0 ≡ word_by capital_of t (digits_at words i)
    word_read i h (yes p) =
        let row : i / 8 < words / 8 = omega arith in
        let column : i % 8 < 8 = omega arith in
        let whole : 8 * (i / 8) + i % 8 ≡ i = omega arith in
        let place : digits_at words (8 * (i / 8) + i % 8) ≡ 45 * (i / 8) + 4 + 5 * (i % 8) + 1 = digits_program words (i / 8) (i % 8) column (omega arith) in
        let read : word_by capital_of t (45 * (i / 8) + 4 + 5 * (i % 8) + 1) ≡ get_or l (8 * (i / 8) + i % 8) 0 =
        word_stands t (45 * (i / 8) + 4 + 5 * (i % 8) + 1) (get_or l (8 * (i / 8) + i % 8) 0) ((parts.line_here (i / 8) row).word_here (i % 8) column)
        (let s : get_or l (8 * (i / 8) + i % 8) 0 < 0x4000 = small (8 * (i / 8) + i % 8) in omega arith) in
        sym (ap (λ n. word_by capital_of t (digits_at words n)) (sym whole) ∙ (ap (word_by capital_of t) place ∙ (read ∙ ap (λ n. get_or l n 0) whole)))
    word_read i h (no p) =
        let k : ℕ = i - words in
        let whole : words + k ≡ i = omega arith in
        let read : word_by capital_of t (45 * (words / 8) + 4 + 5 * k + 1) ≡ get_or l (words + k) 0 =
        word_stands t (45 * (words / 8) + 4 + 5 * k + 1) (get_or l (words + k) 0) (parts.last_here.word_here k (omega arith))
        (let s : get_or l (words + k) 0 < 0x4000 = small (words + k) in omega arith) in
        sym (ap (λ n. word_by capital_of t (digits_at words n)) (sym whole) ∙ (ap (word_by capital_of t) (digits_last words k) ∙ (read ∙ ap (λ n. get_or l n 0) whole)))

    read_back : body_words words t ≡ l
    unfolding body_words
    read_back = sym (built l (words + reading_tail) (λ i. word_by capital_of t (digits_at words i)) long (λ i h. word_read i h (dec_lt i words)))

  -- the lines of a reading are those of a sheet, and are read back as that reading
  pub body_read : (l : List ℕ) → reading_ok words l ≡ true → (body_ok words (body_text words l) ≡ true) × (body_words words (body_text words l) ≡ l)
  unfolding reading_ok body_ok
  body_read l ok =
      let t : List ℕ = body_text words l in
      let same : body_words words t ≡ l = read_back l t (parts_stand words l t (stands_self t)) (words_long (words + reading_tail) l ok) (words_each (words + reading_tail) l ok) in
      (rw same (both (reading_ok words l) (same_text t (body_text words l)) ok (same_self t)), same)

module _ (words : ℕ) (t : List ℕ) where
  reads : Bool
  reads = reading_ok words (body_words words t)

  again : Bool
  again = same_text t (body_text words (body_words words t))

  -- the words of a sheet's lines are a reading
  pub body_sound : body_ok words t ≡ true → reading_ok words (body_words words t) ≡ true
  unfolding body_ok reads again
  body_sound e = first_holds reads again e

  -- and are written back as the same lines
  pub body_written : body_ok words t ≡ true → body_text words (body_words words t) ≡ t
  unfolding body_ok reads again
  body_written e = sym (same_equal t (body_text words (body_words words t)) (second_holds reads again e))
