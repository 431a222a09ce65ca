-- Laws of the words that a read-back answered: their lines, place by place, are the test of the whole text; and what is printed of a reading is read as it.
use Rattle.std.specs.Prelude.{ℕ, zero, suc, ◌+◌, ◌*◌, ◌≤◌, ◌<◌, ◌≡◌, refl, Bool, false, ◌&&◌, Some, None, ltb, List, [], ◌∷◌, length, get_or}
use Rattle.std.proofs.Common.{le_of_suc-le-suc, not-suc-le-zero, zero-add, arith, ap, ◌∙◌, length-append, eq-eqb, ne_eqb, eqb-true}
use Rattle.std.proofs.Math.Path.{sym}
use Rattle.std.proofs.Math.Bool.{true}
use Rattle.std.proofs.Math.Dec.{eqb}
use Rattle.words.specs.Word.{is_word}
use Rattle.words.specs.Lists.{every}
use Rattle.words.specs.LawsChoice.{both, first_holds, second_holds, first_fails, same_test}
use Rattle.words.specs.LawsLists.{length_build, get_or_build, built, every_none, every_more, every_no, every_at, every_all}
use Rattle.words.specs.LawsWord.{is_word_lem, not_word, word_lt, words_of_lem}
use Rattle.words.specs.Choice.{below}
use borrow.Author.Tests.{le-ltb}
use Rattle.table.specs.LawsLine.{below_none, below_some}
use Rattle.numerals.specs.Text.{lf}
use Rattle.numerals.specs.Hex.{capital_of, word_by, word_text}
use Rattle.numerals.specs.LawsHex.{length_word_text}
use Rattle.device.specs.Memory.{reading_tail, reading_ok}
use Rattle.device.specs.LawsMemory.{reading_long, reading_each}
use Rattle.sheet.specs.FirstLine.{same_text}
use Rattle.sheet.specs.LawsStands.{same_self, same_equal, Stands, stands_join, stands_left, stands_right, byte_stands, stands_next, stands_cons, stands_self, stands_whole, stands_word, word_stands}
use Rattle.gathers.specs.Gather.{answer_text, answers_in, answers_ok}

-- ---- the tests, in the order of the text

-- four digits of a word, and LF
unfoldable pub answer_ok : (text : List ℕ) (at : ℕ) → Bool
answer_ok text at = is_word (word_by capital_of text at) && eqb (get_or text (at + 4) 0) lf

-- so many lines
unfoldable pub answers_to : (text : List ℕ) (count : ℕ) → Bool
answers_to text count = every count (λ k. answer_ok text (5 * k))

-- what the code reads of a line
module _ (t : List ℕ) (at : ℕ) where
  no_word : 0x4000 ≤ word_by capital_of t at → false ≡ answer_ok t at
  unfolding answer_ok
  no_word h = sym (first_fails (is_word (word_by capital_of t at)) _ (not_word (word_by capital_of t at) h))

  pub line_unread : None ≡ below 65536 (word_by capital_of t at) → false ≡ answer_ok t at
  line_unread e = let h : 65536 ≤ word_by capital_of t at = below_none 65536 _ (sym e) in no_word (omega arith)

  module _ (word : ℕ) (e : Some word ≡ below 65536 (word_by capital_of t at)) where
    read_is : word_by capital_of t at ≡ word
    read_is = (below_some 65536 _ word (sym e)).1

    pub line_no_word : 0x4000 ≤ word → ltb word 0x4000 ≡ answer_ok t at
    line_no_word h = le-ltb word 0x4000 h ∙ no_word (omega (arith, read_is))

    pub line_end : word < 0x4000 → eqb (get_or t (at + 4) 0) lf ≡ answer_ok t at
    unfolding answer_ok
    line_end h = rw (is_word_lem (word_by capital_of t at) (omega (arith, read_is)))

module _ (t : List ℕ) where
  pub lines_none : answers_to t 0 ≡ true
  unfolding answers_to
  lines_none = every_none (λ k. answer_ok t (5 * k))

  module _ (k : ℕ) where
    pub lines_more : answers_to t k ≡ true → answer_ok t (5 * k) ≡ true → answers_to t (k + 1) ≡ true
    unfolding answers_to
    lines_more p q = every_more k (λ j. answer_ok t (5 * j)) p q

    pub lines_no : (count : ℕ) → k < count → answer_ok t (5 * k) ≡ false → false ≡ answers_to t count
    unfolding answers_to
    lines_no count h f = sym (every_no count (λ j. answer_ok t (5 * j)) k h f)

-- ---- the lines of a list of words, each at its place

pub length_answers : (l : List ℕ) → length (answer_text l) ≡ 5 * length l
unfolding answer_text
length_answers [] = refl
length_answers (w ∷ l) =
    let rest : length (answer_text l) ≡ 5 * length l = length_answers l in
    rw (length-append, length_word_text) (omega arith)

-- a word's digits and its LF
record LineAt (at w : ℕ) (t : List ℕ) : Type 0 where
  word_here : Stands at (word_text w) t
  end_here : get_or t (at + 4) 0 ≡ lf

lines_stand : (l : List ℕ) (at : ℕ) (t : List ℕ) → Stands at (answer_text l) t → (k : ℕ) → k < length l → LineAt (at + 5 * k) (get_or l k 0) t
unfolding answer_text
lines_stand [] at t p k h = absurd (not-suc-le-zero h)
lines_stand (w ∷ l) at t p zero h =
    let here : at + 5 * 0 ≡ at = omega arith in
    rw here
    (record {
      word_here = stands_left at (word_text w) (lf ∷ answer_text l) t p;
      end_here = byte_stands (at + 4) lf (answer_text l) t (rw length_word_text at (stands_right at (word_text w) (lf ∷ answer_text l) t p));
    })
lines_stand (w ∷ l) at t p (suc k) h =
    let place : at + 4 + 1 + 5 * k ≡ at + 5 * suc k = omega arith in
    let rest : Stands (at + 4 + 1) (answer_text l) t = stands_next (at + 4) lf (answer_text l) t (rw length_word_text at (stands_right at (word_text w) (lf ∷ answer_text l) t p)) in
    rw place at (lines_stand l (at + 4 + 1) t rest k (le_of_suc-le-suc h))

stand_lines : (l : List ℕ) (at : ℕ) (t : List ℕ) → ((k : ℕ) → k < length l → LineAt (at + 5 * k) (get_or l k 0) t) → Stands at (answer_text l) t
unfolding answer_text Stands
stand_lines [] at t h = tt
stand_lines (w ∷ l) at t h =
    let here : at + 5 * 0 ≡ at = omega arith in
    let first : LineAt at w t = rw here at (h 0 (omega arith)) in
    let more : (k : ℕ) → k < length l → LineAt (at + 4 + 1 + 5 * k) (get_or l k 0) t = λ k p.
    let place : at + 4 + 1 + 5 * k ≡ at + 5 * suc k = omega arith in
    rw place (h (suc k) (omega arith)) in
    stands_join at (word_text w) (lf ∷ answer_text l) t first.word_here
    (rw length_word_text (stands_cons (at + 4) lf (answer_text l) t first.end_here (stand_lines l (at + 4 + 1) t more)))

-- ---- the words in a text

module _ (words : ℕ) (t : List ℕ) where
  pub length_in : length (answers_in words t) ≡ words + reading_tail
  unfolding answers_in
  length_in = length_build (words + reading_tail) _

  pub answer_in : (i : ℕ) → i < words + reading_tail → get_or (answers_in words t) i 0 ≡ word_by capital_of t (5 * i)
  unfolding answers_in
  answer_in i h = get_or_build (words + reading_tail) _ i h

  pub answers_sound : answers_ok words t ≡ true → reading_ok words (answers_in words t) ≡ true
  unfolding answers_ok
  answers_sound e = first_holds (reading_ok words (answers_in words t)) (same_text t (answer_text (answers_in words t))) e

  pub answers_written : answers_ok words t ≡ true → answer_text (answers_in words t) ≡ t
  unfolding answers_ok
  answers_written e =
      sym (same_equal t (answer_text (answers_in words t))
      (second_holds (reading_ok words (answers_in words t)) (same_text t (answer_text (answers_in words t))) e))

-- ---- the tests and the test of the text

-- the length and the lines
unfoldable pub places_ok : (words : ℕ) (text : List ℕ) → Bool
places_ok words text = eqb (length text) (5 * (words + reading_tail)) && answers_to text (words + reading_tail)

module _ (words : ℕ) (t : List ℕ) where
  read : List ℕ
  read = answers_in words t

  passes : length t ≡ 5 * (words + reading_tail) → answers_to t (words + reading_tail) ≡ true → answers_ok words t ≡ true
  unfolding answers_ok reading_ok answers_to answer_ok read
  passes long ok = both (reading_ok words read) (same_text t (answer_text read)) good (ap (same_text t) (sym same) ∙ same_self t)
    where
      line : (k : ℕ) → k < words + reading_tail → (is_word (word_by capital_of t (5 * k)) && eqb (get_or t (5 * k + 4) 0) lf) ≡ true
      line k h = every_at (words + reading_tail) (λ j. answer_ok t (5 * j)) ok k h

      small : (k : ℕ) → k < words + reading_tail → get_or read k 0 < 0x4000
      small k h = rw (answer_in words t k h) (word_lt (word_by capital_of t (5 * k)) (first_holds (is_word (word_by capital_of t (5 * k))) _ (line k h)))

      good : reading_ok words read ≡ true
      good = words_of_lem (words + reading_tail) read (length_in words t) small

      at_each : (k : ℕ) → k < length read → LineAt (0 + 5 * k) (get_or read k 0) t
      at_each k h =
          let p : k < words + reading_tail = rw (length_in words t) at h in
          let s : get_or read k 0 < 0x4000 = small k p in
          rw (zero-add (5 * k))
          (record {
            word_here = stands_word t (5 * k) (get_or read k 0) (sym (answer_in words t k p)) (omega arith);
            end_here = eqb-true (get_or t (5 * k + 4) 0) lf (second_holds (is_word (word_by capital_of t (5 * k))) _ (line k p));
          })

      same : t ≡ answer_text read
      same = stands_whole (answer_text read) t (stand_lines read 0 t at_each) (long ∙ sym (length_answers read ∙ ap (λ n. 5 * n) (length_in words t)))

  -- each line of what is printed of words
  line_of : (l : List ℕ) → Stands 0 (answer_text l) t → (k : ℕ) → k < length l → get_or l k 0 < 0x4000 → (word_by capital_of t (5 * k) ≡ get_or l k 0) × (get_or t (5 * k + 4) 0 ≡ lf)
  line_of l p k h small =
      let here : LineAt (5 * k) (get_or l k 0) t = rw (zero-add (5 * k)) at (lines_stand l 0 t p k h) in
      (word_stands t (5 * k) (get_or l k 0) here.word_here (omega arith), here.end_here)

  stands : answers_ok words t ≡ true → places_ok words t ≡ true
  unfolding places_ok answers_to answer_ok read
  stands ok =
      both (eqb (length t) (5 * (words + reading_tail))) (answers_to t (words + reading_tail)) (eq-eqb (length t) (5 * (words + reading_tail)) long)
      (every_all (words + reading_tail) (λ k. answer_ok t (5 * k)) at_each)
    where
      same : answer_text read ≡ t
      same = answers_written words t ok

      long : length t ≡ 5 * (words + reading_tail)
      long = ap length (sym same) ∙ (length_answers read ∙ ap (λ n. 5 * n) (length_in words t))

      at_each : (k : ℕ) → k < words + reading_tail → (is_word (word_by capital_of t (5 * k)) && eqb (get_or t (5 * k + 4) 0) lf) ≡ true
      at_each k h =
          let s : get_or read k 0 < 0x4000 = reading_each words read (answers_sound words t ok) k in
          let q : k < length read = rw (length_in words t) h in
          let here : (word_by capital_of t (5 * k) ≡ get_or read k 0) × (get_or t (5 * k + 4) 0 ≡ lf) = line_of read (rw same (stands_self t)) k q s in
          both (is_word (word_by capital_of t (5 * k))) (eqb (get_or t (5 * k + 4) 0) lf) (ap is_word here.0 ∙ is_word_lem (get_or read k 0) s) (eq-eqb (get_or t (5 * k + 4) 0) lf here.1)

  places_answers : places_ok words t ≡ answers_ok words t
  places_answers =
      same_test (places_ok words t) (answers_ok words t)
      (λ e. unfold places_ok in passes (eqb-true (length t) (5 * (words + reading_tail)) (first_holds (eqb (length t) (5 * (words + reading_tail))) _ e))
      (second_holds (eqb (length t) (5 * (words + reading_tail))) (answers_to t (words + reading_tail)) e))
      stands

  pub answers_long : (length t ≡ 5 * (words + reading_tail) → ⊥) → false ≡ answers_ok words t
  unfolding places_ok
  answers_long n = sym (first_fails (eqb (length t) (5 * (words + reading_tail))) (answers_to t (words + reading_tail)) (ne_eqb (length t) (5 * (words + reading_tail)) n)) ∙ places_answers

  pub answers_lines : length t ≡ 5 * (words + reading_tail) → answers_to t (words + reading_tail) ≡ answers_ok words t
  unfolding places_ok
  answers_lines long = sym (rw (eq-eqb (length t) (5 * (words + reading_tail)) long)) ∙ places_answers

-- ---- what is printed of a reading is read back as it

pub answers_read : (words : ℕ) (l : List ℕ) → reading_ok words l ≡ true → (answers_ok words (answer_text l) ≡ true) × (answers_in words (answer_text l) ≡ l)
answers_read words l ok = (fine, same)
  where
    t : List ℕ
    t = answer_text l

    same : answers_in words t ≡ l
    same = unfold answers_in in sym (built l (words + reading_tail) (λ i. word_by capital_of t (5 * i)) (reading_long words l ok)
        (λ i h. sym (line_of words t l (stands_self t) i (rw (reading_long words l ok) h) (reading_each words l ok i)).0))

    fine : answers_ok words t ≡ true
    fine = unfold answers_ok in rw same (both (reading_ok words l) (same_text t (answer_text l)) ok (same_self t))
