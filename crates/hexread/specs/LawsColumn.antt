-- What a column tells: of one line, where a reading stands at r, and of a text.
use Prim.Native.Nat.{ℕ, suc, ◌+◌, ◌-◌, ◌*◌, ◌/◌, ◌%◌, ◌≤◌, ◌<◌}
use Rattle.std.proofs.Math.Decide.{ℕ_discrete}
use native.Mathlib.Omega.{arith}
use Rattle.std.specs.Prelude.{◌≡◌, ◌⊎◌, Bool, ◌&&◌, List, [], ◌∷◌, eqb, length, get_or, take}
use Rattle.std.proofs.Math.Path.{refl, ap}
use Rattle.std.proofs.Common.{sym, ◌∙◌, inl, inr, eq-eqb, ne_eqb}
use Rattle.std.proofs.Math.Bool.{true, false}
use Rattle.std.proofs.Math.Dec.{leb}
use Rattle.words.specs.Choice.{pick}
use Rattle.words.specs.LawsChoice.{decided, both}
use Rattle.device.specs.declared.Device.{Device}
use Rattle.device.specs.Record.{device_ok}
use Rattle.device.specs.Memory.{reading_tail}
use Rattle.numerals.specs.Hex.{digit_of, byte_by}
use Rattle.lines.specs.Lines.{lines_of}
use Rattle.hexread.specs.Line.{byte_at, count_of, type_of, line_number}
use Rattle.hexread.specs.Step.{word_of, word_number, Reading, give_words, record_step, line_refused, line_step}
use Rattle.hexread.specs.Column.{bad_column, refused_word, word_column, column_of, line_column}
use Rattle.hexread.specs.Reader.{most_text, Outcome, refused_at, read_lines, begun, text_read}
use Rattle.hexread.specs.LawsStand.{FirstBad, first_bad, record_byte}
use Rattle.hexread.specs.LawsReader.{lines_on, lines_stop, lines_whole, lines_open, refused_number, refused_line, refused_column}
use Rattle.hexread.specs.LawsFault.{at_character, at_word}
use Rattle.hexread.specs.LawsTaken.{WordRefused, word_refused, line_number_most, sound_record}
use Rattle.hexread.specs.LawsLines.{step_all, all_taken}

-- ---- one line

-- the word of a record at which it is refused: those before it are given, and its low byte stands at the column
pub record WordAt (words : ℕ) (line : List ℕ) (r : Reading) (column : ℕ) : Type 0 where
  pub word : ℕ
  pub within : word < count_of line / 2
  pub given : (give_words words r.upper line r.image 0 word).number ≡ 0
  pub refused : word_number words r.upper line (give_words words r.upper line r.image 0 word).image word ≡ (line_step words line r).number
  pub low : byte_by digit_of line (column - 1) ≡ word_of line word % 256

module _ (words : ℕ) (line : List ℕ) (r : Reading) where
  pub column_first : (line_step words line r).number ≡ 2 → FirstBad line (line_column words line r)
  unfolding line_column
  column_first e = rw (at_character (line_step words line r).number line _ e) (first_bad line)

  record_words : (7 ≤ (record_step words line r).number) → (record_step words line r).number ≡ (give_words words r.upper line r.image 0 (count_of line / 2)).number
  unfolding record_step
  record_words = by (eqb (type_of line) 0) (eqb (type_of line) 1)
    where
      by : (t u : Bool)
          → 7 ≤ (pick t (give_words words r.upper line r.image 0 (count_of line / 2))
          (pick u (record { ended = true; upper = r.upper; image = r.image; number = 0 })
          (record { ended = false; upper = 256 * byte_at line 4 + byte_at line 5; image = r.image; number = 0 }))).number
          → (pick t (give_words words r.upper line r.image 0 (count_of line / 2))
          (pick u (record { ended = true; upper = r.upper; image = r.image; number = 0 })
          (record { ended = false; upper = 256 * byte_at line 4 + byte_at line 5; image = r.image; number = 0 }))).number
          ≡ (give_words words r.upper line r.image 0 (count_of line / 2)).number
      by true u h = unfold pick in refl
      by false true h = absurd (unfold pick in omega arith)
      by false false h = absurd (unfold pick in omega arith)

  -- 7 to 9 come of the words of a sound record
  step_words : r.number ≡ 0 → 7 ≤ (line_step words line r).number → (line_step words line r).number ≤ 9
      → (line_number line ≡ 0) × ((line_step words line r).number ≡ (give_words words r.upper line r.image 0 (count_of line / 2)).number)
  unfolding line_step line_refused
  step_words z = by (eqb (length line) 0) r.ended (ℕ_discrete (line_number line) 0)
    where
      by : (t u : Bool) → Dec (line_number line ≡ 0)
          → 7 ≤ (pick t r (pick u (line_refused 11 r) (pick (eqb (line_number line) 0) (record_step words line r) (line_refused (line_number line) r)))).number
          → (pick t r (pick u (line_refused 11 r) (pick (eqb (line_number line) 0) (record_step words line r) (line_refused (line_number line) r)))).number ≤ 9
          → (line_number line ≡ 0)
          × ((pick t r (pick u (line_refused 11 r) (pick (eqb (line_number line) 0) (record_step words line r) (line_refused (line_number line) r)))).number
          ≡ (give_words words r.upper line r.image 0 (count_of line / 2)).number)
      by true u e h k = absurd (unfold pick in omega arith)
      by false true e h k = absurd (unfold pick in omega arith)
      by false false (yes e) h k = (e, unfold pick in rw (eq-eqb (line_number line) 0 e) (record_words (rw (eq-eqb (line_number line) 0 e) at h)))
      by false false (no e) h k = absurd (let m : line_number line ≤ 6 = line_number_most line in let l : 7 ≤ line_number line = (unfold pick in rw (ne_eqb (line_number line) 0 e) at h) in omega arith)

  low_byte : line_number line ≡ 0 → (m : ℕ) → m < count_of line / 2 → byte_by digit_of line (word_column m - 1) ≡ word_of line m % 256
  unfolding word_of byte_at word_column
  low_byte e m h =
      let at : 10 + 4 * m - 1 ≡ 1 + 2 * (4 + 2 * m) = omega arith in
      let small : byte_at line (4 + 2 * m) < 256 = record_byte line (sound_record line e) (4 + 2 * m) (omega arith) in
      rw at (omega arith)

  column_at : 7 ≤ (line_step words line r).number → (line_step words line r).number ≤ 9
      → line_column words line r ≡ word_column (refused_word words r.upper line r.image 0 (count_of line / 2))
  unfolding line_column
  column_at least most = at_word (line_step words line r).number line _ least most

  pub column_word : r.number ≡ 0 → 7 ≤ (line_step words line r).number → (line_step words line r).number ≤ 9 → WordAt words line r (line_column words line r)
  column_word z least most = by (step_words z least most)
    where
      told : line_number line ≡ 0 → (line_step words line r).number ≡ (give_words words r.upper line r.image 0 (count_of line / 2)).number
          → (m : ℕ) × WordRefused words r.upper line r.image 0 (count_of line / 2) m → WordAt words line r (line_column words line r)
      told e n (m, t) =
          let here : 0 + m ≡ m = omega arith in
          let column : line_column words line r ≡ word_column m = column_at least most ∙ ap word_column (t.place ∙ here) in
          record { word = m; within = t.within; given = t.given; refused = (rw here at t.refused) ∙ sym n; low = rw column (low_byte e m t.within) }

      by : (line_number line ≡ 0) × ((line_step words line r).number ≡ (give_words words r.upper line r.image 0 (count_of line / 2)).number) → WordAt words line r (line_column words line r)
      by (e, n) = told e n (word_refused words r.upper line (count_of line / 2) 0 r.image (λ y. let k : (line_step words line r).number ≡ 0 = n ∙ y in omega arith))

  -- a refused line has a column
  pub column_some : ((line_step words line r).number ≡ 0 → ⊥) → 1 ≤ line_column words line r
  unfolding line_column column_of bad_column word_column
  column_some n = rw (ne_eqb (line_step words line r).number 0 n) (by (eqb (line_step words line r).number 2) (leb 7 (line_step words line r).number && leb (line_step words line r).number 9))
    where
      by : (t u : Bool) → 1 ≤ pick false 0 (pick t (bad_column line) (pick u (word_column (refused_word words r.upper line r.image 0 (count_of line / 2))) 1))
      by true u = unfold pick in omega arith
      by false true = unfold pick in omega arith
      by false false = unfold pick in omega arith

-- ---- a text

-- the column is 0 exactly where the line is
abbrev Zero : Outcome → Type 0
Zero o = (o.column ≡ 0 → o.line ≡ 0) × (o.line ≡ 0 → o.column ≡ 0)

no_line : (o : Outcome) → o.line ≡ 0 → o.column ≡ 0 → Zero o
no_line o l c = ((λ e. l), (λ e. c))

refused_zero : (words number line column : ℕ) → 1 ≤ line → 1 ≤ column → Zero (refused_at words number line column)
unfolding refused_at
refused_zero words number line column l c = ((λ e. absurd (omega arith)), (λ e. absurd (omega arith)))

lines_zero : (words : ℕ) (ls : List (List ℕ)) (k : ℕ) (r : Reading) → 1 ≤ k → Zero (read_lines words ls k r)
lines_zero words [] k r h = by (decided r.ended)
  where
    by : (r.ended ≡ true) ⊎ (r.ended ≡ false) → Zero (read_lines words [] k r)
    by (inl t) = rw (lines_whole words k r t) (no_line (record { number = 0; line = 0; column = 0; image = r.image }) refl refl)
    by (inr f) = rw (lines_open words k r f) (no_line (refused_at words 10 0 0) (refused_line words 10 0 0) (refused_column words 10 0 0))
lines_zero words (l ∷ ls) k r h = by (ℕ_discrete (line_step words l r).number 0) (lines_zero words ls (k + 1) (line_step words l r) (omega arith))
  where
    by : Dec ((line_step words l r).number ≡ 0) → Zero (read_lines words ls (k + 1) (line_step words l r)) → Zero (read_lines words (l ∷ ls) k r)
    by (yes e) rest = rw (lines_on words l ls k r e) rest
    by (no e) rest = rw (lines_stop words l ls k r e) (refused_zero words _ k _ h (column_some words l r e))

pub column_zero : (d : Device) (text image : List ℕ) → ((text_read d text image).column ≡ 0 → (text_read d text image).line ≡ 0) × ((text_read d text image).line ≡ 0 → (text_read d text image).column ≡ 0)
unfolding text_read
column_zero d text image = by (device_ok d) (eqb (length image) (d.words + reading_tail)) (leb (length text) most_text)
  where
    by : (t u v : Bool)
        → Zero (pick t (pick u (pick v (read_lines d.words (lines_of text) 1 (begun d.words)) (refused_at d.words 1 0 0)) (record { number = 12; line = 0; column = 0; image = image }))
        (record { number = 13; line = 0; column = 0; image = image }))
    by true true true = unfold pick in lines_zero d.words (lines_of text) 1 (begun d.words) (omega arith)
    by true true false = unfold pick in no_line (refused_at d.words 1 0 0) (refused_line d.words 1 0 0) (refused_column d.words 1 0 0)
    by true false v = unfold pick in no_line (record { number = 12; line = 0; column = 0; image = image }) refl refl
    by false u v = unfold pick in no_line (record { number = 13; line = 0; column = 0; image = image }) refl refl

-- a refused line of many: number and column are those of this line alone, where the lines before it lead
pub record LineTold (words : ℕ) (ls : List (List ℕ)) (k : ℕ) (r : Reading) (o : Outcome) : Type 0 where
  pub place : ℕ
  pub within : place < length ls
  pub line_is : o.line ≡ k + place
  pub before : all_taken words (take place ls) r ≡ true
  pub going : (step_all words (take place ls) r).number ≡ 0
  pub number_is : o.number ≡ (line_step words (get_or ls place []) (step_all words (take place ls) r)).number
  pub column_is : o.column ≡ line_column words (get_or ls place []) (step_all words (take place ls) r)

module _ (words : ℕ) (l : List ℕ) (ls : List (List ℕ)) (k : ℕ) (r : Reading) where
  told_here : r.number ≡ 0 → ((line_step words l r).number ≡ 0 → ⊥) → LineTold words (l ∷ ls) k r (read_lines words (l ∷ ls) k r)
  unfolding step_all all_taken
  told_here z n =
      let stop = lines_stop words l ls k r n in
      record {
        place = 0;
        within = omega arith;
        line_is = ap (λ o. o.line) stop ∙ (refused_line words _ k _ ∙ omega arith);
        before = refl;
        going = z;
        number_is = ap (λ o. o.number) stop ∙ refused_number words _ k _;
        column_is = ap (λ o. o.column) stop ∙ refused_column words _ k _;
      }

  told_later : (line_step words l r).number ≡ 0 → LineTold words ls (k + 1) (line_step words l r) (read_lines words ls (k + 1) (line_step words l r))
      → LineTold words (l ∷ ls) k r (read_lines words (l ∷ ls) k r)
  unfolding step_all all_taken
  told_later e t =
      let on = lines_on words l ls k r e in
      record {
        place = suc t.place;
        within = omega (arith, t.within);
        line_is = ap (λ o. o.line) on ∙ (t.line_is ∙ omega arith);
        before = both (eqb (line_step words l r).number 0) _ (eq-eqb (line_step words l r).number 0 e) t.before;
        going = t.going;
        number_is = ap (λ o. o.number) on ∙ t.number_is;
        column_is = ap (λ o. o.column) on ∙ t.column_is;
      }

lines_told : (words : ℕ) (ls : List (List ℕ)) (k : ℕ) (r : Reading) → r.number ≡ 0 → ((read_lines words ls k r).line ≡ 0 → ⊥) → LineTold words ls k r (read_lines words ls k r)
lines_told words [] k r z n = by (decided r.ended)
  where
    by : (r.ended ≡ true) ⊎ (r.ended ≡ false) → LineTold words [] k r (read_lines words [] k r)
    by (inl t) = absurd (n (ap (λ o. o.line) (lines_whole words k r t)))
    by (inr f) = absurd (n (ap (λ o. o.line) (lines_open words k r f) ∙ refused_line words 10 0 0))
lines_told words (l ∷ ls) k r z n = by (ℕ_discrete (line_step words l r).number 0) (lines_told words ls (k + 1) (line_step words l r))
  where
    by : Dec ((line_step words l r).number ≡ 0)
        → ((line_step words l r).number ≡ 0 → ((read_lines words ls (k + 1) (line_step words l r)).line ≡ 0 → ⊥) → LineTold words ls (k + 1) (line_step words l r) (read_lines words ls (k + 1) (line_step words l r)))
        → LineTold words (l ∷ ls) k r (read_lines words (l ∷ ls) k r)
    by (yes e) rest = told_later words l ls k r e (rest e (λ y. n (ap (λ o. o.line) (lines_on words l ls k r e) ∙ y)))
    by (no e) rest = told_here words l ls k r z e

pub line_told : (d : Device) (text image : List ℕ) → ((text_read d text image).line ≡ 0 → ⊥) → LineTold d.words (lines_of text) 1 (begun d.words) (text_read d text image)
unfolding text_read
line_told d text image = by (device_ok d) (eqb (length image) (d.words + reading_tail)) (leb (length text) most_text)
  where
    outcome : (t u v : Bool) → Outcome
    outcome t u v =
        pick t (pick u (pick v (read_lines d.words (lines_of text) 1 (begun d.words)) (refused_at d.words 1 0 0)) (record { number = 12; line = 0; column = 0; image = image }))
        (record { number = 13; line = 0; column = 0; image = image })

    by : (t u v : Bool) → ((outcome t u v).line ≡ 0 → ⊥) → LineTold d.words (lines_of text) 1 (begun d.words) (outcome t u v)
    by true true true n = unfold pick begun in lines_told d.words (lines_of text) 1 (begun d.words) refl n
    by true true false n = absurd (n (unfold pick in refused_line d.words 1 0 0))
    by true false v n = absurd (n (unfold pick in refl))
    by false u v n = absurd (n (unfold pick in refl))
