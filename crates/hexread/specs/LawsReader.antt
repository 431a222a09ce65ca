-- Laws of reading HEX text: one line, the lines one after another, and the call.
use Prim.Native.Nat.{ℕ, ◌+◌, ◌*◌, ◌/◌, ◌≤◌, ◌<◌}
use Rattle.std.proofs.Math.Decide.{ℕ_discrete}
use Rattle.std.proofs.Common.{arith, ◌∙◌, inl, inr, drop_of_length-le}
use Rattle.std.specs.Prelude.{◌≡◌, ◌⊎◌, Bool, true, false, Result, Ok, Err, is_err, List, [], ◌∷◌, eqb, length, drop}
use Rattle.std.proofs.Math.Path.{refl, sym, ap}
use Rattle.std.proofs.Math.ListN.{replicate}
use Rattle.std.proofs.lemmas.List.{length-replicate}
use borrow.Author.Tests.{eq-eqb, ne_eqb, le-leb, lt-leb}
use Rattle.words.specs.Choice.{pick}
use Rattle.words.specs.Word.{not_given}
use Rattle.words.specs.LawsChoice.{pick_true, pick_false, decided}
use Rattle.device.specs.declared.Device.{Device}
use Rattle.device.specs.Record.{device_ok, record_number}
use Rattle.device.specs.LawsRecord.{bad_of_judged}
use Rattle.refusal.specs.declared.Refusal.{Refusal}
use Rattle.device.specs.Memory.{reading_tail}
use Rattle.lines.specs.Lines.{lines_of, line_at, end_of}
use Rattle.lines.specs.LawsLine.{lines_of_nothing, lines_left, end_most, end_least}
use Rattle.hexread.specs.Line.{count_of, type_of, line_number}
use Rattle.hexread.specs.Step.{Reading, give_words, record_step, line_refused, line_step}
use Rattle.hexread.specs.Column.{line_column}
use Rattle.hexread.specs.Reader.{most_text, blank_image, Outcome, refused_at, read_lines, begun, text_read, ReadHex, read_told, read_answer, HexRead}
use Rattle.hexread.specs.declared.Misread.{Misread}
use Rattle.refusal.specs.Refusal.{number_of}
use Rattle.refusal.specs.LawsRefusal.{number_of_unique, number_of_positive}
use Rattle.hexread.specs.LawsLine.{ByteRead}
use Rattle.hexread.specs.LawsGive.{reading}

-- ---- one line

-- an empty line changes nothing
pub step_skips : (words : ℕ) (r : Reading) → line_step words [] r ≡ r
unfolding line_step pick
step_skips words r = refl

module _ (words : ℕ) (line : List ℕ) (ended : Bool) (upper : ℕ) (image : List ℕ) where
  pub step_empty : length line ≡ 0 → reading ended upper image 0 ≡ line_step words line (reading ended upper image 0)
  unfolding line_step pick
  step_empty e = rw (eq-eqb (length line) 0 e)

  module _ (some : length line ≡ 0 → ⊥) where
    pub step_after : ended ≡ true → reading ended upper image 11 ≡ line_step words line (reading ended upper image 0)
    unfolding line_step line_refused pick
    step_after t = rw (ne_eqb (length line) 0 some, t)

    module _ (going : ended ≡ false) (number : ℕ) (n : number ≡ line_number line) where
      pub step_bad : (number ≡ 0 → ⊥) → reading ended upper image number ≡ line_step words line (reading ended upper image 0)
      unfolding line_step line_refused pick
      step_bad z = rw (ne_eqb (length line) 0 some, going, ← n, ne_eqb number 0 z)

      pub step_record : number ≡ 0 → (after : Reading) → after ≡ record_step words line (reading false upper image 0) → after ≡ line_step words line (reading ended upper image 0)
      unfolding line_step pick
      step_record z after e = rw (ne_eqb (length line) 0 some, going, ← n, eq-eqb number 0 z) e

-- a sound record, by its type
module _ (words : ℕ) (line : List ℕ) (upper : ℕ) (image : List ℕ) (kind : ℕ) (k : ByteRead line 3 kind) where
  kind_is : kind ≡ type_of line
  kind_is = unfold type_of in k.value

  pub record_data : kind ≡ 0 → (image' : List ℕ) (r : ℕ) → reading false upper image' r ≡ give_words words upper line image 0 (count_of line / 2)
      → reading false upper image' r ≡ record_step words line (reading false upper image 0)
  unfolding record_step pick
  record_data z image' r g = rw (← kind_is, eq-eqb kind 0 z) g

  pub record_end : (kind ≡ 0 → ⊥) → kind ≡ 1 → reading true upper image 0 ≡ record_step words line (reading false upper image 0)
  unfolding record_step pick
  record_end z o = rw (← kind_is, ne_eqb kind 0 z, eq-eqb kind 1 o)

  pub record_upper : (kind ≡ 0 → ⊥) → (kind ≡ 1 → ⊥) → (high low : ℕ) → ByteRead line 4 high → ByteRead line 5 low
      → reading false (256 * high + low) image 0 ≡ record_step words line (reading false upper image 0)
  unfolding record_step pick
  record_upper z o high low h l = rw (← kind_is, ne_eqb kind 0 z, ne_eqb kind 1 o, ← h.value, ← l.value)

-- ---- the lines one after another

module _ (words : ℕ) (l : List ℕ) (ls : List (List ℕ)) (k : ℕ) (r : Reading) where
  pub lines_on : (line_step words l r).number ≡ 0 → read_lines words (l ∷ ls) k r ≡ read_lines words ls (k + 1) (line_step words l r)
  lines_on e = unfold read_lines in pick_true (eqb (line_step words l r).number 0) _ _ (eq-eqb (line_step words l r).number 0 e)

  pub lines_stop : ((line_step words l r).number ≡ 0 → ⊥) → read_lines words (l ∷ ls) k r ≡ refused_at words (line_step words l r).number k (line_column words l r)
  lines_stop n = unfold read_lines in pick_false (eqb (line_step words l r).number 0) _ _ (ne_eqb (line_step words l r).number 0 n)

-- no line left, or none but an empty one, whatever its number
pub lines_empty : (words k : ℕ) (r : Reading) → r.number ≡ 0 → read_lines words ([] ∷ []) k r ≡ read_lines words [] (k + 1) r
lines_empty words k r e =
    lines_on words [] [] k r (ap (λ s. s.number) (step_skips words r) ∙ e) ∙ ap (read_lines words [] (k + 1)) (step_skips words r)

module _ (words number line column : ℕ) where
  pub refused_number : (refused_at words number line column).number ≡ number
  unfolding refused_at
  refused_number = refl

  pub refused_line : (refused_at words number line column).line ≡ line
  unfolding refused_at
  refused_line = refl

  pub refused_column : (refused_at words number line column).column ≡ column
  unfolding refused_at
  refused_column = refl

  pub refused_image : (refused_at words number line column).image ≡ blank_image words
  unfolding refused_at
  refused_image = refl

-- after the last line: an end record was seen, or none
module _ (words k : ℕ) (r : Reading) where
  pub lines_whole : r.ended ≡ true → read_lines words [] k r ≡ record { number = 0; line = 0; column = 0; image = r.image }
  unfolding read_lines
  lines_whole t = pick_true r.ended _ _ t

  pub lines_open : r.ended ≡ false → read_lines words [] k r ≡ refused_at words 10 0 0
  unfolding read_lines
  lines_open f = pick_false r.ended _ _ f

pub lines_done : (words k m : ℕ) (r : Reading) → read_lines words [] k r ≡ read_lines words [] m r
unfolding read_lines
lines_done words k m r = refl

-- the line that begins at a place is taken
module _ (text : List ℕ) (at : ℕ) (within : at ≤ length text) (words k : ℕ) (now after : Reading) (step : after ≡ line_step words (line_at text at) now) where
  pub left_on : after.number ≡ 0 → read_lines words (lines_of (drop at text)) k now ≡ read_lines words (lines_of (drop (end_of text at + 1) text)) (k + 1) after
  left_on z = by (lines_left text at within)
    where
      none : (line_step words (line_at text at) now).number ≡ 0
      none = ap (λ s. s.number) (sym step) ∙ z

      by : (lines_of (drop at text) ≡ line_at text at ∷ lines_of (drop (end_of text at + 1) text)) ⊎ ((lines_of (drop at text) ≡ line_at text at ∷ []) × (length text ≤ end_of text at))
          → read_lines words (lines_of (drop at text)) k now ≡ read_lines words (lines_of (drop (end_of text at + 1) text)) (k + 1) after
      by (inl e) =
          ap (λ ls. read_lines words ls k now) e
          ∙ (lines_on words (line_at text at) (lines_of (drop (end_of text at + 1) text)) k now none ∙ ap (read_lines words (lines_of (drop (end_of text at + 1) text)) (k + 1)) (sym step))
      by (inr e) =
          let far : length text ≤ end_of text at + 1 = (let last : length text ≤ end_of text at = e.1 in omega arith) in
          let past : drop (end_of text at + 1) text ≡ [] = drop_of_length-le text far in
          ap (λ ls. read_lines words ls k now) e.0
          ∙ (lines_on words (line_at text at) [] k now none
          ∙ (ap (read_lines words [] (k + 1)) (sym step)
          ∙ (lines_done words (k + 1) (k + 1 + 1) after
          ∙ (sym (lines_empty words (k + 1) after z)
          ∙ ap (λ ls. read_lines words ls (k + 1) after) (sym (ap lines_of past ∙ lines_of_nothing))))))

  pub left_stop : (after.number ≡ 0 → ⊥) → read_lines words (lines_of (drop at text)) k now ≡ refused_at words after.number k (line_column words (line_at text at) now)
  left_stop z = by (lines_left text at within)
    where
      some : (line_step words (line_at text at) now).number ≡ 0 → ⊥
      some q = z (ap (λ s. s.number) step ∙ q)

      stops : (ls : List (List ℕ)) → lines_of (drop at text) ≡ line_at text at ∷ ls
          → read_lines words (lines_of (drop at text)) k now ≡ refused_at words after.number k (line_column words (line_at text at) now)
      stops ls e =
          ap (λ ms. read_lines words ms k now) e
          ∙ (lines_stop words (line_at text at) ls k now some ∙ ap (λ s. refused_at words s.number k (line_column words (line_at text at) now)) (sym step))

      by : (lines_of (drop at text) ≡ line_at text at ∷ lines_of (drop (end_of text at + 1) text)) ⊎ ((lines_of (drop at text) ≡ line_at text at ∷ []) × (length text ≤ end_of text at))
          → read_lines words (lines_of (drop at text)) k now ≡ refused_at words after.number k (line_column words (line_at text at) now)
      by (inl e) = stops (lines_of (drop (end_of text at + 1) text)) e
      by (inr e) = stops [] e.0

-- at the text's end
pub left_none : (text : List ℕ) (from words k : ℕ) (now : Reading) → length text ≤ from → now.number ≡ 0 → read_lines words (lines_of (drop from text)) k now ≡ read_lines words [] (k + 1) now
left_none text from words k now h z =
    ap (λ ls. read_lines words ls k now) (ap lines_of (drop_of_length-le text h) ∙ lines_of_nothing) ∙ lines_empty words k now z

-- ---- the loop over the lines

abbrev pub outcome : (words : ℕ) → (text image : List ℕ) → Outcome
outcome words text image = read_lines words (lines_of text) 1 (reading false 0 image 0)

-- the lines up to `at` are read, and the next one has this number
pub record Ahead (words : ℕ) (text image₀ : List ℕ) (at line : ℕ) (ended : Bool) (upper : ℕ) (image : List ℕ) : Type 0 where
  pub short : length text ≤ most_text
  pub within : at ≤ length text + 1
  pub count : line ≤ at + 1
  pub least : 1 ≤ line
  pub long : length image ≡ words + reading_tail
  pub kept : length image ≡ length image₀
  pub rest : read_lines words (lines_of (drop at text)) line (reading ended upper image 0) ≡ outcome words text image₀

-- what reading the lines comes to; the image of a refused text is of no use
pub record LinesRead (words : ℕ) (text image₀ : List ℕ) (r : ReadHex) (image : List ℕ) : Type 0 where
  pub number_is : r.number ≡ (outcome words text image₀).number
  pub line_is : r.line ≡ (outcome words text image₀).line
  pub column_is : r.column ≡ (outcome words text image₀).column
  pub image_is : r.number ≡ 0 → image ≡ (outcome words text image₀).image

module _ (words : ℕ) (text image₀ : List ℕ) where
  pub ahead_all : length text ≤ most_text → length image₀ ≡ words + reading_tail → Ahead words text image₀ 0 1 false 0 image₀
  ahead_all s l = record { short = s; within = omega arith; count = omega arith; least = omega arith; long = l; kept = refl; rest = refl }

  module _ (at line : ℕ) (ended : Bool) (upper : ℕ) (image : List ℕ) (a : Ahead words text image₀ at line ended upper image) where
    module _ (left : at < length text) (ended' : Bool) (upper' : ℕ) (image' : List ℕ) (number : ℕ)
        (step : reading ended' upper' image' number ≡ line_step words (line_at text at) (reading ended upper image 0)) where
      here : at ≤ length text
      here = omega arith

      pub ahead_on : length image' ≡ length image → number ≡ 0 → Ahead words text image₀ (end_of text at + 1) (line + 1) ended' upper' image'
      ahead_on l z =
          let before : Ahead words text image₀ at line ended upper image = a in
          let most : end_of text at ≤ length text = end_most text at here in
          let least : at ≤ end_of text at = end_least text at here in
          let same : reading ended' upper' image' 0 ≡ reading ended' upper' image' number = (λ i. reading ended' upper' image' (sym z i)) in
          record {
            short = a.short;
            within = omega arith;
            count = omega arith;
            least = omega arith;
            long = l ∙ a.long;
            kept = l ∙ a.kept;
            rest = sym (left_on text at here words line (reading ended upper image 0) (reading ended' upper' image' 0) (same ∙ step) refl) ∙ a.rest;
          }

      pub lines_refused : (number ≡ 0 → ⊥) → (column : ℕ) → column ≡ line_column words (line_at text at) (reading ended upper image 0)
          → LinesRead words text image₀ (record { number = number; line = line; column = column }) image'
      lines_refused n column c =
          let out : refused_at words number line (line_column words (line_at text at) (reading ended upper image 0)) ≡ outcome words text image₀ =
          sym (left_stop text at here words line (reading ended upper image 0) (reading ended' upper' image' number) step n) ∙ a.rest in
          record {
            number_is = sym (refused_number words number line _) ∙ ap (λ o. o.number) out;
            line_is = sym (refused_line words number line _) ∙ ap (λ o. o.line) out;
            column_is = c ∙ (sym (refused_column words number line _) ∙ ap (λ o. o.column) out);
            image_is = λ z. absurd (n z);
          }

    module _ (done : length text ≤ at) where
      ends : read_lines words [] (line + 1) (reading ended upper image 0) ≡ outcome words text image₀
      ends = sym (left_none text at words line (reading ended upper image 0) done refl) ∙ a.rest

      pub lines_ended : ended ≡ true → LinesRead words text image₀ (record { number = 0; line = 0; column = 0 }) image
      lines_ended t =
          let out : ◌≡◌ {A = Outcome} (record { number = 0; line = 0; column = 0; image = image }) (outcome words text image₀) =
          sym (lines_whole words (line + 1) (reading ended upper image 0) t) ∙ ends in
          record {
            number_is = ap (λ o. o.number) out;
            line_is = ap (λ o. o.line) out;
            column_is = ap (λ o. o.column) out;
            image_is = λ z. ap (λ o. o.image) out;
          }

      pub lines_not_ended : ended ≡ false → LinesRead words text image₀ (record { number = 10; line = 0; column = 0 }) image
      lines_not_ended f =
          let out : refused_at words 10 0 0 ≡ outcome words text image₀ =
          sym (lines_open words (line + 1) (reading ended upper image 0) f) ∙ ends in
          record {
            number_is = sym (refused_number words 10 0 0) ∙ ap (λ o. o.number) out;
            line_is = sym (refused_line words 10 0 0) ∙ ap (λ o. o.line) out;
            column_is = sym (refused_column words 10 0 0) ∙ ap (λ o. o.column) out;
            image_is = λ z. absurd (omega arith);
          }

-- ---- the call

-- a refused text leaves the image blank
pub refused_blank : (words : ℕ) (ls : List (List ℕ)) (k : ℕ) (r : Reading) → ((read_lines words ls k r).number ≡ 0 → ⊥) → (read_lines words ls k r).image ≡ blank_image words
refused_blank words [] k r n = by (decided r.ended)
  where
    by : (r.ended ≡ true) ⊎ (r.ended ≡ false) → (read_lines words [] k r).image ≡ blank_image words
    by (inl t) = absurd (n (ap (λ o. o.number) (lines_whole words k r t)))
    by (inr f) = ap (λ o. o.image) (lines_open words k r f) ∙ refused_image words 10 0 0
refused_blank words (l ∷ ls) k r n = by (ℕ_discrete (line_step words l r).number 0) (refused_blank words ls (k + 1) (line_step words l r))
  where
    by : Dec ((line_step words l r).number ≡ 0)
        → (((read_lines words ls (k + 1) (line_step words l r)).number ≡ 0 → ⊥) → (read_lines words ls (k + 1) (line_step words l r)).image ≡ blank_image words)
        → (read_lines words (l ∷ ls) k r).image ≡ blank_image words
    by (yes e) rest =
        let on : read_lines words (l ∷ ls) k r ≡ read_lines words ls (k + 1) (line_step words l r) = lines_on words l ls k r e in
        ap (λ o. o.image) on ∙ rest (λ z. n (ap (λ o. o.number) on ∙ z))
    by (no e) rest = ap (λ o. o.image) (lines_stop words l ls k r e) ∙ refused_image words (line_step words l r).number k (line_column words l r)

module _ (d : Device) (text image : List ℕ) where
  answered : (o : Outcome) (image' : List ℕ) (r : ReadHex) → text_read d text image ≡ o → r.number ≡ o.number → r.line ≡ o.line → r.column ≡ o.column → image' ≡ o.image
      → HexRead d text image r image'
  unfolding read_answer
  answered o image' r e n l c i =
      record {
        answer =
            λ k. record {
              number = (n ∙ ap (λ x. x.number) (sym e)) k;
              line = (l ∙ ap (λ x. x.line) (sym e)) k;
              column = (c ∙ ap (λ x. x.column) (sym e)) k;
            };
        image_is = i ∙ ap (λ x. x.image) (sym e);
      }

  hex_13 : device_ok d ≡ false → HexRead d text image (record { number = 13; line = 0; column = 0 }) image
  hex_13 f = answered (record { number = 13; line = 0; column = 0; image = image }) image _ (unfold text_read in pick_false (device_ok d) _ _ f) refl refl refl refl

  pub hex_bad : (e : Refusal) → number_of e ≡ record_number d → HexRead d text image (record { number = number_of e; line = 0; column = 0 }) image
  unfolding record_number
  hex_bad e q =
      let f : device_ok d ≡ false = bad_of_judged d (λ z. absurd (omega (arith, number_of_positive e, q, z))) in
      rw (q ∙ pick_false (device_ok d) 0 13 f) (hex_13 f)

  module _ (sound : device_ok d ≡ true) where
    pub hex_12 : (length image ≡ d.words + reading_tail → ⊥) → HexRead d text image (record { number = 12; line = 0; column = 0 }) image
    hex_12 n = answered (record { number = 12; line = 0; column = 0; image = image }) image _ (unfold text_read pick in rw (sound, ne_eqb (length image) (d.words + reading_tail) n)) refl refl refl refl

    module _ (long : length image ≡ d.words + reading_tail) where
      cleared : (l : List ℕ) → l ≡ replicate (length image) not_given → l ≡ blank_image d.words
      unfolding blank_image
      cleared l e = e ∙ ap (λ n. replicate n not_given) long

      -- no refusal before the first line
      pub read_begins : length text ≤ most_text → text_read d text image ≡ read_lines d.words (lines_of text) 1 (reading false 0 (blank_image d.words) 0)
      unfolding text_read pick begun
      read_begins h = rw (sound, eq-eqb (length image) (d.words + reading_tail) long, le-leb (length text) most_text h)

      pub hex_1 : most_text < length text → (image' : List ℕ) → image' ≡ replicate (length image) not_given → HexRead d text image (record { number = 1; line = 0; column = 0 }) image'
      hex_1 h image' c =
          answered (refused_at d.words 1 0 0) image' _ (unfold text_read pick in rw (sound, eq-eqb (length image) (d.words + reading_tail) long, lt-leb (length text) most_text h))
          (sym (refused_number d.words 1 0 0)) (sym (refused_line d.words 1 0 0)) (sym (refused_column d.words 1 0 0))
          (cleared image' c ∙ sym (refused_image d.words 1 0 0))

      module _ (short : length text ≤ most_text) (image₁ : List ℕ) (c₁ : image₁ ≡ replicate (length image) not_given) (r : ReadHex) (image₂ : List ℕ)
          (o : LinesRead d.words text image₁ r image₂) where
        read_is : text_read d text image ≡ outcome d.words text image₁
        read_is =
            read_begins short
            ∙ ap (λ l. read_lines d.words (lines_of text) 1 (reading false 0 l 0)) (sym (cleared image₁ c₁))

        pub hex_read : r.number ≡ 0 → HexRead d text image r image₂
        hex_read z = answered (outcome d.words text image₁) image₂ r read_is o.number_is o.line_is o.column_is (o.image_is z)

        pub hex_refused : (r.number ≡ 0 → ⊥) → (image₃ : List ℕ) → length image₂ ≡ length image₁ → image₃ ≡ replicate (length image₂) not_given → HexRead d text image r image₃
        hex_refused n image₃ k c₃ =
            let same : length image₂ ≡ length image = k ∙ (ap length c₁ ∙ length-replicate (length image) not_given) in
            answered (outcome d.words text image₁) image₃ r read_is o.number_is o.line_is o.column_is
            (cleared image₃ (c₃ ∙ ap (λ m. replicate m not_given) same)
            ∙ sym (refused_blank d.words (lines_of text) 1 (reading false 0 image₁ 0) (λ z. n (o.number_is ∙ z))))

-- two answers that are told the same are one
pub told_unique : (r s : Result (Unit {0}) Misread) → read_told r ≡ read_told s → r ≡ s
told_unique (Ok x) (Ok y) e = refl
told_unique (Ok x) (Err m) e = let z : 0 ≡ number_of m.refusal = ap (λ a. a.number) e in absurd (omega (arith, number_of_positive m.refusal, z))
told_unique (Err m) (Ok y) e = let z : number_of m.refusal ≡ 0 = ap (λ a. a.number) e in absurd (omega (arith, number_of_positive m.refusal, z))
told_unique (Err m) (Err n) e =
    let f : m.refusal ≡ n.refusal = number_of_unique m.refusal n.refusal (ap (λ a. a.number) e) in
    ap Err (λ k. record { refusal = f k; line = (ap (λ a. a.line) e) k; column = (ap (λ a. a.column) e) k })

pub told_err : (r : Result (Unit {0}) Misread) → is_err r ≡ true → (read_told r).number ≡ 0 → ⊥
told_err (Ok x) e z = cc
told_err (Err m) e z = absurd (omega (arith, number_of_positive m.refusal, z))

pub told_ok : (r : Result (Unit {0}) Misread) → is_err r ≡ false → (read_told r).number ≡ 0
told_ok (Ok x) e = refl
told_ok (Err m) e = cc
