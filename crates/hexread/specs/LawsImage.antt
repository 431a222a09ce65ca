-- What a reading tells of its image: each entry of it is sound, and a text with no refusal had a device and a buffer that fit.
use Rattle.std.specs.Prelude.{ℕ, zero, suc, ◌+◌, ◌*◌, ◌/◌, ◌≤◌, ◌<◌, ◌≡◌, refl, Bool, List, [], ◌∷◌, leb, eqb, length, get_or, set}
use Rattle.std.proofs.Math.Decide.{ℕ_discrete}
use Rattle.std.proofs.Common.{arith, ap, ◌∙◌, length-set, get_or-set_same, get_or-set_other, eqb-true, leb-true, eq-eqb, ne_eqb}
use Rattle.std.proofs.Math.Bool.{true, false}
use Rattle.std.proofs.lemmas.List.{length-replicate, get_or-replicate}
use Rattle.words.specs.Choice.{pick}
use Rattle.words.specs.Word.{not_given, is_word}
use Rattle.words.specs.LawsChoice.{pick_true, pick_false}
use Rattle.words.specs.LawsWord.{word_lt}
use Rattle.device.specs.declared.Device.{Device}
use Rattle.device.specs.Record.{device_ok}
use Rattle.device.specs.Memory.{reading_tail, programmable, entry_ok, image_ok}
use Rattle.device.specs.LawsMemory.{programmable_lt, entry_none, entry_given, image_long, image_each, image_of_lem}
use Rattle.lines.specs.Lines.{lines_of}
use Rattle.hexread.specs.Line.{byte_at, count_of, type_of, line_number}
use Rattle.hexread.specs.Step.{word_of, entry_of_word, word_number, Reading, give_words, record_step, line_refused, line_step}
use Rattle.hexread.specs.Column.{line_column}
use Rattle.hexread.specs.Reader.{most_text, blank_image, refused_at, read_lines, begun, text_read}

-- ---- a word given keeps an image sound

pub set_ok : (words : ℕ) (image : List ℕ) (entry word : ℕ) → image_ok words image ≡ true → programmable words entry ≡ true → is_word word ≡ true → image_ok words (set image entry word) ≡ true
set_ok words image entry word e c w =
    image_of_lem words (set image entry word) (length-set image entry word ∙ long) (λ i h. each i h (ℕ_discrete i entry))
  where
    long : length image ≡ words + reading_tail
    long = image_long words image e

    here : entry < length image
    here = rw long (programmable_lt words entry c)

    each : (i : ℕ) → i < words + reading_tail → Dec (i ≡ entry) → entry_ok words i (get_or (set image entry word) i 0) ≡ true
    each i h (yes q) =
        ap (λ n. entry_ok words n (get_or (set image entry word) n 0)) q
        ∙ (ap (entry_ok words entry) (get_or-set_same image entry word 0 here) ∙ (entry_given words entry word (word_lt word w) ∙ c))
    each i h (no q) = ap (entry_ok words i) (get_or-set_other image entry i word 0 q) ∙ image_each words image e i h

pub blank_ok : (words : ℕ) → image_ok words (blank_image words) ≡ true
unfolding blank_image
blank_ok words =
    image_of_lem words (blank_image words) (length-replicate (words + reading_tail) not_given)
    (λ i h. entry_none words i (get_or (blank_image words) i 0) (get_or-replicate (words + reading_tail) i not_given 0 h))

-- a word with no refusal can be given, and is a word
pub word_tells : (words upper : ℕ) (line image : List ℕ) (j : ℕ) → word_number words upper line image j ≡ 0
    → (programmable words (entry_of_word words upper line j) ≡ true) × (is_word (word_of line j) ≡ true)
unfolding word_number pick
word_tells words upper line image j e = by (programmable words (entry_of_word words upper line j)) (is_word (word_of line j)) e
  where
    by : (t u : Bool) → pick {A = ℕ} t (pick u (pick (eqb (get_or image (entry_of_word words upper line j) not_given) not_given) 0 9) 8) 7 ≡ 0 → (t ≡ true) × (u ≡ true)
    by true true q = (refl, refl)
    by true false q = absurd (omega arith)
    by false u q = absurd (omega arith)

-- ---- through a reading

-- an image whose entries are sound
abbrev Sound : (words : ℕ) → List ℕ → Type 0
Sound words image = image_ok words image ≡ true

give_ok : (words upper : ℕ) (line : List ℕ) (n j : ℕ) (image : List ℕ) → Sound words image → Sound words (give_words words upper line image j n).image
unfolding give_words
give_ok words upper line zero j image e = e
give_ok words upper line (suc n) j image e = by (ℕ_discrete (word_number words upper line image j) 0) (give_ok words upper line n (j + 1) (set image (entry_of_word words upper line j) (word_of line j)))
  where
    next : List ℕ
    next = set image (entry_of_word words upper line j) (word_of line j)

    by : Dec (word_number words upper line image j ≡ 0) → (Sound words next → Sound words (give_words words upper line next (j + 1) n).image)
        → Sound words (give_words words upper line image j (suc n)).image
    by (yes z) rest =
        let told = word_tells words upper line image j z in
        rw (pick_true (eqb (word_number words upper line image j) 0) _ _ (eq-eqb (word_number words upper line image j) 0 z))
        (rest (set_ok words image (entry_of_word words upper line j) (word_of line j) e told.0 told.1))
    by (no z) rest = rw (pick_false (eqb (word_number words upper line image j) 0) _ _ (ne_eqb (word_number words upper line image j) 0 z)) e

record_ok : (words : ℕ) (line : List ℕ) (r : Reading) → Sound words r.image → Sound words (record_step words line r).image
unfolding record_step
record_ok words line r e = by (eqb (type_of line) 0) (eqb (type_of line) 1)
  where
    by : (t u : Bool)
        → Sound words (pick t (give_words words r.upper line r.image 0 (count_of line / 2))
        (pick u (record { ended = true; upper = r.upper; image = r.image; number = 0 })
        (record { ended = false; upper = 256 * byte_at line 4 + byte_at line 5; image = r.image; number = 0 }))).image
    by true u = unfold pick in give_ok words r.upper line (count_of line / 2) 0 r.image e
    by false true = unfold pick in e
    by false false = unfold pick in e

pub step_ok : (words : ℕ) (line : List ℕ) (r : Reading) → image_ok words r.image ≡ true → image_ok words (line_step words line r).image ≡ true
unfolding line_step line_refused
step_ok words line r e = by (eqb (length line) 0) r.ended (eqb (line_number line) 0)
  where
    by : (t u v : Bool)
        → Sound words (pick t r (pick u (line_refused 11 r) (pick v (record_step words line r) (line_refused (line_number line) r)))).image
    by true u v = unfold pick in e
    by false true v = unfold pick in e
    by false false true = unfold pick in record_ok words line r e
    by false false false = unfold pick in e

-- whatever the lines are, the image that they leave is sound
pub lines_ok : (words : ℕ) (ls : List (List ℕ)) (k : ℕ) (r : Reading) → image_ok words r.image ≡ true → image_ok words (read_lines words ls k r).image ≡ true
unfolding read_lines refused_at
lines_ok words [] k r e = by r.ended
  where
    by : (t : Bool) → Sound words (pick t (record { number = 0; line = 0; column = 0; image = r.image }) (refused_at words 10 0 0)).image
    by true = unfold pick in e
    by false = unfold pick in blank_ok words
lines_ok words (l ∷ ls) k r e = by (eqb (line_step words l r).number 0) (lines_ok words ls (k + 1) (line_step words l r) (step_ok words l r e))
  where
    by : (t : Bool) → Sound words (read_lines words ls (k + 1) (line_step words l r)).image
        → Sound words (pick t (read_lines words ls (k + 1) (line_step words l r)) (refused_at words (line_step words l r).number k (line_column words l r))).image
    by true rest = unfold pick in rest
    by false rest = unfold pick in blank_ok words

-- ---- the call

-- what an answer of 0 tells
pub record Told (d : Device) (text image : List ℕ) : Type 0 where
  pub sound : device_ok d ≡ true
  pub long : length image ≡ d.words + reading_tail
  pub short : length text ≤ most_text
  pub lines : text_read d text image ≡ read_lines d.words (lines_of text) 1 (begun d.words)

pub read_tells : (d : Device) (text image : List ℕ) → (text_read d text image).number ≡ 0 → Told d text image
unfolding text_read refused_at
read_tells d text image e = by (device_ok d) (eqb (length image) (d.words + reading_tail)) (leb (length text) most_text) refl refl refl e
  where
    by : (t u v : Bool) → device_ok d ≡ t → eqb (length image) (d.words + reading_tail) ≡ u → leb (length text) most_text ≡ v
        → (pick t (pick u (pick v (read_lines d.words (lines_of text) 1 (begun d.words)) (refused_at d.words 1 0 0)) (record { number = 12; line = 0; column = 0; image = image }))
        (record { number = 13; line = 0; column = 0; image = image })).number ≡ 0
        → Told d text image
    by true true true p q w z =
        record {
          sound = p;
          long = eqb-true (length image) (d.words + reading_tail) q;
          short = leb-true (length text) most_text w;
          lines = rw (p, q, w) (unfold pick in refl);
        }
    by true true false p q w z = absurd (unfold pick in omega arith)
    by true false v p q w z = absurd (unfold pick in omega arith)
    by false u v p q w z = absurd (unfold pick in omega arith)

-- a text that is read leaves an image
pub read_image_ok : (d : Device) (text image : List ℕ) → (text_read d text image).number ≡ 0 → image_ok d.words (text_read d text image).image ≡ true
read_image_ok d text image e =
    ap (λ o. image_ok d.words o.image) (read_tells d text image e).lines
    ∙ lines_ok d.words (lines_of text) 1 (begun d.words) (unfold begun in blank_ok d.words)
