-- Reading HEX text into an image ('HEX text'; refusals 13, 12, 1, then line by line 11, 2 to 9, last 10).
use Rattle.std.specs.Prelude.{ℕ, ◌+◌, ◌≡◌, false, Result, Ok, Err, List, [], ◌∷◌, leb, eqb, length, replicate}
use Rattle.refusal.specs.Refusal.{number_of}
use Rattle.words.specs.Choice.{unless}
use Rattle.words.specs.Word.{not_given}
use Rattle.device.specs.declared.Device.{Device}
use Rattle.device.specs.Record.{device_ok}
use Rattle.device.specs.Memory.{reading_tail}
use Rattle.lines.specs.Lines.{lines_of}
use Rattle.hexread.specs.Step.{Reading, line_step}
use Rattle.hexread.specs.Column.{line_column}
use Rattle.hexread.specs.declared.Misread.{Misread}

-- the longest text
abbrev pub most_text : ℕ
most_text = 524288

-- ---- reading as a fold over the lines

-- every entry 'not given'
unfoldable pub blank_image : (words : ℕ) → List ℕ
blank_image words = replicate (words + reading_tail) not_given

-- what reading comes to: a refusal, its line and its column, or 0, and the image
pub record Outcome : Type 0 where
  pub number : ℕ
  pub line : ℕ
  pub column : ℕ
  pub image : List ℕ

-- a refused text leaves the image all 'not given'
unfoldable pub refused_at : (words number line column : ℕ) → Outcome
refused_at words number line column = record { number = number; line = line; column = column; image = blank_image words }

-- all lines, the first of them line k, until one is refused; 10 at line and column 0 if no end record came
unfoldable pub read_lines : (words : ℕ) → List (List ℕ) → (k : ℕ) → Reading → Outcome
read_lines words [] k r = unless r.ended (refused_at words 10 0 0) (record { number = 0; line = 0; column = 0; image = r.image })
read_lines words (l ∷ ls) k r =
    unless (eqb (line_step words l r).number 0) (refused_at words (line_step words l r).number k (line_column words l r))
    (read_lines words ls (k + 1) (line_step words l r))

-- before the first line
unfoldable pub begun : (words : ℕ) → Reading
begun words = record { ended = false; upper = 0; image = blank_image words; number = 0 }

-- ---- the call: 13 and 12 leave the buffer, 1 clears it

unfoldable pub text_read : Device → (text image : List ℕ) → Outcome
text_read d text image =
    unless (device_ok d) (record { number = 13; line = 0; column = 0; image = image })
    (unless (eqb (length image) (d.words + reading_tail)) (record { number = 12; line = 0; column = 0; image = image })
    (unless (leb (length text) most_text) (refused_at d.words 1 0 0)
    (read_lines d.words (lines_of text) 1 (begun d.words))))

-- 0, or the number of a refusal, the line that it stands at and the column in it, both from 1 and 0 where no line is to blame
pub record ReadHex : Type 0 where
  pub number : ℕ
  pub line : ℕ
  pub column : ℕ

-- an answer, told so
abbrev pub read_told : Result (Unit {0}) Misread → ReadHex
read_told (Ok _) = record { number = 0; line = 0; column = 0 }
read_told (Err m) = record { number = number_of m.refusal; line = m.line; column = m.column }

-- what the call answers
unfoldable pub read_answer : Device → (text image : List ℕ) → ReadHex
read_answer d text image =
    record { number = (text_read d text image).number; line = (text_read d text image).line; column = (text_read d text image).column }

-- what the call promises: its answer, and the image that it leaves
pub record HexRead (d : Device) (text image : List ℕ) (r : ReadHex) (image' : List ℕ) : Type 0 where
  pub answer : r ≡ read_answer d text image
  pub image_is : image' ≡ (text_read d text image).image
