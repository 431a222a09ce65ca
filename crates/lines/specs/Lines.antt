-- The lines of a text, and taking them one after another ('HEX text'). Text is a list of bytes. Assumes nothing of the position and the number that a reader has.
use Rattle.std.specs.Prelude.{ℕ, ◌+◌, ◌≡◌, List, [], ◌∷◌, ltb, eqb, length, drop}
use Rattle.std.specs.Borrow.{Bor}
use Rattle.marks.specs.Marks.{index_of}
use Rattle.words.specs.Choice.{pick}
use Rattle.numerals.specs.Text.{lf, cr, split}
use Rattle.lines.specs.declared.Lines.{Lines}
use Rattle.lines.specs.declared.NextLine.{NextLine}

-- ---- the lines of a text

-- a line without the CR that belongs to its end
unfoldable pub without_cr : List ℕ → List ℕ
without_cr [] = []
without_cr (c ∷ []) = pick (eqb c cr) [] (c ∷ [])
without_cr (c ∷ b ∷ l) = c ∷ without_cr (b ∷ l)

-- the line of each piece between LFs
unfoldable pub all_without_cr : List (List ℕ) → List (List ℕ)
all_without_cr [] = []
all_without_cr (p ∷ ps) = without_cr p ∷ all_without_cr ps

-- the lines of a text: a line ends at LF or at the text's end
unfoldable pub lines_of : List ℕ → List (List ℕ)
lines_of text = all_without_cr (split lf text)

-- ---- one of them, by its place

unfoldable pub first_of : List (List ℕ) → List ℕ
first_of [] = []
first_of (l ∷ ls) = l

-- the line that begins at `at`: the first of those that are left there
unfoldable pub line_at : (text : List ℕ) → (at : ℕ) → List ℕ
line_at text at = first_of (lines_of (drop at text))

-- where the LF stands that ends it, or the text's end
unfoldable pub end_of : (text : List ℕ) → (at : ℕ) → ℕ
end_of text at = at + index_of lf (drop at text)

-- the largest number of a line
abbrev pub most_line : ℕ
most_line = 0xffffffff

-- the number of the line after this one; the largest stays
unfoldable pub number_after : ℕ → ℕ
number_after line = pick (ltb line most_line) (line + 1) line

-- the line that begins at `at`, after line `line`: the next one begins past its LF. Past the last line there is an empty one at the text's end, and nothing moves
unfoldable pub next_line : (text : List ℕ) → (at line : ℕ) → NextLine
next_line text at line =
    pick (ltb at (length text))
    (record { start = at; stop = at + length (line_at text at); at = end_of text at + 1; line = number_after line })
    (record { start = length text; stop = length text; at = at; line = line })

-- ---- a reader: the text, where its next line begins, and the number of the line taken last

-- before the first line
unfoldable pub at_start : Bor (List ℕ) → Lines
at_start text = record { text = text; at = 0; line = 0 }

-- the line that a reader stands before
unfoldable pub line_of : Lines → NextLine
line_of l = next_line l.text.now l.at l.line

-- the reader past that line, over the same text
unfoldable pub moved_on : Lines → Lines
moved_on l = record { text = l.text; at = (line_of l).at; line = (line_of l).line }

-- what taking a line promises: the line, and the reader past it
pub record Takes (l : Lines) (r : NextLine) (l' : Lines) : Type 0 where
  pub answer : r ≡ line_of l
  pub reader : l' ≡ moved_on l
