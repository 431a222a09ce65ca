-- The lines that a reader takes one after another from a text's beginning ('lines are taken one after another'), counted from 0. Text is a list of bytes. Assumes nothing.
use Rattle.std.specs.Prelude.{ℕ, zero, suc, List}
use Rattle.lines.specs.Lines.{next_line}
use Rattle.lines.specs.declared.NextLine.{NextLine}

-- the first line begins at the text's beginning, and each other one where the line before it says, with the number after that line's
unfoldable pub line_taken : (text : List ℕ) → (k : ℕ) → NextLine
line_taken text zero = next_line text 0 0
line_taken text (suc k) = next_line text (line_taken text k).at (line_taken text k).line
