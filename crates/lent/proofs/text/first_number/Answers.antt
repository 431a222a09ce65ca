-- The number that a reader tells which took one line is that line's.
use Rattle.std.proofs.Common.{List, ℕ, ◌≡◌, ◌∙◌, ap}
use Rattle.std.specs.Borrow.{Bor}
use Rattle.lines.specs.Lines.{at_start, line_of, moved_on, next_line, Takes}
use Rattle.lines.specs.declared.Lines.{Lines}
use Rattle.lines.specs.declared.NextLine.{NextLine}
use Rattle.lent.proofs.text.first_number.Goals as goal

first_is : (s : Bor (List ℕ)) (h₀ h₁ : Lines) (r : NextLine) → h₀ ≡ at_start s → Takes h₀ r h₁ → h₁.line ≡ (next_line s.now 0 0).line
unfolding at_start line_of moved_on
first_is s h₀ h₁ r e t = ap (λ l. l.line) (t.reader ∙ ap moved_on e)

pub returns : goal.returns
returns c = c.number.ensures ∙ first_is _ _ _ _ c.new-lines.ensures c.take.ensures
