-- The line that a reader answers which took two before is the third.
use Rattle.std.proofs.Common.{List, ℕ, ◌≡◌, ◌∙◌, ap}
use Rattle.std.specs.Borrow.{Bor}
use Rattle.lines.specs.Lines.{at_start, line_of, moved_on, Takes}
use Rattle.lines.specs.declared.Lines.{Lines}
use Rattle.lines.specs.declared.NextLine.{NextLine}
use Rattle.lent.specs.Text.{line_taken}
use Rattle.lent.proofs.text.third_line.Goals as goal

third_is : (s : Bor (List ℕ)) (h₀ h₁ h₂ h₃ : Lines) (r₁ r₂ r₃ : NextLine) → h₀ ≡ at_start s → Takes h₀ r₁ h₁ → Takes h₁ r₂ h₂ → Takes h₂ r₃ h₃ → r₃ ≡ line_taken s.now 2
unfolding at_start line_of moved_on line_taken
third_is s h₀ h₁ h₂ h₃ r₁ r₂ r₃ e t₁ t₂ t₃ = t₃.answer ∙ ap line_of (t₂.reader ∙ ap moved_on (t₁.reader ∙ ap moved_on e))

pub returns : goal.returns
returns c = third_is _ _ _ _ _ _ _ _ c.new-lines.ensures c.take.ensures c.take-2.ensures c.take-3.ensures
