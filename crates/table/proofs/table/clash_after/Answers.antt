-- The lines ahead clash if any of the lines does.
use Rattle.std.proofs.Common.{sym, ◌∙◌}
use Rattle.table.specs.LawsTable.{clash_here, clash_on, clash_none}
use Rattle.table.proofs.table.clash_after.Goals as goal

pub returns-then-line_clashes : goal.returns-then-line_clashes
returns-then-line_clashes c = clash_here _ _ _ c.in-Some.ensures _ (sym c.line_clashes.ensures ∙ c.if-line_clashes.true) ∙ sym c.loop-line.invariant

pub loop-line-preserved : goal.loop-line-preserved
loop-line-preserved c = c.loop-line.invariant ∙ clash_on _ _ _ c.in-Some.ensures _ (sym c.line_clashes.ensures ∙ c.if-line_clashes.false)

pub returns : goal.returns
returns c = clash_none _ c.in_default.ensures _ ∙ sym c.loop-line.invariant
