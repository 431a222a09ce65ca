-- Each line passed is sound.
use Rattle.std.proofs.Common.{sym, ◌∙◌}
use Rattle.sheet.specs.LawsRead.{lines_none, lines_more, lines_no}
use Rattle.sheet.proofs.body.lines_ok.Goals as goal

pub loop-k-init : goal.loop-k-init
loop-k-init c = lines_none _

pub returns-then-not-line_ok : goal.returns-then-not-line_ok
returns-then-not-line_ok c = lines_no _ _ _ c.loop-k-test.true (sym c.line_ok.ensures ∙ c.if-not-line_ok.true)

pub loop-k-preserved : goal.loop-k-preserved
loop-k-preserved c = lines_more _ _ c.loop-k.invariant (sym c.line_ok.ensures ∙ c.if-not-line_ok.false)
