-- The table's test, line by line.
use Rattle.std.proofs.Common.{arith, eqb-true, false-eqb, sym, ◌∙◌}
use Rattle.table.specs.LawsTable.{left_all, left_many, turn_bad, turn_clash, turn_on, end_few, end_rest, end_good, table_bad, table_good}
use Rattle.table.proofs.table.judge_table.Goals as goal
use Rattle.table.proofs.table.judge_table.Goals.{then-lines-lt1-via-then-lines-lt1, then-lines-lt1-via-else-lines-lt1+then-not-is_empty}

pub loop-line-init : goal.loop-line-init
loop-line-init c = (omega arith, left_all _)

pub returns-in_default-read_line : goal.returns-in_default-read_line
returns-in_default-read_line c = table_bad _ (c.loop-line.invariant.1 ∙ turn_bad _ _ _ c.in-Some.ensures _ c.in_default-read_line.ensures)

pub returns-then-clash_after : goal.returns-then-clash_after
returns-then-clash_after c = table_bad _ (c.loop-line.invariant.1
    ∙ turn_clash _ _ _ c.in-Some.ensures _ _ _ c.in-Some-read_line.ensures (sym c.clash_after.ensures ∙ c.if-clash_after.true))

pub returns-then-lines-gt-MOST_LINES : goal.returns-then-lines-gt-MOST_LINES
returns-then-lines-gt-MOST_LINES c = table_bad _ (c.loop-line.invariant.1
    ∙ turn_on _ _ _ c.in-Some.ensures _ _ _ c.in-Some-read_line.ensures (sym c.clash_after.ensures ∙ c.if-clash_after.false)
    ∙ left_many _ _ c.if-lines-gt-MOST_LINES.true)

pub loop-line-preserved : goal.loop-line-preserved
loop-line-preserved c = (
  omega arith,
  c.loop-line.invariant.1
      ∙ turn_on _ _ _ c.in-Some.ensures _ _ _ c.in-Some-read_line.ensures (sym c.clash_after.ensures ∙ c.if-clash_after.false),
)

pub returns-then-lines-lt1 : goal.returns-then-lines-lt1
returns-then-lines-lt1 c = table_bad _ (c.loop-line.invariant.1 ∙ elim c.then-lines-lt1.branch [
  | then-lines-lt1-via-then-lines-lt1 w ↦ end_few _ c.in_default.ensures _ w.if-lines-lt1.true
  | then-lines-lt1-via-else-lines-lt1+then-not-is_empty w ↦ end_rest _ c.in_default.ensures _ (omega (arith, false-eqb _ 0 w.if-not-is_empty.ensures))
])

pub returns : goal.returns
returns c = table_good _ (c.loop-line.invariant.1 ∙ end_good _ c.in_default.ensures _ (eqb-true _ 0 (sym c.if-not-is_empty.ensures)) c.if-lines-lt1.false c.loop-line.invariant.0)
