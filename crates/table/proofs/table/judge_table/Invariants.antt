-- The table's test, line by line.
use Rattle.std.proofs.Common.{◌≡◌, ◌≤◌, length}
use Rattle.table.specs.Table.{table_ok}
use Rattle.table.specs.LawsTable.{left_ok}
use Rattle.table.proofs.table.judge_table.Given as goal

abbrev pub invariant-loop-line : goal.invariant-loop-line
invariant-loop-line l = (l.lines ≤ 64) × (table_ok l.text ≡ left_ok l.lines l.rest)

abbrev pub decreases-loop-line : goal.decreases-loop-line
decreases-loop-line l = length l.rest
