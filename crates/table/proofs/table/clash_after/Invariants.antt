-- The lines ahead clash if any of the lines does.
use Rattle.std.proofs.Common.{◌≡◌, length}
use Rattle.table.specs.Table.{table_lines, clashes}
use Rattle.table.proofs.table.clash_after.Given as goal

abbrev pub invariant-loop-line : goal.invariant-loop-line
invariant-loop-line l = clashes l.d (table_lines l.text) ≡ clashes l.d (table_lines l.rest)

abbrev pub decreases-loop-line : goal.decreases-loop-line
decreases-loop-line l = length l.rest
