-- Both IDs under both masks.
use Rattle.std.proofs.Common.{arith}
use Rattle.table.specs.LawsLine.{clash_by}
use Rattle.table.proofs.line.line_clashes.Goals as goal

pub returns : goal.returns
returns c = rw (c.unwrap_or.ensures, c.unwrap_or-id.ensures) (clash_by c.args.line.now c.args.d _ _ (omega arith) c.line_id.ensures c.line_mask.ensures)
