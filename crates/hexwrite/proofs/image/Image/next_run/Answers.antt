-- The entries passed are not given.
use Rattle.std.proofs.Common.{refl}
use native.Mathlib.Omega.{arith}
use Rattle.hexwrite.specs.LawsNextRun.{none_left, some_within, some_given, run_from}
use Rattle.hexwrite.proofs.image.Image.next_run.Goals as goal

pub returns-in_err-start : goal.returns-in_err-start
returns-in_err-start c = rw c.from_residual.ensures (none_left _ _ _ c.requires c.in_err-start.ensures)

pub run_stop-stop-requires : goal.run_stop-stop-requires
run_stop-stop-requires c = (
  some_within c.args.self.now.words _ _ _ c.in_ok-start.ensures,
  omega arith,
  some_given c.args.self.now.words _ _ _ c.in_ok-start.ensures,
)

pub returns : goal.returns
returns c = run_from _ _ _ _ c.in_ok-start.ensures _ c.run_stop-stop.ensures c.hex_address.ensures refl
