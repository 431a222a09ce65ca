-- After each step the run stands where the definition says, and the same buffers are lent.
use Rattle.std.proofs.Common.{◌≡◌}
use Rattle.target.specs.Run.{run_refusal}
use Rattle.target.specs.LawsRun.{Going}
use Rattle.target.specs.LawsHeld.{chip_at, target_of}
use Rattle.target.proofs.board.Board.go.Given as goal

abbrev pub invariant-loop-done : goal.invariant-loop-done
invariant-loop-done l = record {
  going : Going (chip_at l.initial.self) (run_refusal l.initial.self.sound.device) l.stream (target_of l.initial.self) l.done (target_of l.self);
  device : l.self.sound.device ≡ l.initial.self.sound.device;
  words : l.self.words.ghost_name ≡ l.initial.self.words.ghost_name;
  cells : l.self.cells.ghost_name ≡ l.initial.self.cells.ghost_name;
}
