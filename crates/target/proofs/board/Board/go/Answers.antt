-- After each step the run stands where the definition says.
use Rattle.std.proofs.Common.{ℕ, ◌+◌, ◌*◌, ◌≡◌, refl, ◌∙◌, List, get_or, arith}
use Rattle.refusal.specs.LawsRefusal.{number_of_positive}
use Rattle.device.specs.declared.Device.{Device}
use Rattle.target.specs.Chip.{chip_of}
use Rattle.target.specs.Model.{code_at, payload_at}
use Rattle.target.specs.Step.{Target, decoded, step_effect}
use Rattle.target.specs.LawsRun.{step_is, going_none, going_more, going_stops, going_ends}
use Rattle.target.proofs.board.Board.go.Goals as goal

-- the step of the stream, on the device that the run began with
step_of : (d e : Device) → d ≡ e → (stream : List ℕ) (k payload : ℕ) → payload ≡ get_or stream (3 * k + 1) 0 + 256 * get_or stream (3 * k + 2) 0
    → (t : Target) → step_effect (chip_of d) (decoded (get_or stream (3 * k) 0) payload) t ≡ step_effect (chip_of e) (decoded (code_at stream k) (payload_at stream k)) t
step_of d e p stream k payload q t = rw (p, step_is stream k payload q)

pub loop-done-init : goal.loop-done-init
loop-done-init c = record { going = going_none _ _ _ _; device = refl; words = refl; cells = refl }

pub returns-in-Err-clause-goes : goal.returns-in-Err-clause-goes
returns-in-Err-clause-goes c = going_stops _ _ _ _ _ _ c.loop-done.invariant.going _ _
    (c.in-Err.ensures.whole ∙ step_of _ _ c.loop-done.invariant.device _ _ _ c.payload_at.ensures _) (λ z. omega (arith, number_of_positive c.in-Err.refusal)) _ c.loop-done-test.true

pub loop-done-preserved : goal.loop-done-preserved
loop-done-preserved c = record {
  going = going_more _ _ _ _ _ _ c.loop-done.invariant.going _ _
      (c.in_default.ensures.whole ∙ step_of _ _ c.loop-done.invariant.device _ _ _ c.payload_at.ensures _) refl;
  device = c.perform.ensures.device ∙ c.loop-done.invariant.device;
  words = c.perform.ensures.words ∙ c.loop-done.invariant.words;
  cells = c.perform.ensures.cells ∙ c.loop-done.invariant.cells;
}

pub returns-clause-goes : goal.returns-clause-goes
returns-clause-goes c = going_ends _ _ _ _ _ _ c.loop-done.invariant.going _ (omega arith)
