-- The three bytes of a step.
use native.Mathlib.Omega.{arith}
use Rattle.plan.specs.LawsPlanWrote.{bytes_one}
use Rattle.plan.proofs.orders.put_order.Goals as goal

pub returns-clause-bytes : goal.returns-clause-bytes
returns-clause-bytes c = bytes_one _ _ _ _ _ _ c.code_of.ensures c.payload_of.ensures (omega arith) c.to_le_bytes-payload.ensures
