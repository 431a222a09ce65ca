-- What the writer holds, and one step.
use mathlib.Core.Path.{refl}
use Rattle.plan.proofs.orders.Writer.put.Goals as goal

pub returns : goal.returns
returns c = record { bytes = c.put_order-self.ensures.bytes; count = c.put_order-self.ensures.count; same_buffer = refl }
