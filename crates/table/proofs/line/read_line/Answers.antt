-- The fields, the name, the device.
use Rattle.std.proofs.Common.{sym, ◌∙◌}
use Rattle.table.specs.LawsLine.{no_line, no_name, no_device, whole_line}
use Rattle.table.proofs.line.read_line.Goals as goal

pub returns-in_err-fields : goal.returns-in_err-fields
returns-in_err-fields c = rw c.from_residual.ensures (no_line _ c.in_err-fields.ensures)

pub returns-then-not-is_name : goal.returns-then-not-is_name
returns-then-not-is_name c = no_name _ _ _ _ _ _ _ _ c.in_ok-fields.ensures (sym c.is_name.ensures ∙ c.if-not-is_name.true)

pub returns-in_err-device : goal.returns-in_err-device
returns-in_err-device c = rw c.from_residual-in_err-device.ensures (no_device _ _ _ _ _ _ _ _ c.in_ok-fields.ensures c.in_err-device.ensures)

pub returns : goal.returns
returns c = whole_line _ _ _ _ _ _ _ _ c.in_ok-fields.ensures _ (sym c.is_name.ensures ∙ c.if-not-is_name.false) c.in_ok-device.ensures
