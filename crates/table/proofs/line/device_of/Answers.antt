-- Each field is a number, and the record of them keeps the rules.
use Rattle.std.proofs.Common.{sym, ◌∙◌, arith}
use Rattle.table.specs.LawsLine.{below_fits, no_id, no_words, no_row, no_mask1, no_mask2, no_idmask, no_rules, made, kept_of_ok, broken_of_none}
use Rattle.table.proofs.line.device_of.Goals as goal

pub returns-in_err-id : goal.returns-in_err-id
returns-in_err-id c = rw c.from_residual.ensures (no_id _ _ _ _ _ _ (sym c.hex_field.ensures ∙ c.in_err-id.was))

pub returns-in_err-words : goal.returns-in_err-words
returns-in_err-words c = rw c.from_residual-in_err-words.ensures (no_words _ _ _ _ _ _ (sym c.read.ensures ∙ c.in_err-words.was))

pub returns-in_err-row : goal.returns-in_err-row
returns-in_err-row c = rw c.from_residual-in_err-row.ensures (no_row _ _ _ _ _ _ (sym c.read-2.ensures ∙ c.in_err-row.was))

pub returns-in_err-mask1 : goal.returns-in_err-mask1
returns-in_err-mask1 c = rw c.from_residual-in_err-mask1.ensures (no_mask1 _ _ _ _ _ _ (sym c.hex_field-2.ensures ∙ c.in_err-mask1.was))

pub returns-in_err-mask2 : goal.returns-in_err-mask2
returns-in_err-mask2 c = rw c.from_residual-in_err-mask2.ensures (no_mask2 _ _ _ _ _ _ (sym c.hex_field-3.ensures ∙ c.in_err-mask2.was))

pub returns-in_err-idmask : goal.returns-in_err-idmask
returns-in_err-idmask c = rw c.from_residual-in_err-idmask.ensures (no_idmask _ _ _ _ _ _ (sym c.hex_field-4.ensures ∙ c.in_err-idmask.was))

pub returns-in_err-ok : goal.returns-in_err-ok
returns-in_err-ok c = rw c.from_residual-in_err-ok.ensures (no_rules _ _ _ _ _ _ _ _ _ _ _ _
    (sym c.hex_field.ensures ∙ c.in_ok-id.was) (sym c.read.ensures ∙ c.in_ok-words.was) (sym c.read-2.ensures ∙ c.in_ok-row.was)
    (sym c.hex_field-2.ensures ∙ c.in_ok-mask1.was) (sym c.hex_field-3.ensures ∙ c.in_ok-mask2.was) (sym c.hex_field-4.ensures ∙ c.in_ok-idmask.was)
    (broken_of_none _ _ c.judge.ensures (sym c.ok.ensures.value ∙ c.in_err-ok.was)))

pub overflow_cast-device : goal.overflow_cast-device
overflow_cast-device c = omega (arith, below_fits _ _ _ (sym c.read.ensures ∙ c.in_ok-words.was))

pub overflow_cast-device-2 : goal.overflow_cast-device-2
overflow_cast-device-2 c = omega (arith, below_fits _ _ _ (sym c.read-2.ensures ∙ c.in_ok-row.was))

pub returns : goal.returns
returns c = made _ _ _ _ _ _ _ _ _ _ _ _
    (sym c.hex_field.ensures ∙ c.in_ok-id.was) (sym c.read.ensures ∙ c.in_ok-words.was) (sym c.read-2.ensures ∙ c.in_ok-row.was)
    (sym c.hex_field-2.ensures ∙ c.in_ok-mask1.was) (sym c.hex_field-3.ensures ∙ c.in_ok-mask2.was) (sym c.hex_field-4.ensures ∙ c.in_ok-idmask.was)
    (kept_of_ok _ _ _ c.judge.ensures (sym c.ok.ensures.value ∙ c.in_ok-ok.was))
