-- The refusals in their order, then line 1 and the other lines.
use Rattle.std.proofs.Common.{◌+◌, length, arith, sym, ap, ◌∙◌}
use Rattle.std.proofs.lemmas.Result.{err_from_is_err_and}
use Rattle.device.specs.LawsMemory.{reading_long}
use Rattle.sheetwrite.specs.Write.{new_length}
use Rattle.sheetwrite.specs.LawsWrite.{new_no_name, new_refused, new_rules, new_reading, new_short, new_all}
use Rattle.sheetwrite.proofs.write.write_new_sheet.Goals as goal

pub returns-then-not-is_name : goal.returns-then-not-is_name
returns-then-not-is_name c = new_no_name _ _ _ _ (sym c.is_name.ensures ∙ c.if-not-is_name.true)

pub returns-in_err-sum : goal.returns-in_err-sum
returns-in_err-sum c = let p = err_from_is_err_and c.from_residual.result c.from_residual.ensures.1 in rw (p.1, p.2) (new_refused _ _ _ _ (sym c.is_name.ensures ∙ c.if-not-is_name.false) _ c.in_err-sum.ensures)

pub returns-then-out-whole : goal.returns-then-out-whole
unfolding new_length
returns-then-out-whole c = new_short _ _ _ _ (sym c.is_name.ensures ∙ c.if-not-is_name.false) _ c.in_ok-sum.ensures (omega (arith, c.if-out-whole.true, c.body_length.ensures.0))

pub put_body-requires : goal.put_body-requires
put_body-requires c = let r = new_rules _ c.args.name.now _ c.args.out.now (sym c.is_name.ensures ∙ c.if-not-is_name.false) _ c.in_ok-sum.ensures in (
  omega arith,
  omega (arith, c.if-out-whole.false, c.body_length.ensures.0),
  reading_long _ _ (new_reading _ c.args.name.now _ c.args.out.now (sym c.is_name.ensures ∙ c.if-not-is_name.false) _ c.in_ok-sum.ensures),
)

pub returns : goal.returns
unfolding new_length
returns c = new_all _ _ _ _ (sym c.is_name.ensures ∙ c.if-not-is_name.false) _ c.in_ok-sum.ensures (omega (arith, c.if-out-whole.false, c.body_length.ensures.0)) _
    (ap (λ n. 11 + length c.args.name.now + n) c.body_length.ensures.0) _ _ c.put_first.ensures c.put_body.ensures
