-- The refusals in their order, then line 1 and the other lines.
use Rattle.std.proofs.Common.{◌+◌, arith, sym, ap, ◌∙◌}
use Rattle.std.proofs.lemmas.Result.{err_from_is_err_and}
use Rattle.refusal.specs.LawsRefusal.{number_of_positive}
use Rattle.device.specs.LawsMemory.{reading_long}
use Rattle.device.specs.LawsRecord.{rules_of_judged, ok_of_judged}
use Rattle.sheetwrite.specs.Write.{sheet_length}
use Rattle.sheetwrite.specs.LawsWrite.{refused_record, refused_reading, refused_short, all_written, sheet_put}
use Rattle.sheetwrite.proofs.write.write_sheet.Goals as goal

pub returns-in_err-of : goal.returns-in_err-of
returns-in_err-of c = let p = err_from_is_err_and c.from_residual.result c.from_residual.ensures.1 in rw (p.1, p.2) (refused_record _ _ _ _ (number_of_positive _) c.in_err-of.ensures.judged)

pub returns-then-not-is_reading : goal.returns-then-not-is_reading
returns-then-not-is_reading c = refused_reading _ _ _ (ok_of_judged _ (sym c.in_ok-of.ensures.judged)) (sym c.is_reading.ensures ∙ c.if-not-is_reading.true)

pub returns-then-out-length : goal.returns-then-out-length
unfolding sheet_length
returns-then-out-length c = refused_short _ _ _ (ok_of_judged _ (sym c.in_ok-of.ensures.judged)) (sym c.is_reading.ensures ∙ c.if-not-is_reading.false) (omega (arith, c.if-out-length.true, c.body_length-length.ensures.0))

pub put_body-requires : goal.put_body-requires
put_body-requires c = let r = (rules_of_judged _ (sym c.in_ok-of.ensures.judged)) in (
  omega arith,
  omega (arith, c.if-out-length.false, c.body_length-length.ensures.0),
  reading_long _ _ (sym c.is_reading.ensures ∙ c.if-not-is_reading.false),
)

pub returns : goal.returns
unfolding sheet_length
returns c = all_written _ _ _ (ok_of_judged _ (sym c.in_ok-of.ensures.judged)) (sym c.is_reading.ensures ∙ c.if-not-is_reading.false) (omega (arith, c.if-out-length.false, c.body_length-length.ensures.0)) _
    (ap (λ n. 5 + n) c.body_length-length.ensures.0) _ (sheet_put _ _ _ _ _ _ c.put_word.ensures c.put.ensures c.put_body.ensures)
