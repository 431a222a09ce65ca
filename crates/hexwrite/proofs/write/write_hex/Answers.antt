-- A law for each way out.
use Rattle.std.proofs.lemmas.Result.{err_from_is_err_and}
use Rattle.hexwrite.specs.LawsAnswer.{wrote_refusal, wrote_26, wrote_0}
use Rattle.hexwrite.proofs.write.write_hex.Goals as goal

pub returns-in_err-image : goal.returns-in_err-image
returns-in_err-image c = let p = err_from_is_err_and c.from_residual.result c.from_residual.ensures.1 in
    rw (p.1, p.2) (wrote_refusal _ _ _ _ (c.in_err-image.ensures _))

pub returns-then-out-length : goal.returns-then-out-length
returns-then-out-length c = let e = c.in_ok-image.ensures in
    wrote_26 _ _ _ e.0 e.1 _ (rw (e.2, e.3) at c.text_length-length.ensures) c.if-out-length.true

pub returns : goal.returns
returns c = let e = c.in_ok-image.ensures in
    wrote_0 _ _ _ e.0 e.1 _ (rw (e.2, e.3) at c.text_length-length.ensures) _ c.if-out-length.false (rw (e.2, e.3) at c.put_text.ensures)
