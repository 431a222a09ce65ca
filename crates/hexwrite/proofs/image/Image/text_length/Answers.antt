-- What is counted and what is left make the whole.
use Rattle.hexwrite.specs.LawsWriteText.{counted_first, counted_on, counted_all}
use Rattle.hexwrite.proofs.image.Image.text_length.Goals as goal

pub loop-run-init : goal.loop-run-init
loop-run-init c = counted_first _ _ c.args.self.now.few c.args.self.now.long

pub loop-run-preserved : goal.loop-run-preserved
loop-run-preserved c = counted_on _ _ _ _ _ c.loop-run.invariant _ c.in-Some.ensures _ _ c.length-total.ensures.0 c.upper-upper.ensures

pub returns : goal.returns
returns c = counted_all _ _ _ _ _ c.loop-run.invariant c.in_default.ensures
