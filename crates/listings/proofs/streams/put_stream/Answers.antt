-- A step in each turn; what is left to print gets shorter.
use Rattle.std.proofs.Common.{◌<◌, length, arith, ap, ◌∙◌}
use Rattle.std.specs.Slice.Iter.{chunks_exact_rest, chunks_exact_size}
use Rattle.listings.specs.LawsStreams.{printing_all, printing_step, printing_done}
use Rattle.listings.proofs.streams.put_stream.Goals as goal

pub loop-step-init : goal.loop-step-init
loop-step-init c =
    let items = c.chunks_exact-step-items.ensures in
    let same = c.into_iter-step-iterator.ensures.into_iter_gives in
    record {
      three = ap chunks_exact_size same ∙ items.size;
      left = rw (same, items.rest) (printing_all _ _);
    }

pub loop-step-preserved : goal.loop-step-preserved
loop-step-preserved c =
    let steps = c.in-Some.ensures.steps in
    record {
      three = steps.0 ∙ c.loop-step.invariant.three;
      left = printing_step _ _ _ _ _ c.loop-step.invariant.left _ _ steps.1.0 (steps.1.1 ∙ c.loop-step.invariant.three) _ _ c.put_step-at.ensures;
    }

pub put_step-at-requires : goal.put_step-at-requires
put_step-at-requires c = omega (arith, c.loop-step.invariant.left.pace)

pub returns : goal.returns
returns c =
    let few : length (chunks_exact_rest c.loop-step.step-iterator) < 3 = omega (arith, c.in-None.ensures.steps.1.0, c.loop-step.invariant.three) in
    printing_done _ _ _ _ _ c.loop-step.invariant.left few
