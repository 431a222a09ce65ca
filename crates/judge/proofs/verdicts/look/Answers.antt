-- One entry more, by whether it is judged and differs.
use Rattle.std.proofs.Common.{arith, sym, ◌∙◌}
use Rattle.judge.specs.LawsCount.{seen_yes, seen_no, seen_few}
use Rattle.judge.specs.LawsVerify.{differs_of}
use Rattle.judge.proofs.verdicts.look.Goals as goal

pub overflow_add-found : goal.overflow_add-found
overflow_add-found c = omega (arith, seen_few _ _ _ c.loop-i.invariant.2 _ _ c.unwrap_or-seen.ensures, c.in-Some.ensures.steps)

pub loop-i-preserved-then-differ : goal.loop-i-preserved-then-differ
loop-i-preserved-then-differ c = let h = c.in-Some.ensures.steps in
    rw h.1.2 (
      omega (arith, h),
      omega (arith, h),
      seen_yes _ _ _ h.1.1
          (sym (differs_of _ _ _ _ _ _ c.requires.3 c.differ.ensures) ∙ c.if-differ.true) _ c.loop-i.invariant.2 _ c.unwrap_or-seen.ensures,
    )

pub loop-i-preserved : goal.loop-i-preserved
loop-i-preserved c = let h = c.in-Some.ensures.steps in
    rw h.1.2 (
      omega (arith, h),
      omega (arith, h),
      seen_no _ _ _ h.1.1
          (sym (differs_of _ _ _ _ _ _ c.requires.3 c.differ.ensures) ∙ c.if-differ.false) _ c.loop-i.invariant.2,
    )
