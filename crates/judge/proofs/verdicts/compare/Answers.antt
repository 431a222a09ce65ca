-- Stretches that are the same are passed, and others looked at.
use Rattle.std.proofs.Common.{◌≡◌, ◌+◌, ◌*◌, rules, arith}
use Rattle.judge.specs.Count.{count_to}
use Rattle.judge.specs.LawsStretch.{seen_same}
use Rattle.judge.proofs.verdicts.compare.Goals as goal
use Rattle.judge.proofs.verdicts.compare.Goals.{then-ne, else-ne}

pub loop-k-init : goal.loop-k-init
unfolding count_to
loop-k-init c = search rules

pub loop-k-preserved : goal.loop-k-preserved
loop-k-preserved c =
    let next : c.loop-k.k * 8 + 8 ≡ (c.loop-k.k + 1) * 8 = omega arith in
    rw (← next) (elim c.if-ne.branch [
      | then-ne w ↦ rw w.found-is w.look-found.ensures
      | else-ne w ↦ rw w.found-is (seen_same _ _ _ _ _ _ _ (omega arith) (omega arith) _ _ c.as_chunks.ensures.front c.as_chunks-2.ensures.front w.if-ne.ensures _ c.loop-k.invariant)
    ])
