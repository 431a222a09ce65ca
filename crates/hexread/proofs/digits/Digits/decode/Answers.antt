-- The bytes passed are stored and added up.
use native.Mathlib.Omega.{arith}
use Rattle.std.proofs.Common.{ap, ◌∙◌}
use Rattle.words.specs.Choice.{below}
use Rattle.hexread.specs.LawsDecode.{decoding_none, decoding_bad, decoding_more, decoding_all, byte_is}
use Rattle.hexread.proofs.digits.Digits.decode.Goals as goal

pub loop-j-init : goal.loop-j-init
loop-j-init c = decoding_none _ _ _ (omega arith)

pub returns-in_err-b : goal.returns-in_err-b
returns-in_err-b c = rw c.from_residual.ensures (decoding_bad _ _ _ _ _ c.loop-j.invariant c.loop-j-test.true (c.in_err-b.ensures ∙ ap (below 256) (byte_is _ _)) _)

pub loop-j-preserved : goal.loop-j-preserved
loop-j-preserved c = rw c.from-sum.ensures (decoding_more _ _ _ _ _ c.loop-j.invariant c.loop-j-test.true c.requires.0 _ (c.in_ok-b.ensures ∙ ap (below 256) (byte_is _ _)))

pub returns : goal.returns
returns c = decoding_all _ _ _ _ _ c.loop-j.invariant c.loop-j-test.false
