-- What is left of the record's words gives the rest.
use native.Mathlib.Omega.{arith}
use Rattle.hexread.specs.LawsGive.{giving_none, giving_7, giving_8, giving_9, giving_on, giving_all}
use Rattle.hexread.proofs.give.give.Goals as goal

pub loop-j-init : goal.loop-j-init
loop-j-init g c = giving_none _ _ _ _

pub returns-in_default : goal.returns-in_default
returns-in_default g c = giving_7 _ _ _ _ _ _ c.loop-j.invariant c.loop-j-test.true c.in_default.ensures

pub returns-then-word-ge-WORD_LIMIT : goal.returns-then-word-ge-WORD_LIMIT
returns-then-word-ge-WORD_LIMIT g c = giving_8 _ _ _ _ _ _ c.loop-j.invariant c.loop-j-test.true _ c.in-Some.ensures _ c.word_at-word.ensures c.if-word-ge-WORD_LIMIT.true

pub returns-then-image-i : goal.returns-then-image-i
returns-then-image-i g c = giving_9 _ _ _ _ _ _ c.loop-j.invariant c.loop-j-test.true _ c.in-Some.ensures _ c.word_at-word.ensures
    c.if-word-ge-WORD_LIMIT.false (omega (arith, c.requires.inside c.loop-j.j c.in-Some.i c.loop-j-test.true c.in-Some.ensures)) c.if-image-i.true

pub loop-j-preserved : goal.loop-j-preserved
loop-j-preserved g c = giving_on _ _ _ _ _ _ c.loop-j.invariant c.loop-j-test.true _ c.in-Some.ensures _ c.word_at-word.ensures
    c.if-word-ge-WORD_LIMIT.false (omega (arith, c.requires.inside c.loop-j.j c.in-Some.i c.loop-j-test.true c.in-Some.ensures)) c.if-image-i.false

pub returns : goal.returns
returns g c = giving_all _ _ _ _ _ _ c.loop-j.invariant (omega arith)
