-- The words from here on are left to be written.
use mathlib.Core.Path.{sym, ◌∙◌}
use Rattle.plan.specs.LawsPlanSteps.{writes_yes, writes_no, writes_none, word_same}
use Rattle.plan.specs.LawsPlanWrote.{left_all, left_same, left_next, left_none, room_next, room_same, wrote_same}
use Rattle.plan.proofs.task.Task.put_writes.Goals as goal
use Rattle.plan.proofs.task.Task.put_writes.Goals.{then-is_written, else-is_written}

pub loop-k-init : goal.loop-k-init
loop-k-init c = left_all

pub word-requires : goal.word-requires
word-requires c = record {
  word_bound = rw c.wanted-word.ensures (c.args.self.now.source.fits _);
  room = room_same (word_same _ _ _ _ (sym c.wanted-word.ensures))
      (room_next _ (left_same (writes_yes _ _ _ _ _ c.loop-k-test.true (sym c.is_written.ensures ∙ c.if-is_written.true)) c.loop-k.invariant) c.requires);
}

pub loop-k-preserved : goal.loop-k-preserved
loop-k-preserved c = elim c.if-is_written.branch [
  | then-is_written w ↦ rw (w.w-is, w.at-is)
      (left_next _ (left_same (writes_yes _ _ _ _ _ c.loop-k-test.true (sym c.is_written.ensures ∙ w.if-is_written.true)) c.loop-k.invariant)
      (wrote_same (word_same _ _ _ _ w.wanted-word.ensures) w.word.ensures))
  | else-is_written w ↦ rw (w.w-is, w.at-is)
      (left_same (writes_no _ _ _ _ _ c.loop-k-test.true (sym c.is_written.ensures ∙ w.if-is_written.false)) c.loop-k.invariant)
]

pub returns : goal.returns
returns c = left_none (left_same (writes_none _ _ _ _ _ c.loop-k-test.false) c.loop-k.invariant)
