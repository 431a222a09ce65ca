-- Each test in the definition's order.
use Rattle.std.proofs.Common.{sym, ◌∙◌}
use borrow.Author.Tests.{eqb-true}
use Rattle.hexread.specs.LawsLine.{no_line, no_colon}
use Rattle.hexread.specs.LawsDecode.{judged_2, no_count_there, wrong_length_there, no_digits_there, wrong_sum_there, judged_kind}
use Rattle.hexread.proofs.digits.Digits.judge_line.Goals as goal
use Rattle.hexread.proofs.digits.Digits.judge_line.Goals.{then-is_empty-via-then-is_empty, then-is_empty-via-else-is_empty+then-line-ne58}

pub returns-then-is_empty : goal.returns-then-is_empty
returns-then-is_empty c = elim c.then-is_empty.branch [
  | then-is_empty-via-then-is_empty w ↦ judged_2 _ _ (no_line _ (eqb-true _ 0 (sym c.is_empty.ensures ∙ w.if-is_empty.true)))
  | then-is_empty-via-else-is_empty+then-line-ne58 w ↦ judged_2 _ _ (no_colon _ w.if-line-ne58.true)
]

pub returns-in_default : goal.returns-in_default
returns-in_default c = no_count_there _ _ c.in_default.ensures

pub returns-then-line-n : goal.returns-then-line-n
returns-then-line-n c = wrong_length_there _ _ _ c.in-Some.ensures (rw c.from-n.ensures at c.if-line-n.true)

pub returns-in_default-decode : goal.returns-in_default-decode
returns-in_default-decode c = no_digits_there _ _ _ c.in-Some.ensures c.if-line-ne58.false (rw c.from-n.ensures at c.if-line-n.false) (rw (c.from-n.ensures, c.in_default-decode.is) at c.decode.ensures)

pub returns-then-sum-ne0 : goal.returns-then-sum-ne0
returns-then-sum-ne0 c = wrong_sum_there _ _ _ c.in-Some.ensures c.if-line-ne58.false (rw c.from-n.ensures at c.if-line-n.false) _ (rw (c.from-n.ensures, c.in-Some-decode.is) at c.decode.ensures) c.if-sum-ne0.true

pub returns : goal.returns
returns c = judged_kind _ _ _ c.in-Some.ensures c.if-line-ne58.false (rw c.from-n.ensures at c.if-line-n.false) _ (rw (c.from-n.ensures, c.in-Some-decode.is) at c.decode.ensures) c.if-sum-ne0.false _ c.record_of.ensures
