-- The three types in turn.
use Rattle.std.proofs.Common.{inl, inr}
use borrow.Author.Rules.{rules}
use native.Mathlib.Omega.{arith}
use Rattle.hexread.specs.LawsDecode.{kind_odd, kind_data, kind_no_end, kind_end, kind_no_upper, kind_upper, kind_unknown}
use Rattle.hexread.proofs.line.record_of.Goals as goal
use Rattle.hexread.proofs.line.record_of.Goals.{then-offset-ne0-via-then-offset-ne0, then-offset-ne0-via-else-offset-ne0+then-count-ne0, then-offset-ne0-2-via-then-offset-ne0-2, then-offset-ne0-2-via-else-offset-ne0-2+then-count-ne0-2, then-offset-ne0-3-via-then-offset-ne0-3, then-offset-ne0-3-via-else-offset-ne0-3+then-count-ne2}

pub returns-then-offset-ne0 : goal.returns-then-offset-ne0
returns-then-offset-ne0 c = elim c.then-offset-ne0.branch [
  | then-offset-ne0-via-then-offset-ne0 w ↦ kind_odd _ _ _ c.offset_of-offset.ensures c.in-0.is (inl w.if-offset-ne0.true)
  | then-offset-ne0-via-else-offset-ne0+then-count-ne0 w ↦ kind_odd _ _ _ c.offset_of-offset.ensures c.in-0.is (inr w.if-count-ne0.true)
]

pub returns-then-offset-ne0-2 : goal.returns-then-offset-ne0-2
returns-then-offset-ne0-2 c = elim c.then-offset-ne0-2.branch [
  | then-offset-ne0-2-via-then-offset-ne0-2 w ↦ kind_no_end _ _ _ c.offset_of-offset.ensures c.in-1.is (inl w.if-offset-ne0-2.true)
  | then-offset-ne0-2-via-else-offset-ne0-2+then-count-ne0-2 w ↦ kind_no_end _ _ _ c.offset_of-offset.ensures c.in-1.is (inr w.if-count-ne0-2.true)
]

pub returns-then-offset-ne0-3 : goal.returns-then-offset-ne0-3
returns-then-offset-ne0-3 c = elim c.then-offset-ne0-3.branch [
  | then-offset-ne0-3-via-then-offset-ne0-3 w ↦ kind_no_upper _ _ _ c.offset_of-offset.ensures c.in-4.is (inl w.if-offset-ne0-3.true)
  | then-offset-ne0-3-via-else-offset-ne0-3+then-count-ne2 w ↦ kind_no_upper _ _ _ c.offset_of-offset.ensures c.in-4.is (inr w.if-count-ne2.true)
]

pub returns-else-count-ne0 : goal.returns-else-count-ne0
returns-else-count-ne0 c = kind_data _ _ _ c.offset_of-offset.ensures c.in-0.is c.if-offset-ne0.false c.if-count-ne0.false

pub returns-else-count-ne0-2 : goal.returns-else-count-ne0-2
returns-else-count-ne0-2 c = kind_end _ _ _ c.offset_of-offset.ensures c.in-1.is c.if-offset-ne0-2.false c.if-count-ne0-2.false

pub returns-else-count-ne2 : goal.returns-else-count-ne2
returns-else-count-ne2 c = kind_upper _ _ _ c.offset_of-offset.ensures c.in-4.is c.if-offset-ne0-3.false c.if-count-ne2.false _ (omega arith)

pub returns-in_default : goal.returns-in_default
returns-in_default c = kind_unknown _ _ (search rules) (search rules) (search rules)
