-- A byte in each turn, and at the end none is left to store.
use Rattle.std.specs.Prelude.{◌≡◌, length}
use Rattle.std.proofs.Common.{refl, ◌∙◌, rules, arith}
use Rattle.print.specs.LawsPrint.{text_turn, text_done}
use Rattle.print.proofs.text.Goals as goal

pub loop-i-init : goal.loop-i-init
loop-i-init c = (refl, refl)

pub loop-i-preserved : goal.loop-i-preserved
loop-i-preserved c = (c.loop-i.invariant.0 ∙ text_turn _ _ _ _ c.loop-i-test.true c.put.ensures, search rules)

pub returns : goal.returns
returns c = let e : c.loop-i.i ≡ length c.args.text.now = omega arith in text_done _ _ _ _ (omega arith) (omega arith) (rw e at c.loop-i.invariant.0)
