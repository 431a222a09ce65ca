-- What is still to be put, and still to be added.
use Rattle.hexwrite.specs.LawsWriteRun.{putting_first, putting_on, putting_done, putting_sum}
use native.Mathlib.Omega.{arith}
use Rattle.hexwrite.proofs.writer.Writer.put_words.Goals as goal

pub loop-word-init : goal.loop-word-init
loop-word-init c = putting_first _ _

pub loop-word-preserved : goal.loop-word-preserved
loop-word-preserved c = putting_on _ _ _ _ _ c.loop-word.invariant c.loop-word-test.true (omega (arith, c.type_inv.words c.loop-word.word-index))
    c.put_byte.ensures.puts c.put_byte.ensures.moved c.put_byte-in-loop-word.ensures.puts c.put_byte-in-loop-word.ensures.moved

pub returns-clause-puts : goal.returns-clause-puts
returns-clause-puts c = putting_done _ _ _ _ _ c.loop-word.invariant c.loop-word-test.false

pub returns-clause-sum : goal.returns-clause-sum
returns-clause-sum c = (putting_sum _ _ _ _ _ c.loop-word.invariant c.loop-word-test.false, omega arith)
