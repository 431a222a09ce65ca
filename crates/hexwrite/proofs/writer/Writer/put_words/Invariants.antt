-- What is still to be put, and still to be added.
use Rattle.hexwrite.specs.LawsWriteRun.{Putting}
use Rattle.hexwrite.proofs.writer.Writer.put_words.Given as goal

abbrev pub invariant-loop-word : goal.invariant-loop-word
invariant-loop-word l = Putting l.words l.initial.self l.self l.sum l.word-index
