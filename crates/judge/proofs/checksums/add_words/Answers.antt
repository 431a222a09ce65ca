-- The words passed are added up.
use Rattle.std.proofs.Common.{◌<◌, sym, arith}
use Rattle.std.proofs.lemmas.List.{get_or-take, length-take-le}
use Rattle.judge.specs.LawsChecksum.{sum_none, sum_on}
use Rattle.judge.proofs.checksums.add_words.Goals as goal

pub loop-word-init : goal.loop-word-init
loop-word-init c = (sym (sum_none _), omega arith)

pub loop-word-preserved : goal.loop-word-preserved
loop-word-preserved c =
    let h : c.loop-word.word-index < c.args.words = omega (arith, length-take-le _ _ c.requires.1) in
    rw get_or-take (sum_on _ _ _ c.loop-word.invariant.0, omega (arith, c.type_inv.reading c.loop-word.word-index))
