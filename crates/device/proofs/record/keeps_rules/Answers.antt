-- A row that is none of the three lengths is told before its multiples are.
use Rattle.std.proofs.Common.{sym, ◌∙◌, arith}
use Rattle.device.specs.LawsRecord.{row}
use Rattle.device.proofs.record.keeps_rules.Goals as goal

pub words_ok-requires : goal.words_ok-requires
words_ok-requires c = let r = row _ (sym c.row_ok.ensures ∙ c.if-row_ok.true) in omega arith
