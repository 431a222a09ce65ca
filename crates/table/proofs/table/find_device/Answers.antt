-- A sound table, and a line in it whose device the ID fits.
use Rattle.std.proofs.Common.{sym, ◌∙◌}
use Rattle.std.proofs.lemmas.Bool.{some_since}
use Rattle.std.proofs.lemmas.Result.{err_from_is_err_and}
use Rattle.std.proofs.lemmas.Option.{MatchOption-at_some}
use Rattle.refusal.specs.LawsRefusal.{number_of_positive}
use Rattle.table.specs.LawsTable.{found_refused, good_of_number, ahead_all, ahead_none, ahead_sound, ahead_here, ahead_on}
use Rattle.table.proofs.table.find_device.Goals as goal

pub returns-in_err-judge_table : goal.returns-in_err-judge_table
returns-in_err-judge_table c = let p = err_from_is_err_and c.from_residual.result c.from_residual.ensures.1 in rw (p.1, p.2) (found_refused _ _ _ (number_of_positive _) c.in_err-judge_table.ensures)

pub loop-line-init : goal.loop-line-init
loop-line-init c = ahead_all _ _ (good_of_number _ (sym c.in_ok-judge_table.ensures))

pub unwrap-read-requires : goal.unwrap-read-requires
unwrap-read-requires c = some_since _ _ _ c.read_line.ensures (ahead_sound _ _ _ c.loop-line.invariant _ _ c.in-Some.ensures)

pub returns-then-fits : goal.returns-then-fits
returns-then-fits c = ahead_here _ _ _ c.loop-line.invariant _ _ c.in-Some.ensures _ _ (MatchOption-at_some _ _ _ c.unwrap-read.ensures c.read_line.ensures) (sym c.fits.ensures ∙ c.if-fits.true)

pub loop-line-preserved : goal.loop-line-preserved
loop-line-preserved c = ahead_on _ _ _ c.loop-line.invariant _ _ c.in-Some.ensures _ _ (MatchOption-at_some _ _ _ c.unwrap-read.ensures c.read_line.ensures) (sym c.fits.ensures ∙ c.if-fits.false)

pub returns : goal.returns
returns c = ahead_none _ _ _ c.loop-line.invariant c.in_default.ensures
