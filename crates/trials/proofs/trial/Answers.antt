-- The board is refused, a line of the stream is, or the stream is played on the board.
use Rattle.std.proofs.Common.{arith, rules, sym, ap, ◌∙◌}
use Rattle.print.specs.LawsPrint.{prints_as, printed}
use Rattle.sheet.specs.FirstLine.{id_told}
use Rattle.sheet.specs.LawsFirstLine.{first_small}
use Rattle.board.specs.LawsBoard.{board_answered}
use Rattle.trials.specs.LawsTrial.{id_there, trial_refused, trial_34, trial_run, trial_short}
use Rattle.trials.proofs.trial.Goals as goal

pub returns-in-Err : goal.returns-in-Err
returns-in-Err c = printed _ (trial_short _ _ _) (prints_as _ _ _ _ _ (trial_refused _ _ _ _ c.in-Err.ensures.number _ (omega arith)) c.refusal.ensures)

pub returns-in-Err-read_stream : goal.returns-in-Err-read_stream
returns-in-Err-read_stream c = printed _ (trial_short _ _ _) (prints_as _ _ _ _ _ (trial_34 _ _ _ c.in-Ok.ensures.number _ c.in-Err-read_stream.ensures _ c.number-in-Err-read_stream.ensures) c.refusal-in-Err-read_stream.ensures)

pub unwrap-id-requires : goal.unwrap-id-requires
unwrap-id-requires c = id_there _ _ c.in-Ok.ensures.number _ c.read_id.ensures

pub slice_bounds-reading-end : goal.slice_bounds-reading-end
slice_bounds-reading-end c =
    let o = c.in-Ok.ensures in
    (board_answered _ _ o.number _ o.found _ o.buffer).within

pub slice_bounds-put_run-end : goal.slice_bounds-put_run-end
slice_bounds-put_run-end c =
    let o = c.in-Ok.ensures in
    sym (board_answered _ _ o.number _ o.found _ o.buffer).long

pub put_run-requires : goal.put_run-requires
put_run-requires c =
    let o = c.in-Ok.ensures in
    let b = board_answered _ _ o.number _ o.found _ o.buffer in
    (b.served, b.good, first_small _ _ (sym (ap id_told c.unwrap-id.ensures) ∙ c.read_id.ensures))

pub returns : goal.returns
returns c =
    let o = c.in-Ok.ensures in
    let b = board_answered _ _ o.number _ o.found _ o.buffer in
    printed _ (trial_short _ _ _) (prints_as _ _ _ _ _
    (trial_run _ _ _ o.number _ (search rules) _ _ c.in-Ok-read_stream.ensures _ _ b _ (ap (λ x. x.id) (sym (ap id_told c.unwrap-id.ensures) ∙ c.read_id.ensures)))
    c.put_run.ensures)
