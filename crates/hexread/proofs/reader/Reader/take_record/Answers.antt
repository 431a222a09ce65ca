-- A law for each record.
use Rattle.std.proofs.lemmas.Result.{err_from_is_err_and}
use Rattle.hexread.specs.LawsTaken.{taken_end, taken_upper, taken_data, taken_word}
use Rattle.hexread.proofs.reader.Reader.take_record.Goals as goal

pub returns-in_err-give_record-in-Data-clause-taken : goal.returns-in_err-give_record-in-Data-clause-taken
returns-in_err-give_record-in-Data-clause-taken c = let p = err_from_is_err_and c.from_residual.result c.from_residual.ensures.1 in
    λ line t. rw (p.1, p.2, c.requires.0) (taken_word _ line _ _ _ _ _ (rw c.in-Data.is at t) _ _ c.in_err-give_record-in-Data.ensures)

pub returns-in_ok-give_record-in-Data-clause-taken : goal.returns-in_ok-give_record-in-Data-clause-taken
returns-in_ok-give_record-in-Data-clause-taken c = λ line t. rw c.requires.0 (taken_data _ line _ _ _ _ _ (rw c.in-Data.is at t) _ c.in_ok-give_record-in-Data.ensures)

pub returns-in-End-clause-taken : goal.returns-in-End-clause-taken
returns-in-End-clause-taken c = λ line t. taken_end _ line _ _ _ (rw c.in-End.is at t)

pub returns-in-Upper-clause-taken : goal.returns-in-Upper-clause-taken
returns-in-Upper-clause-taken c = λ line t. rw c.requires.0 (taken_upper _ line _ _ _ _ (rw c.in-Upper.is at t))
