-- One way through for each kind of line.
use Rattle.std.proofs.Common.{sym, ◌∙◌}
use borrow.Author.Tests.{eq-eqb, eqb-true}
use Rattle.std.proofs.lemmas.Result.{err_from_is_err_and}
use Rattle.words.specs.LawsChoice.{true_not_false}
use Rattle.hexread.specs.LawsTaken.{line_skipped, line_after, line_bad, line_record}
use Rattle.hexread.proofs.reader.Reader.take_line.Goals as goal

pub returns-then-is_empty-clause-taken : goal.returns-then-is_empty-clause-taken
returns-then-is_empty-clause-taken c = line_skipped _ _ _ _ _ (eqb-true _ 0 (sym c.is_empty.ensures ∙ c.if-is_empty.true))

pub returns-then-self-clause-taken : goal.returns-then-self-clause-taken
returns-then-self-clause-taken c = line_after _ _ _ _ _ (λ e. true_not_false (eq-eqb _ 0 e) (sym c.is_empty.ensures ∙ c.if-is_empty.false)) c.if-self.true

pub returns-in_err-record-clause-taken : goal.returns-in_err-record-clause-taken
returns-in_err-record-clause-taken c = let p = err_from_is_err_and c.from_residual.result c.from_residual.ensures.1 in
    rw (p.1, p.2) (line_bad _ _ _ _ _ (λ e. true_not_false (eq-eqb _ 0 e) (sym c.is_empty.ensures ∙ c.if-is_empty.false)) c.if-self.false _ c.in_err-record.ensures.number)

pub returns-clause-taken : goal.returns-clause-taken
returns-clause-taken c = line_record _ _ _ _ _ (λ e. true_not_false (eq-eqb _ 0 e) (sym c.is_empty.ensures ∙ c.if-is_empty.false)) c.if-self.false
    c.in_ok-record.ensures.number _ _ (c.take_record.ensures.taken _ c.in_ok-record.ensures.told)
