-- An ID, and what stands after it.
use Rattle.std.proofs.Common.{sym, ◌∙◌, arith}
use Rattle.std.proofs.lemmas.Bool.{ltb-false}
use Rattle.sheet.specs.LawsFirstLine.{head_no_id, head_no_word, head_short, id_there, head_old, head_neither}
use Rattle.sheet.proofs.first.read_line.Goals as goal

pub returns-in_err-id : goal.returns-in_err-id
returns-in_err-id c = rw c.from_residual.ensures (head_no_id _ (sym c.capital_word.ensures ∙ c.in_err-id.was))

pub returns-then-id-ge-WORD_LIMIT : goal.returns-then-id-ge-WORD_LIMIT
returns-then-id-ge-WORD_LIMIT c = head_no_word _ _ (sym c.capital_word.ensures ∙ c.in_ok-id.was) c.if-id-ge-WORD_LIMIT.true

pub returns-in_err-get : goal.returns-in_err-get
returns-in_err-get c = rw c.from_residual-in_err-get.ensures (head_short _ (ltb-false _ _ (sym c.in_err-get.ensures.lookup.0)))

pub read_fields-requires-clause-id : goal.read_fields-requires-clause-id
read_fields-requires-clause-id c = id_there _ _ (sym c.capital_word.ensures ∙ c.in_ok-id.was)

pub returns-in-10 : goal.returns-in-10
returns-in-10 c = head_old _ _ (sym c.capital_word.ensures ∙ c.in_ok-id.was) (omega arith) (sym (c.in_ok-get.ensures.lookup.3.1 0) ∙ c.in-10.is)

pub returns-in_default : goal.returns-in_default
returns-in_default c = head_neither _ _ (sym c.capital_word.ensures ∙ c.in_ok-id.was) (omega arith) (λ e. omega (arith, c.in_ok-get.ensures.lookup.3.1 0)) (λ e. omega (arith, c.in_ok-get.ensures.lookup.3.1 0))
