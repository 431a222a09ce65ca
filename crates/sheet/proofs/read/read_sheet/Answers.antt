-- The record, the name, the room; then the sheet, and last its words.
use Rattle.std.proofs.Common.{sym, ◌∙◌}
use Rattle.std.proofs.lemmas.Result.{err_from_is_err_and}
use Rattle.refusal.specs.LawsRefusal.{number_of_positive}
use Rattle.device.specs.LawsRecord.{rules_of_judged}
use Rattle.sheet.specs.LawsRead.{read_no_record, read_no_name, read_no_room, read_refused, read_lines, read_all}
use Rattle.sheet.proofs.read.read_sheet.Goals as goal

pub returns-in_err-sound : goal.returns-in_err-sound
returns-in_err-sound c = let p = err_from_is_err_and c.from_residual.result c.from_residual.ensures.1 in rw (p.1, p.2) (read_no_record _ _ _ _ _ (number_of_positive _) c.in_err-sound.ensures.judged)

pub returns-then-not-is_name : goal.returns-then-not-is_name
returns-then-not-is_name c = read_no_name _ _ _ _ (sym c.is_name.ensures ∙ c.if-not-is_name.true)

pub returns-then-buffer-program : goal.returns-then-buffer-program
returns-then-buffer-program c = read_no_room _ _ _ _ (rules_of_judged _ (sym c.in_ok-sound.ensures.judged)) (sym c.is_name.ensures ∙ c.if-not-is_name.false) c.if-buffer-program.true

pub returns-in_err-lines : goal.returns-in_err-lines
returns-in_err-lines c = let p = err_from_is_err_and c.from_residual-in_err-lines.result c.from_residual-in_err-lines.ensures.1 in let h = rw c.in_ok-sound.ensures.same at c.in_err-lines.ensures.number in
    rw (p.1, p.2) (read_refused _ _ _ _ (rules_of_judged _ (sym c.in_ok-sound.ensures.judged)) (sym c.is_name.ensures ∙ c.if-not-is_name.false) c.if-buffer-program.false _ h (number_of_positive _))

pub store-requires : goal.store-requires
store-requires c = ((rules_of_judged _ (sym c.in_ok-sound.ensures.judged)).most, c.if-buffer-program.false, read_lines _ c.args.name.now _ _ (rules_of_judged _ (sym c.in_ok-sound.ensures.judged)) (sym c.is_name.ensures ∙ c.if-not-is_name.false) c.if-buffer-program.false (rw c.in_ok-sound.ensures.same at c.in_ok-lines.ensures.number) _ c.in_ok-lines.ensures.lines)

pub returns : goal.returns
returns c = read_all _ _ _ _ (rules_of_judged _ (sym c.in_ok-sound.ensures.judged)) (sym c.is_name.ensures ∙ c.if-not-is_name.false) c.if-buffer-program.false (rw c.in_ok-sound.ensures.same at c.in_ok-lines.ensures.number) _ c.in_ok-lines.ensures.lines _ c.store.ensures
