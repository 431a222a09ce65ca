-- A law for each way out; the image is blank before the first line and after a refusal.
use Rattle.std.proofs.Common.{sym, ◌∙◌}
use Rattle.device.specs.LawsRecord.{ok_of_judged}
use Rattle.hexread.specs.LawsReader.{hex_bad, hex_12, hex_1, hex_read, hex_refused, told_err, told_ok}
use Rattle.hexread.proofs.read.read_hex.Goals as goal

pub returns-in-Err : goal.returns-in-Err
returns-in-Err c = rw c.at_no_line.ensures (hex_bad _ _ _ _ c.in-Err.ensures)

pub returns-then-image-from : goal.returns-then-image-from
returns-then-image-from c = rw c.at_no_line-then-image-from.ensures (hex_12 _ _ _ (ok_of_judged _ (sym c.in_default.ensures)) (rw c.from.ensures at c.if-image-from.true))

pub returns-then-text-gt-MOST_TEXT : goal.returns-then-text-gt-MOST_TEXT
returns-then-text-gt-MOST_TEXT c = rw c.at_no_line-then-text-gt-MOST_TEXT.ensures
    (hex_1 _ _ _ (ok_of_judged _ (sym c.in_default.ensures)) (rw c.from.ensures at c.if-image-from.false) c.if-text-gt-MOST_TEXT.true _ (c.fill.ensures.after (λ y h. h)))

pub returns-then-is_err : goal.returns-then-is_err
returns-then-is_err c = hex_refused _ _ _ (ok_of_judged _ (sym c.in_default.ensures)) (rw c.from.ensures at c.if-image-from.false) c.if-text-gt-MOST_TEXT.false _ (c.fill.ensures.after (λ y h. h))
    _ _ c.read_lines-read.ensures (told_err _ (sym c.is_err.ensures.value ∙ c.if-is_err.true)) _ c.read_lines-read.auto.image (c.fill-then-is_err.ensures.after (λ y h. h))

pub returns-else-is_err : goal.returns-else-is_err
returns-else-is_err c = hex_read _ _ _ (ok_of_judged _ (sym c.in_default.ensures)) (rw c.from.ensures at c.if-image-from.false) c.if-text-gt-MOST_TEXT.false _ (c.fill.ensures.after (λ y h. h))
    _ _ c.read_lines-read.ensures (told_ok _ (sym c.is_err.ensures.value ∙ c.if-is_err.false))
