-- A sheet that is refused, or its words written with line 1's ID.
use Rattle.std.proofs.Common.{ℕ, ◌+◌, ◌++◌, refl, sym, ap, arith, length-take-le, drop, replicate}
use Rattle.std.proofs.lemmas.List.{length-replicate}
use Rattle.std.proofs.lemmas.Result.{err_from_is_err_and}
use Rattle.device.specs.Memory.{reading_tail}
use Rattle.sheet.specs.LawsRead.{longest_reading}
use Rattle.moves.specs.LawsWords.{move_unfound, move_read_again, move_told, few_words, read_is, words_within, words_long, old_moved, new_moved}
use Rattle.moves.proofs.sheets.move_to.Goals as goal

pub returns-in_err-found-clause-buffer : goal.returns-in_err-found-clause-buffer
returns-in_err-found-clause-buffer c = (move_unfound _ _ _ _ _ c.in_err-found.ensures.number).1

pub returns-in_err-id-clause-answer : goal.returns-in_err-id-clause-answer
returns-in_err-id-clause-answer c = absurd (move_read_again c.args.table.now _ c.args.out.now c.args.out.now _ c.in_ok-found.ensures.number c.in_err-id.ensures)

pub returns-in_err-id-clause-buffer : goal.returns-in_err-id-clause-buffer
returns-in_err-id-clause-buffer c = absurd (move_read_again c.args.table.now _ c.args.out.now c.args.out.now _ c.in_ok-found.ensures.number c.in_err-id.ensures)

pub slice_bounds-words-end : goal.slice_bounds-words-end
slice_bounds-words-end c = few_words _ _ c.in_ok-found.ensures.number _ c.in_ok-found.ensures.found _ c.name-name.ensures

pub slice_bounds-read_sheet-end : goal.slice_bounds-read_sheet-end
slice_bounds-read_sheet-end c = sym (length-take-le _ _ (omega (arith, length-replicate {A = ℕ} longest_reading 0, few_words _ _ c.in_ok-found.ensures.number _ c.in_ok-found.ensures.found _ c.name-name.ensures)))

pub returns-in_err-read_sheet-clause-answer : goal.returns-in_err-read_sheet-clause-answer
returns-in_err-read_sheet-clause-answer c = let p = err_from_is_err_and c.from_residual-in_err-read_sheet.result c.from_residual-in_err-read_sheet.ensures.1 in
    rw (p.1, p.2) (move_told _ _ _ _ _ (read_is _ _ c.in_ok-found.ensures.number _ c.in_ok-found.ensures.found _ c.name-name.ensures _ (length-replicate {A = ℕ} longest_reading 0) _ c.in_err-read_sheet.ensures.0)).0

pub returns-in_err-read_sheet-clause-buffer : goal.returns-in_err-read_sheet-clause-buffer
returns-in_err-read_sheet-clause-buffer c = (move_told _ _ _ _ _ (read_is _ _ c.in_ok-found.ensures.number _ c.in_ok-found.ensures.found _ c.name-name.ensures _ (length-replicate {A = ℕ} longest_reading 0) _ c.in_err-read_sheet.ensures.0)).1

pub slice_bounds-words-end-in-New : goal.slice_bounds-words-end-in-New
slice_bounds-words-end-in-New c = words_within _ _ c.in_ok-found.ensures.number _ c.in_ok-found.ensures.found _ c.name-name.ensures _ (length-replicate {A = ℕ} longest_reading 0) _ c.in_ok-read_sheet.ensures.0 refl _
    (ap (λ x. x ++ drop (c.in_ok-found.found.device.words + reading_tail) (replicate longest_reading 0)) c.in_ok-read_sheet.ensures.1)

pub slice_bounds-words-end-in-Old : goal.slice_bounds-words-end-in-Old
slice_bounds-words-end-in-Old c = words_within _ _ c.in_ok-found.ensures.number _ c.in_ok-found.ensures.found _ c.name-name.ensures _ (length-replicate {A = ℕ} longest_reading 0) _ c.in_ok-read_sheet.ensures.0 refl _
    (ap (λ x. x ++ drop (c.in_ok-found.found.device.words + reading_tail) (replicate longest_reading 0)) c.in_ok-read_sheet.ensures.1)

pub slice_bounds-write_sheet-end : goal.slice_bounds-write_sheet-end
slice_bounds-write_sheet-end c = sym (words_long _ _ c.in_ok-found.ensures.number _ c.in_ok-found.ensures.found _ c.name-name.ensures _ (length-replicate {A = ℕ} longest_reading 0) _ c.in_ok-read_sheet.ensures.0 refl _
    (ap (λ x. x ++ drop (c.in_ok-found.found.device.words + reading_tail) (replicate longest_reading 0)) c.in_ok-read_sheet.ensures.1))

pub returns-in-Old-clause-answer : goal.returns-in-Old-clause-answer
returns-in-Old-clause-answer c = rw c.in-Old.is (old_moved _ _ c.in_ok-found.ensures.number _ c.in_ok-found.ensures.found _ c.name-name.ensures _ (length-replicate {A = ℕ} longest_reading 0) _ c.in_ok-read_sheet.ensures.0 refl _
    (ap (λ x. x ++ drop (c.in_ok-found.found.device.words + reading_tail) (replicate longest_reading 0)) c.in_ok-read_sheet.ensures.1)
    _ c.in_ok-id.ensures _ _ c.write_sheet.ensures.0 _ c.write_sheet.ensures.1).0

pub returns-in-Old-clause-buffer : goal.returns-in-Old-clause-buffer
returns-in-Old-clause-buffer c = rw c.in-Old.is (old_moved _ _ c.in_ok-found.ensures.number _ c.in_ok-found.ensures.found _ c.name-name.ensures _ (length-replicate {A = ℕ} longest_reading 0) _ c.in_ok-read_sheet.ensures.0 refl _
    (ap (λ x. x ++ drop (c.in_ok-found.found.device.words + reading_tail) (replicate longest_reading 0)) c.in_ok-read_sheet.ensures.1)
    _ c.in_ok-id.ensures _ _ c.write_sheet.ensures.0 _ c.write_sheet.ensures.1).1

pub slice_bounds-write_new_sheet-end : goal.slice_bounds-write_new_sheet-end
slice_bounds-write_new_sheet-end c = sym (words_long _ _ c.in_ok-found.ensures.number _ c.in_ok-found.ensures.found _ c.name-name.ensures _ (length-replicate {A = ℕ} longest_reading 0) _ c.in_ok-read_sheet.ensures.0 refl _
    (ap (λ x. x ++ drop (c.in_ok-found.found.device.words + reading_tail) (replicate longest_reading 0)) c.in_ok-read_sheet.ensures.1))

pub returns-in-New-clause-answer : goal.returns-in-New-clause-answer
returns-in-New-clause-answer c = rw c.in-New.is (new_moved _ _ c.in_ok-found.ensures.number _ c.in_ok-found.ensures.found _ c.name-name.ensures _ (length-replicate {A = ℕ} longest_reading 0) _ c.in_ok-read_sheet.ensures.0 refl _
    (ap (λ x. x ++ drop (c.in_ok-found.found.device.words + reading_tail) (replicate longest_reading 0)) c.in_ok-read_sheet.ensures.1)
    _ c.in_ok-id.ensures _ _ c.write_new_sheet.ensures.0 _ c.write_new_sheet.ensures.1).0

pub returns-in-New-clause-buffer : goal.returns-in-New-clause-buffer
returns-in-New-clause-buffer c = rw c.in-New.is (new_moved _ _ c.in_ok-found.ensures.number _ c.in_ok-found.ensures.found _ c.name-name.ensures _ (length-replicate {A = ℕ} longest_reading 0) _ c.in_ok-read_sheet.ensures.0 refl _
    (ap (λ x. x ++ drop (c.in_ok-found.found.device.words + reading_tail) (replicate longest_reading 0)) c.in_ok-read_sheet.ensures.1)
    _ c.in_ok-id.ensures _ _ c.write_new_sheet.ensures.0 _ c.write_new_sheet.ensures.1).1
