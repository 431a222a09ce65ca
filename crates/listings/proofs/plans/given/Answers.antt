-- The board is judged, and then the HEX file.
use Rattle.std.proofs.Common.{arith, rules, sym, ap, ◌∙◌, length-take-le, ◌≤◌, ◌+◌, ◌≡◌, length}
use Rattle.std.proofs.lemmas.Result.{err_from_is_err_and}
use Rattle.board.specs.LawsBoard.{board_answered}
use Rattle.sheet.specs.FirstLine.{id_told}
use Rattle.listings.specs.LawsPlans.{refused_board, refused_long, refused_hex, id_there, given_all}
use Rattle.listings.proofs.plans.given.Goals as goal

pub returns-in-Err : goal.returns-in-Err
returns-in-Err c = refused_board _ _ _ _ c.in-Err.ensures.number _ c.at_no_line.ensures

pub returns-then-hex-gt-MOST_HEX : goal.returns-then-hex-gt-MOST_HEX
returns-then-hex-gt-MOST_HEX c = refused_long _ _ _ c.in-Ok.ensures.number c.if-hex-gt-MOST_HEX.true _ c.at_no_line-then-hex-gt-MOST_HEX.ensures

pub slice_bounds-read_hex-end : goal.slice_bounds-read_hex-end
slice_bounds-read_hex-end c =
    let o = c.in-Ok.ensures in
    let b = board_answered _ _ o.number _ o.found _ (rw c.requires at o.buffer) in
    let m : c.in-Ok.found.device.words + 9 ≤ 8201 = omega (arith, b.most) in
    m

pub unwrap-requires : goal.unwrap-requires
unwrap-requires c = id_there _ _ c.in-Ok.ensures.number _ c.read_id.ensures

pub returns-in_err-read_hex : goal.returns-in_err-read_hex
returns-in_err-read_hex c =
    let p = err_from_is_err_and c.from_residual.result c.from_residual.ensures.1 in
    let o = c.in-Ok.ensures in
    let b = board_answered _ _ o.number _ o.found _ (rw c.requires at o.buffer) in
    rw (p.1, p.2) (refused_hex _ _ _ o.number _ _ b c.if-hex-gt-MOST_HEX.false _ (length-take-le _ _ (let room : length c.args.image.now ≡ 8201 = search rules in omega (arith, b.most))) _ _ c.in_err-read_hex.ensures)

pub returns : goal.returns
returns c =
    let o = c.in-Ok.ensures in
    let b = board_answered _ _ o.number _ o.found _ (rw c.requires at o.buffer) in
    given_all _ _ _ o.number _ _ b c.if-hex-gt-MOST_HEX.false _ (length-take-le _ _ (let room : length c.args.image.now ≡ 8201 = search rules in omega (arith, b.most))) _ c.in_ok-read_hex.ensures _ (ap (λ x. x.id) (sym (ap id_told c.unwrap.ensures) ∙ c.read_id.ensures)) _
