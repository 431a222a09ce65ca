-- The board is refused, or protected, or its reading is written as an image.
use Rattle.std.proofs.Common.{refl, sym, arith, length-take-le}
use Rattle.board.specs.LawsBoard.{board_answered}
use Rattle.reports.specs.LawsDump.{dump_23, dump_within, dump_written}
use Rattle.reports.proofs.dumps.hex_of.Goals as goal

pub slice_bounds-image-end : goal.slice_bounds-image-end
slice_bounds-image-end c = (board_answered _ _ c.in_ok-found.ensures.number _ c.in_ok-found.ensures.found _ c.in_ok-found.ensures.buffer).within

pub slice_bounds-is_protected-end : goal.slice_bounds-is_protected-end
slice_bounds-is_protected-end c = sym (board_answered _ _ c.in_ok-found.ensures.number _ c.in_ok-found.ensures.found _ c.in_ok-found.ensures.buffer).long

pub returns-then-is_protected-clause-number : goal.returns-then-is_protected-clause-number
returns-then-is_protected-clause-number c = dump_23 _ _ c.in_ok-found.ensures.number _ _ (board_answered _ _ c.in_ok-found.ensures.number _ c.in_ok-found.ensures.found _ c.in_ok-found.ensures.buffer) c.if-is_protected.ensures

pub slice_bounds-image-end-2 : goal.slice_bounds-image-end-2
slice_bounds-image-end-2 c = omega (arith, (board_answered _ _ c.in_ok-found.ensures.number _ c.in_ok-found.ensures.found _ c.in_ok-found.ensures.buffer).most)

pub slice_bounds-image-end-3 : goal.slice_bounds-image-end-3
slice_bounds-image-end-3 c = dump_within _ _ c.in_ok-found.ensures.number _ _ (board_answered _ _ c.in_ok-found.ensures.number _ c.in_ok-found.ensures.found _ c.in_ok-found.ensures.buffer) c.if-is_protected.ensures _ _ (c.fill.ensures.after (λ y e. e)) refl

pub slice_bounds-write_hex-end : goal.slice_bounds-write_hex-end
slice_bounds-write_hex-end c = sym (length-take-le _ _ (dump_within _ _ c.in_ok-found.ensures.number _ _ (board_answered _ _ c.in_ok-found.ensures.number _ c.in_ok-found.ensures.found _ c.in_ok-found.ensures.buffer) c.if-is_protected.ensures _ _ (c.fill.ensures.after (λ y e. e)) refl))

pub returns-clause-number : goal.returns-clause-number
returns-clause-number c = (dump_written _ _ c.in_ok-found.ensures.number _ _ (board_answered _ _ c.in_ok-found.ensures.number _ c.in_ok-found.ensures.found _ c.in_ok-found.ensures.buffer) c.if-is_protected.ensures _ _ (c.fill.ensures.after (λ y e. e)) refl _ c.requires _ _ c.write_hex.ensures).0

pub returns-clause-text : goal.returns-clause-text
returns-clause-text c = (dump_written _ _ c.in_ok-found.ensures.number _ _ (board_answered _ _ c.in_ok-found.ensures.number _ c.in_ok-found.ensures.found _ c.in_ok-found.ensures.buffer) c.if-is_protected.ensures _ _ (c.fill.ensures.after (λ y e. e)) refl _ c.requires _ _ c.write_hex.ensures).1
