-- The counter's row, the user IDs, or nothing.
use Rattle.std.proofs.Common.{refl, sym, ◌∙◌, arith}
use Rattle.target.specs.LawsHits.{row_within}
use Rattle.target.specs.LawsCells.{some_row, row_erase_locked, row_erase_program, row_erase_nowhere, row_erase_ids}
use Rattle.target.specs.LawsOrders.{obeys_row_erase}
use Rattle.target.specs.LawsHeld.{rules_at, sound_at, leaves}
use Rattle.target.proofs.board.Board.erase_row.Goals as goal

pub returns-then-is_protected : goal.returns-then-is_protected
returns-then-is_protected c = leaves _ _ _ _ (obeys_row_erase _ _ _ (row_erase_locked _ (sound_at c.args.self.now) _ _ c.if-a-program.true _ c.is_protected.ensures c.if-is_protected.true)) refl refl refl

pub nonzero_div-a : goal.nonzero_div-a
nonzero_div-a c = some_row _ (rules_at c.args.self.now)

pub erase-requires : goal.erase-requires
erase-requires c = let h = row_within _ (sound_at c.args.self.now) _ c.if-a-program.true in omega (arith, c.args.self.now.long)

pub returns-then-a-program : goal.returns-then-a-program
returns-then-a-program c = leaves _ _ _ _ (obeys_row_erase _ _ _ (row_erase_program _ (sound_at c.args.self.now) _ _ c.if-a-program.true _ c.is_protected.ensures c.if-is_protected.false _ c.erase.ensures)) refl refl refl

pub returns-then-erases_ids : goal.returns-then-erases_ids
returns-then-erases_ids c = leaves _ _ _ _ (obeys_row_erase _ _ _ (row_erase_ids _ (sound_at c.args.self.now) _ _ refl c.if-a-program.false (sym c.erases_ids.ensures ∙ c.if-erases_ids.true) _ c.erase-then-erases_ids.ensures)) refl refl refl

pub returns-else-erases_ids : goal.returns-else-erases_ids
returns-else-erases_ids c = leaves _ _ _ _ (obeys_row_erase _ _ _ (row_erase_nowhere _ (sound_at c.args.self.now) _ _ c.if-a-program.false (sym c.erases_ids.ensures ∙ c.if-erases_ids.false))) refl refl refl
