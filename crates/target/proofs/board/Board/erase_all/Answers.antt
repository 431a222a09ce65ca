-- 33, or two ranges, and the user IDs where the counter is in configuration space.
use Rattle.std.proofs.Common.{refl, sym, ◌∙◌}
use Rattle.device.specs.LawsMemory.{config_words}
use Rattle.target.specs.LawsCells.{bulk_erase_words, bulk_erase_ids}
use Rattle.target.specs.LawsOrders.{erase_all_refused, erase_all_done}
use Rattle.target.specs.LawsHeld.{leaves}
use Rattle.target.proofs.board.Board.erase_all.Goals as goal

pub returns-then-self-ge-ERASE_END : goal.returns-then-self-ge-ERASE_END
returns-then-self-ge-ERASE_END c = leaves _ _ _ _ (erase_all_refused _ _ c.if-self-ge-ERASE_END.true) refl refl refl

pub returns-then-erases_ids : goal.returns-then-erases_ids
returns-then-erases_ids c = leaves _ _ _ _ (erase_all_done _ _ c.if-self-ge-ERASE_END.false _ (bulk_erase_ids _ 7 2 config_words _ _ _ _ c.erase.ensures c.erase-2.ensures (sym c.erases_ids.ensures ∙ c.if-erases_ids.true) _ c.erase-then-erases_ids.ensures)) refl refl refl

pub returns-else-erases_ids : goal.returns-else-erases_ids
returns-else-erases_ids c = leaves _ _ _ _ (erase_all_done _ _ c.if-self-ge-ERASE_END.false _ (bulk_erase_words _ 7 2 config_words _ _ _ _ c.erase.ensures c.erase-2.ensures (sym c.erases_ids.ensures ∙ c.if-erases_ids.false))) refl refl refl
