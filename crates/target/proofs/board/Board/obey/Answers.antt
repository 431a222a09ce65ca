-- One rule for each order.
use Rattle.std.proofs.Common.{refl}
use Rattle.target.specs.LawsOrders.{obeys_load_configuration, obeys_load_data, obeys_increment, obeys_reset, obeys_begin}
use Rattle.target.specs.LawsHeld.{leaves}
use Rattle.target.proofs.board.Board.obey.Goals as goal

pub returns-in-LoadConfiguration : goal.returns-in-LoadConfiguration
returns-in-LoadConfiguration c = rw c.in-LoadConfiguration.is (leaves _ _ _ _ (obeys_load_configuration _ _ _) refl refl refl)

pub returns-in-LoadData : goal.returns-in-LoadData
returns-in-LoadData c = rw c.in-LoadData.is (leaves _ _ _ _ (obeys_load_data _ _ _ _ c.latch-latch.ensures.0) refl refl refl)

pub returns-in-Increment : goal.returns-in-Increment
returns-in-Increment c = rw c.in-Increment.is (leaves _ _ _ _ (obeys_increment _ _ _ c.next_address-self.ensures) refl refl refl)

pub returns-in-ResetAddress : goal.returns-in-ResetAddress
returns-in-ResetAddress c = rw c.in-ResetAddress.is (leaves _ _ _ _ (obeys_reset _ _ refl) refl refl refl)

pub returns-in-Begin : goal.returns-in-Begin
returns-in-Begin c = rw c.in-Begin.is (leaves _ _ _ _ (obeys_begin _ _ _ c.write.ensures.whole) c.write.ensures.device c.write.ensures.words c.write.ensures.cells)
