-- Fewest Row Erases, said of a list of orders.
use Rattle.std.specs.Prelude.{ℕ, ◌+◌, ◌≤◌, ◌<◌, ◌≡◌, true, List, length, get_or}
use Rattle.std.proofs.Math.Nat.{le_trans}
use Rattle.std.proofs.Common.{arith}
use Rattle.device.specs.declared.Device.{Device}
use Rattle.device.specs.Memory.{reading_tail}
use Rattle.target.specs.Chip.{chip_of}
use Rattle.target.specs.Step.{sound_cells}
use Rattle.target.specs.Stream.{bytes_of}
use Rattle.target.specs.Run.{ran, model_of}
use Rattle.target.specs.LawsStream.{FitsAll}
use Rattle.target.specs.declared.Order.{Order}
use Rattle.aim.specs.Refusal.{update_number}
use Rattle.plan.specs.Steps.{update_steps}
use Rattle.plan.specs.Demands.{programmed}
use Rattle.fewest.specs.Erases.{is_row_erase, is_bulk_erase, orders_of, steps_of}
use Rattle.fewest.specs.LawsBytesCounted.{steps_few, run_within}
use Rattle.fewest.proofs.LawsFewest.{fewest_erases}

-- the same of a list of orders
pub fewest_orders : (d : Device) (image reading first : List ℕ)
    → update_number d image reading ≡ 0
    → sound_cells (chip_of d) first ≡ true
    → ((i : ℕ) → i < d.words + reading_tail → get_or first i 0 ≡ get_or reading i 0)
    → (s : List Order)
    → FitsAll s
    → (allowance : ℕ) (words : List ℕ)
    → (ran d (bytes_of s) allowance first words).target.cells ≡ programmed d image reading first
    → orders_of is_bulk_erase s ≡ 0
    → orders_of is_row_erase (update_steps d image reading) ≤ orders_of is_row_erase s
fewest_orders d image reading first e sound held s fits allowance words left bulk =
    let within : (ran d (bytes_of s) allowance first words).done ≤ length s = (unfold ran in run_within (model_of d) s allowance first words) in
    let none : steps_of is_bulk_erase (bytes_of s) (ran d (bytes_of s) allowance first words).done ≤ orders_of is_bulk_erase s = steps_few is_bulk_erase s fits _ within in
    let few : steps_of is_row_erase (bytes_of s) (ran d (bytes_of s) allowance first words).done ≤ orders_of is_row_erase s = steps_few is_row_erase s fits _ within in
    le_trans (fewest_erases d image reading first e sound held (bytes_of s) allowance words left (omega arith)) few
