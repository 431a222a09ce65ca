-- Erases counted: in a list of orders, and among the steps of any bytes.
use Rattle.std.specs.Prelude.{ℕ, ◌+◌, Bool, true, false, List, [], ◌∷◌}
use Rattle.words.specs.Choice.{pick}
use Rattle.judge.specs.Count.{count_to}
use Rattle.target.specs.Model.{code_at, payload_at}
use Rattle.target.specs.Step.{Decoded, Do, Refused, decoded}
use Rattle.target.specs.declared.Order.{Order}
use Rattle.target.specs.declared.Order.TheVariants.{LoadConfiguration, LoadData, Read, Increment, ResetAddress, Begin, BulkErase, RowErase}

-- ---- orders

unfoldable pub is_row_erase : Order → Bool
is_row_erase (LoadConfiguration w) = false
is_row_erase (LoadData w) = false
is_row_erase Read = false
is_row_erase Increment = false
is_row_erase ResetAddress = false
is_row_erase Begin = false
is_row_erase BulkErase = false
is_row_erase RowErase = true

unfoldable pub is_bulk_erase : Order → Bool
is_bulk_erase (LoadConfiguration w) = false
is_bulk_erase (LoadData w) = false
is_bulk_erase Read = false
is_bulk_erase Increment = false
is_bulk_erase ResetAddress = false
is_bulk_erase Begin = false
is_bulk_erase BulkErase = true
is_bulk_erase RowErase = false

-- how many orders of a list are of a kind
unfoldable pub orders_of : (kind : Order → Bool) → List Order → ℕ
orders_of kind [] = 0
orders_of kind (o ∷ s) = pick (kind o) 1 0 + orders_of kind s

-- ---- bytes

-- what a code and a payload give is an order of a kind; where they are refused it is of none
unfoldable pub step_is : (kind : Order → Bool) → Decoded → Bool
step_is kind (Do o) = kind o
step_is kind (Refused n) = false

-- how many of a stream's first n steps are of a kind
unfoldable pub steps_of : (kind : Order → Bool) → (stream : List ℕ) → (n : ℕ) → ℕ
steps_of kind stream n = count_to n (λ k. step_is kind (decoded (code_at stream k) (payload_at stream k)))
