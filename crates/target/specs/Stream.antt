-- The bytes of a stream ('Steps of the target'): code, payload low, payload high; a load's payload is its word times two, all others have 0.
use Rattle.std.specs.Prelude.{ℕ, ◌*◌, ◌/◌, ◌%◌, List, [], ◌∷◌, ◌++◌}
use Rattle.target.specs.declared.Order.{Order}
use Rattle.target.specs.declared.Order.TheVariants.{LoadConfiguration, LoadData, Read, Increment, ResetAddress, Begin, BulkErase, RowErase}

unfoldable pub code_of : Order → ℕ
code_of (LoadConfiguration w) = 0x00
code_of (LoadData w) = 0x02
code_of Read = 0x04
code_of Increment = 0x06
code_of ResetAddress = 0x16
code_of Begin = 0x08
code_of BulkErase = 0x09
code_of RowErase = 0x11

unfoldable pub payload_of : Order → ℕ
payload_of (LoadConfiguration w) = 2 * w
payload_of (LoadData w) = 2 * w
payload_of Read = 0
payload_of Increment = 0
payload_of ResetAddress = 0
payload_of Begin = 0
payload_of BulkErase = 0
payload_of RowErase = 0

unfoldable pub step_bytes : Order → List ℕ
step_bytes o = code_of o ∷ payload_of o % 256 ∷ payload_of o / 256 ∷ []

unfoldable pub bytes_of : List Order → List ℕ
bytes_of [] = []
bytes_of (o ∷ s) = step_bytes o ++ bytes_of s
