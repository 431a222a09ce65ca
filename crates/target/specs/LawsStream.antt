-- Laws of a stream's bytes: orders whose words fit, how long the bytes are, and that they are read back as the orders.
use Rattle.std.specs.Prelude.{ℕ, ◌*◌, ◌/◌, ◌%◌, ◌<◌, ◌≡◌, refl, List, [], ◌∷◌, ◌++◌, length}
use Rattle.std.proofs.Common.{arith, eq-eqb, le-leb}
use Rattle.words.specs.Choice.{pick}
use Rattle.target.specs.Step.{Do, decoded, load, load_ok, plain}
use Rattle.target.specs.Stream.{code_of, payload_of, step_bytes, bytes_of}
use Rattle.target.specs.declared.Order.{Order}
use Rattle.target.specs.declared.Order.TheVariants.{LoadConfiguration, LoadData, Read, Increment, ResetAddress, Begin, BulkErase, RowErase}

-- ---- orders whose words fit

-- a load's word has 14 bits
abbrev pub FitsOrder : Order → Type 0
FitsOrder (LoadConfiguration w) = w < 0x4000
FitsOrder (LoadData w) = w < 0x4000
FitsOrder Read = Unit
FitsOrder Increment = Unit
FitsOrder ResetAddress = Unit
FitsOrder Begin = Unit
FitsOrder BulkErase = Unit
FitsOrder RowErase = Unit

abbrev pub FitsAll : List Order → Type 0
FitsAll [] = Unit
FitsAll (o ∷ s) = FitsOrder o × FitsAll s

pub fits_append : (s t : List Order) → FitsAll s → FitsAll t → FitsAll (s ++ t)
fits_append [] t p q = q
fits_append (o ∷ s) t p q = (p.0, fits_append s t p.1 q)

-- ---- a step's bytes are read back as its order

load_back : (w : ℕ) (o : Order) → w < 0x4000 → load (2 * w) o ≡ Do o
unfolding load load_ok pick
load_back w o h = rw (eq-eqb (2 * w % 2) 0 (omega arith), le-leb (2 * w) 0x7ffe (omega arith))

halved : (w : ℕ) → 2 * w / 2 ≡ w
halved w = omega arith

pub decoded_order : (o : Order) → FitsOrder o → decoded (code_of o) (payload_of o) ≡ Do o
unfolding decoded code_of payload_of plain pick
decoded_order (LoadConfiguration w) h = rw (halved w) (load_back w (LoadConfiguration w) h)
decoded_order (LoadData w) h = rw (halved w) (load_back w (LoadData w) h)
decoded_order Read h = refl
decoded_order Increment h = refl
decoded_order ResetAddress h = refl
decoded_order Begin h = refl
decoded_order BulkErase h = refl
decoded_order RowErase h = refl

pub length_bytes : (s : List Order) → length (bytes_of s) ≡ 3 * length s
unfolding bytes_of step_bytes
length_bytes [] = refl
length_bytes (o ∷ s) = let e : length (bytes_of s) ≡ 3 * length s = length_bytes s in omega arith

pub bytes_append : (s t : List Order) → bytes_of (s ++ t) ≡ bytes_of s ++ bytes_of t
unfolding bytes_of step_bytes
bytes_append [] t = refl
bytes_append (o ∷ s) t = rw (bytes_append s t)
