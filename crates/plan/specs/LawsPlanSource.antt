-- Every word that a stream is to load has 14 bits.
use Rattle.std.specs.Prelude.{ℕ, ◌<◌, ◌≡◌, true, List, []}
use Rattle.std.proofs.Common.{arith}
use Rattle.device.specs.declared.Device.{Device}
use Rattle.device.specs.Memory.{image_ok, reading_ok}
use Rattle.device.specs.LawsMemory.{reading_each}
use Rattle.aim.specs.Wanted.{known, wanted}
use Rattle.aim.specs.LawsWanted.{known_fits, wanted_fits}

pub record Source (d : Device) (image reading : List ℕ) : Type 0 where
  pub fits : (i : ℕ) → wanted d image reading i < 0x4000

-- of an update
pub update_source : (d : Device) (image reading : List ℕ) → image_ok d.words image ≡ true → reading_ok d.words reading ≡ true → Source d image reading
update_source d image reading p q = record { fits = wanted_fits d image reading p (known_fits reading (reading_each d.words reading q)) }

-- of a fresh programming
pub fresh_source : (d : Device) (image : List ℕ) → image_ok d.words image ≡ true → Source d image []
unfolding known
fresh_source d image p = record { fits = wanted_fits d image [] p (λ i. omega arith) }
