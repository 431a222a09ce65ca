-- The checksum of a reading ('Checksum and verify'; refusals 13, 21).
use Rattle.std.specs.Prelude.{ℕ, zero, suc, ◌+◌, ◌*◌, ◌%◌, List, get_or, Result}
use Rattle.std.specs.Int.Bits.{bit_and}
use Rattle.refusal.specs.declared.Refusal.{Refusal}
use Rattle.refusal.specs.Refusal.{number_in, value_in}
use Rattle.words.specs.Choice.{pick, unless}
use Rattle.device.specs.declared.Device.{Device}
use Rattle.device.specs.Record.{device_ok}
use Rattle.device.specs.Memory.{reading_ok, protected}

-- the first n words added up
unfoldable pub sum_to : ℕ → List ℕ → ℕ
sum_to zero l = 0
sum_to (suc n) l = sum_to n l + get_or l n 0

-- both configuration words, each ANDed with its mask
unfoldable pub config_sum : Device → List ℕ → ℕ
config_sum d l = bit_and (get_or l (d.words + 7) 0) d.mask1 + bit_and (get_or l (d.words + 8) 0) d.mask2

-- the low nibbles of the user IDs, the first ID highest
unfoldable pub nibbles : (words : ℕ) → List ℕ → ℕ
nibbles words l =
    get_or l words 0 % 16 * 4096
    + get_or l (words + 1) 0 % 16 * 256
    + get_or l (words + 2) 0 % 16 * 16
    + get_or l (words + 3) 0 % 16

-- CP = 0: configuration words and nibbles; CP = 1: program words and configuration words
unfoldable pub checksum_of : Device → List ℕ → ℕ
checksum_of d l =
    pick (protected d.words l) (config_sum d l + nibbles d.words l) (sum_to d.words l + config_sum d l) % 65536

-- a checksum as it is told: with 0, or beside the number of a refusal
pub record Sum : Type 0 where
  pub number : ℕ
  pub sum : ℕ

-- how the call's answer is told
abbrev pub sum_told : Result ℕ Refusal → Sum
sum_told answer = record { number = number_in answer; sum = value_in 0 answer }

-- what the call answers
unfoldable pub summed : Device → List ℕ → Sum
summed d l =
    unless (device_ok d) (record { number = 13; sum = 0 })
    (unless (reading_ok d.words l) (record { number = 21; sum = 0 })
    (record { number = 0; sum = checksum_of d l }))
