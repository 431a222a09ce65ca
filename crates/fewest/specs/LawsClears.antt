-- Laws of containment, and that a write of this family sets no bit.
use Rattle.std.specs.Prelude.{ℕ, ◌≤◌, min, max, ◌≡◌}
use Rattle.std.proofs.Common.{arith, ◌∙◌}
use Rattle.std.proofs.Math.Path.{ap}
use Rattle.std.specs.Int.Bits.{bit_and, and_self}
use Rattle.words.specs.Word.{bit, without, spare, under_mask}
use Rattle.words.specs.LawsMask.{bit_or_lem, under_same}
use Rattle.words.specs.LawsWord.{Contains, bit_and_lem, same_bits, contains_bits}
use Rattle.device.specs.declared.Device.{Device}
use Rattle.device.specs.Memory.{mask_at}
use Rattle.target.specs.Chip.{Chip, chip_of}

-- a write sets no bit
abbrev pub OnlyClears : Chip → Type 0
OnlyClears chip = (i word latch : ℕ) → Contains word (chip.burn i word latch)

-- ---- containment

pub contains_self : (w : ℕ) → Contains w w
unfolding Contains
contains_self w = and_self w

-- by bits
contains_all : (w x : ℕ) → ((i : ℕ) → bit x i ≤ bit w i) → Contains w x
unfolding Contains
contains_all w x h = same_bits (bit_and w x) x (λ i. let low : bit x i ≤ bit w i = h i in bit_and_lem w x i ∙ omega arith)

pub contains_through : (u v w : ℕ) → Contains u v → Contains v w → Contains u w
contains_through u v w p q =
    contains_all u w
    (λ i. let high : bit v i ≤ bit u i = contains_bits u v p i in let low : bit w i ≤ bit v i = contains_bits v w q i in omega arith)

-- ---- a write

module _ (mask new i : ℕ) where
  bit_under : (old : ℕ) → bit (under_mask mask new old) i ≡ max (bit (without (spare mask) new) i) (min (bit old i) (bit (spare mask) i))
  unfolding under_mask
  bit_under old = bit_or_lem (without (spare mask) new) (bit_and old (spare mask)) i ∙ ap (max (bit (without (spare mask) new) i)) (bit_and_lem old (spare mask) i)

  -- a bit that is put together under a mask is in one of the two words
  under_most : (old : ℕ) → bit (under_mask mask new old) i ≤ max (bit new i) (bit old i)
  under_most old =
      let this : bit (under_mask mask new old) i ≡ max (bit (without (spare mask) new) i) (min (bit old i) (bit (spare mask) i)) = bit_under old in
      let twice : bit (under_mask mask new new) i ≡ max (bit (without (spare mask) new) i) (min (bit new i) (bit (spare mask) i)) = bit_under new in
      let same : bit (under_mask mask new new) i ≡ bit new i = ap (λ w. bit w i) (under_same mask new) in
      omega arith

pub burn_clears : (d : Device) → OnlyClears (chip_of d)
burn_clears d i word latch =
    contains_all word (under_mask (mask_at d i) (bit_and word latch) word)
    (λ n.
    let most : bit (under_mask (mask_at d i) (bit_and word latch) word) n ≤ max (bit (bit_and word latch) n) (bit word n) = under_most (mask_at d i) (bit_and word latch) n word in
    let and : bit (bit_and word latch) n ≡ min (bit word n) (bit latch n) = bit_and_lem word latch n in
    omega arith)
