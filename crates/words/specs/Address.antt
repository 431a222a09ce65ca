-- Byte addresses and word addresses, and the one map between word addresses and the entries of an image, a reading or the
-- cells ('What the bench does', 'Memory of the target', the counter of 'Steps of the target').
use Rattle.std.specs.Prelude.{ℕ, Option, Some, None, ◌+◌, ◌-◌, ◌*◌, ◌/◌, ◌%◌, ltb, eqb}
use Rattle.words.specs.Choice.{pick}
use Rattle.words.specs.declared.WordAddress.{WordAddress}
use Rattle.words.specs.declared.ByteAddress.{ByteAddress}

-- where configuration space begins in this family
abbrev pub config_base : ℕ
config_base = 0x8000

-- the word address n, or nowhere if 16 bits do not hold it
unfoldable pub placed : ℕ → Option WordAddress
placed n = pick (ltb n 0x10000) (Some (record { 0 = n })) None

-- a HEX address is twice the word address
unfoldable pub doubled : WordAddress → ByteAddress
doubled a = record { 0 = 2 * a.0 }

-- the word that begins at a byte address: no word begins at an odd one
unfoldable pub halved : ByteAddress → Option WordAddress
halved b = pick (eqb (b.0 % 2) 0) (placed (b.0 / 2)) None

-- the entry of word address a where `words` program words come first and then `tail` words from the base on.
-- An address with no entry gets words + tail, one past the last entry
unfoldable pub entry_of : (base words tail a : ℕ) → ℕ
entry_of base words tail a =
    pick (ltb a words) a
    (pick (ltb a base) (words + tail)
    (pick (ltb (a - base) tail) (words + (a - base))
    (words + tail)))

-- the address of an entry
unfoldable pub address_of : (base words i : ℕ) → ℕ
address_of base words i = pick (ltb i words) i (base + (i - words))

-- the same as a place: past the last entry, nowhere
unfoldable pub place_of : (base words tail i : ℕ) → Option WordAddress
place_of base words tail i = pick (ltb i (words + tail)) (placed (address_of base words i)) None

-- the counter's successor: the last address of program space goes to 0, the last of configuration space to the base
unfoldable pub successor : (base a : ℕ) → ℕ
successor base a = pick (eqb a (base - 1)) 0 (pick (eqb a (2 * base - 1)) base (a + 1))
