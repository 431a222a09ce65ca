-- Words of the target ('Memory of the target'): 14 bits; what 'each bit is the old one or the new one' means for a cut; and words under a mask.
use Rattle.std.specs.Prelude.{ℕ, ◌/◌, ◌%◌, ◌^◌, ◌≡◌, Bool, ◌&&◌, List, ◌⊎◌, ltb, eqb, length, get_or}
use Rattle.std.specs.Int.Bits.{bit_and, bit_or, bit_xor}
use Rattle.words.specs.Lists.{every}

-- an erased word: every bit is 1
abbrev pub erased : ℕ
erased = 0x3fff

-- what an image holds where the file gives no word
abbrev pub not_given : ℕ
not_given = 0xffff

-- a number that 14 bits hold
unfoldable pub is_word : ℕ → Bool
is_word w = ltb w 0x4000

-- bit i of a word, bit 0 the lowest
unfoldable pub bit : ℕ → ℕ → ℕ
bit w i = w / 2 ^ i % 2

-- each bit of w is the old word's or the new word's
unfoldable pub Between : ℕ → ℕ → ℕ → Type 0
Between old new w = (i : ℕ) → (bit w i ≡ bit old i) ⊎ (bit w i ≡ bit new i)

-- ---- masks: the 1 bits of a mask are those that a word has

-- a word without these bits
unfoldable pub without : (bits w : ℕ) → ℕ
without bits w = bit_xor w (bit_and w bits)

-- the bits of 14 that a mask leaves out
unfoldable pub spare : (mask : ℕ) → ℕ
spare mask = without mask erased

-- new bits under a mask, old bits elsewhere; what a number has above 14 bits is the new one's
unfoldable pub under_mask : (mask new old : ℕ) → ℕ
under_mask mask new old = bit_or (without (spare mask) new) (bit_and old (spare mask))

-- ---- lists

-- a list of n words
unfoldable pub words_of : ℕ → List ℕ → Bool
words_of n l = eqb (length l) n && every n (λ i. is_word (get_or l i 0))
