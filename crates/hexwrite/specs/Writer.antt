-- Writing an image as HEX text ('HEX text'; refusals 13, 20, 26).
use Rattle.std.specs.Prelude.{ℕ, zero, suc, ◌+◌, ◌-◌, ◌*◌, ◌/◌, ◌%◌, ◌≡◌, Result, List, [], ◌∷◌, ◌++◌, ltb, leb, eqb, length, get_or}
use Rattle.std.proofs.lemmas.List.Edits.{sets}
use Rattle.refusal.specs.Refusal.{number_in, value_in}
use Rattle.refusal.specs.declared.Refusal.{Refusal}
use Rattle.words.specs.Choice.{pick, unless}
use Rattle.words.specs.Word.{not_given}
use Rattle.numerals.specs.Text.{lf}
use Rattle.numerals.specs.Hex.{byte_text}
use Rattle.words.specs.Address.{config_base, address_of}
use Rattle.device.specs.declared.Device.{Device}
use Rattle.device.specs.Record.{device_ok}
use Rattle.device.specs.Memory.{reading_tail, image_ok}

-- ---- a record

unfoldable pub sum_of : List ℕ → ℕ
sum_of [] = 0
sum_of (b ∷ l) = b + sum_of l

unfoldable pub digits_of : List ℕ → List ℕ
digits_of [] = []
digits_of (b ∷ l) = byte_text b ++ digits_of l

-- a colon, the bytes, the byte that makes all of them sum to 0 mod 256, LF
unfoldable pub record_text : List ℕ → List ℕ
record_text bytes = 0x3a ∷ (digits_of bytes ++ (byte_text ((256 - sum_of bytes % 256) % 256) ++ lf ∷ []))

-- the HEX address of an entry, and its upper half
unfoldable pub hex_address : (words i : ℕ) → ℕ
hex_address words i = 2 * address_of config_base words i

unfoldable pub upper_of : (words i : ℕ) → ℕ
upper_of words i = hex_address words i / 65536

-- the bytes of n words from entry i on, low byte first
unfoldable pub word_bytes : (n i : ℕ) → List ℕ → List ℕ
word_bytes zero i image = []
word_bytes (suc n) i image = get_or image i 0 % 256 ∷ get_or image i 0 / 256 ∷ word_bytes n (i + 1) image

-- type 00 for the words from entry s up to, not including, entry e
unfoldable pub data_bytes : (words : ℕ) → List ℕ → (s e : ℕ) → List ℕ
data_bytes words image s e =
    2 * (e - s) ∷ hex_address words s % 65536 / 256 ∷ hex_address words s % 256 ∷ 0 ∷ word_bytes (e - s) s image

-- type 04
unfoldable pub upper_bytes : ℕ → List ℕ
upper_bytes u = 2 ∷ 0 ∷ 0 ∷ 4 ∷ u / 256 ∷ u % 256 ∷ []

-- type 01
unfoldable pub end_bytes : List ℕ
end_bytes = 0 ∷ 0 ∷ 0 ∷ 1 ∷ []

-- ---- runs of neighbours

-- a run of given words from entry s up to entry e: an upper half where it changes, and one record. Nothing if it is empty
unfoldable pub run_text : (words : ℕ) → List ℕ → (upper s e : ℕ) → List ℕ
run_text words image upper s e =
    pick (ltb s e)
    (pick (eqb (upper_of words s) upper) [] (record_text (upper_bytes (upper_of words s))) ++ record_text (data_bytes words image s e))
    []

unfoldable pub upper_after : (words upper s e : ℕ) → ℕ
upper_after words upper s e = pick (ltb s e) (upper_of words s) upper

-- what entry i does to the run that began at s: where the run ends (at s: not yet), and where the next one begins.
-- A run ends before a word that is not given, and at the end of an aligned block of 16 bytes, that is of eight entries
unfoldable pub run_end : List ℕ → (s i : ℕ) → ℕ
run_end image s i = pick (eqb (get_or image i 0) not_given) i (pick (eqb ((i + 1) % 8) 0) (i + 1) s)

unfoldable pub next_start : List ℕ → (s i : ℕ) → ℕ
next_start image s i = pick (eqb (get_or image i 0) not_given) (i + 1) (pick (eqb ((i + 1) % 8) 0) (i + 1) s)

-- the text of n entries from entry i on, where the upper half is `upper` and a run began at s
unfoldable pub text_from : (words : ℕ) → List ℕ → (n upper s i : ℕ) → List ℕ
text_from words image zero upper s i = run_text words image upper s i
text_from words image (suc n) upper s i =
    run_text words image upper s (run_end image s i)
    ++ text_from words image n (upper_after words upper s (run_end image s i)) (next_start image s i) (i + 1)

-- given words in ascending order, end record last
unfoldable pub hex_text : (words : ℕ) → List ℕ → List ℕ
hex_text words image = text_from words image (words + reading_tail) 0 0 0 ++ record_text end_bytes

-- ---- the call: 13, 20, 26

-- the length of the text that was written; or 13, 20 or 26, and nothing else
pub record WrittenHex : Type 0 where
  pub number : ℕ
  pub length : ℕ

-- an answer, told so
abbrev pub written_told : Result ℕ Refusal → WrittenHex
written_told r = record { number = number_in r; length = value_in 0 r }

unfoldable pub written_hex : Device → (image out : List ℕ) → WrittenHex
written_hex d image out =
    unless (device_ok d) (record { number = 13; length = 0 })
    (unless (image_ok d.words image) (record { number = 20; length = 0 })
    (unless (leb (length (hex_text d.words image)) (length out)) (record { number = 26; length = 0 })
    (record { number = 0; length = length (hex_text d.words image) })))

-- bytes past the text stay, and a refusal writes nothing
unfoldable pub written_out : Device → (image out : List ℕ) → List ℕ
written_out d image out = pick (eqb (written_hex d image out).number 0) (sets out 0 (hex_text d.words image)) out

-- what the call promises: its answer, and the buffer afterwards
pub record WroteHex (d : Device) (image out : List ℕ) (r : WrittenHex) (after : List ℕ) : Type 0 where
  pub answer : r ≡ written_hex d image out
  pub bytes : after ≡ written_out d image out
