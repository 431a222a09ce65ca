-- Laws of the writer: what is still to be written, and how the parts of the text follow each other.
use Rattle.std.specs.Prelude.{ℕ, ◌+◌, ◌-◌, ◌*◌, ◌%◌, ◌<◌, ◌≡◌, List, [], ◌∷◌, ◌++◌, eqb, length, get_or}
use Rattle.std.proofs.Common.{length-append}
use native.Mathlib.Omega.{arith}
use Rattle.std.proofs.Math.Path.{refl}
use Rattle.std.proofs.lemmas.List.Edits.{sets}
use Rattle.words.specs.Choice.{pick}
use Rattle.words.specs.Lists.{build}
use Rattle.numerals.specs.Hex.{digit_text, byte_text}
use Rattle.numerals.specs.Text.{lf}
use Rattle.words.specs.LawsLists.{get_or_build}
use Rattle.words.specs.declared.ByteAddress.{ByteAddress}
use Rattle.device.specs.Record.{most_words}
use Rattle.hexwrite.specs.Writer.{WrittenHex, sum_of, digits_of, record_text, hex_address, upper_bytes}

-- one more than the length of the longest text
abbrev pub text_limit : ℕ
text_limit = 14 * most_words + 157

abbrev pub refused_with : ℕ → WrittenHex
refused_with n = record { number = n; length = 0 }

-- a text was put at a place of `out`, and r is the place past it
pub record Wrote (text : List ℕ) (at : ℕ) (out : List ℕ) (r : ℕ) (after : List ℕ) : Type 0 where
  pub bytes : after ≡ sets out at text
  pub end : r ≡ at + length text

-- the byte address of an entry
pub record Addressed (words i : ℕ) (r : ByteAddress) : Type 0 where
  pub is : r.0 ≡ hex_address words i
  pub below : r.0 < 0x20000

-- an upper half's record, where it changes
unfoldable pub upper_text : (upper next : ℕ) → List ℕ
upper_text upper next = pick (eqb next upper) [] (record_text (upper_bytes next))

-- ---- the parts of a record

-- a colon, the count, the address and the type
unfoldable pub head_text : (count high low kind : ℕ) → List ℕ
head_text count high low kind = 0x3a ∷ digits_of (count ∷ high ∷ low ∷ kind ∷ [])

-- the byte that makes a record sum to 0 mod 256, and LF
unfoldable pub closing_text : ℕ → List ℕ
closing_text sum = byte_text ((256 - sum % 256) % 256) ++ lf ∷ []

pub record_parts : (count high low kind : ℕ) (body : List ℕ)
    → record_text (count ∷ high ∷ low ∷ kind ∷ body) ≡ head_text count high low kind ++ (digits_of body ++ closing_text (count + (high + (low + (kind + sum_of body)))))
unfolding record_text head_text closing_text digits_of sum_of byte_text
record_parts count high low kind body = refl

pub length_digits : (l : List ℕ) → length (digits_of l) ≡ 2 * length l
unfolding digits_of byte_text
length_digits [] = refl
length_digits (b ∷ l) = let ih : length (digits_of l) ≡ 2 * length l = length_digits l in omega arith

pub length_record : (l : List ℕ) → length (record_text l) ≡ 2 * length l + 4
unfolding record_text
length_record l =
    let d : length (digits_of l) ≡ 2 * length l = length_digits l in
    let tail : List ℕ = byte_text ((256 - sum_of l % 256) % 256) ++ lf ∷ [] in
    let n : length (digits_of l ++ tail) ≡ length (digits_of l) + length tail = length-append (digits_of l) tail in
    let t : length tail ≡ 3 = unfold byte_text in refl in
    omega arith

-- ---- the table of digits

pub table_capital : (capitals : List ℕ) (n : ℕ) → capitals ≡ build 16 digit_text → n < 16 → get_or capitals n 0 ≡ digit_text n
table_capital capitals n e h = rw e (get_or_build 16 digit_text n h)

-- the table as it is laid out
pub capitals_told : 0x30 ∷ 0x31 ∷ 0x32 ∷ 0x33 ∷ 0x34 ∷ 0x35 ∷ 0x36 ∷ 0x37 ∷ 0x38 ∷ 0x39 ∷ 0x41 ∷ 0x42 ∷ 0x43 ∷ 0x44 ∷ 0x45 ∷ 0x46 ∷ [] ≡ build 16 digit_text
unfolding build digit_text pick
capitals_told = refl
