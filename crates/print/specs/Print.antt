-- How refusals, checksums and verdicts are printed ('Worked on the bench', 'Refusal numbers'). Text is a list of bytes.
use Rattle.std.specs.Prelude.{ℕ, zero, suc, ◌+◌, ◌/◌, ◌%◌, ◌≡◌, List, [], ◌∷◌, ◌++◌, ltb, eqb, length}
use Rattle.std.proofs.lemmas.List.Edits.{sets}
use Rattle.words.specs.Choice.{pick}
use Rattle.numerals.specs.Text.{tab, lf}
use Rattle.numerals.specs.Hex.{word_text}

-- the decimal digits of a number, at most n of them, most significant first
unfoldable pub digits : (n number : ℕ) → List ℕ
digits zero number = []
digits (suc n) number = pick (ltb number 10) ((0x30 + number) ∷ []) (digits n (number / 10) ++ ((0x30 + number % 10) ∷ []))

-- a number of 32 bits in decimal, without a leading zero
unfoldable pub decimal_text : ℕ → List ℕ
decimal_text number = digits 10 number

-- 'refused', the number, the line, the column, tabs between
unfoldable pub refused_text : (number line column : ℕ) → List ℕ
refused_text number line column =
    0x72 ∷ 0x65 ∷ 0x66 ∷ 0x75 ∷ 0x73 ∷ 0x65 ∷ 0x64 ∷ tab ∷ (decimal_text number ++ tab ∷ (decimal_text line ++ tab ∷ (decimal_text column ++ lf ∷ [])))

-- a checksum: four hex digits
unfoldable pub sum_text : (word : ℕ) → List ℕ
sum_text word = word_text word ++ lf ∷ []

-- a verdict: 0, 41, or 40 with the address and the count
unfoldable pub verdict_text : (number address count : ℕ) → List ℕ
verdict_text number address count =
    pick (eqb number 40) (decimal_text 40 ++ tab ∷ (word_text address ++ tab ∷ (decimal_text count ++ lf ∷ [])))
    (decimal_text number ++ lf ∷ [])

-- what a program prints: the length of the whole text, stored as far as there is room
pub record Prints (text out : List ℕ) (r : ℕ) (out' : List ℕ) : Type 0 where
  pub count : r ≡ length text
  pub stored : out' ≡ sets out 0 text
