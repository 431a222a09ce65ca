-- A text in pieces: lines, and fields of a line. Text is a list of bytes.
use Rattle.std.specs.Prelude.{ℕ, List, [], ◌∷◌, eqb}
use Rattle.words.specs.Choice.{pick}

abbrev pub tab : ℕ
tab = 9

abbrev pub lf : ℕ
lf = 10

abbrev pub cr : ℕ
cr = 13

-- a character more in front of the first piece
unfoldable pub in_front : ℕ → List (List ℕ) → List (List ℕ)
in_front c [] = (c ∷ []) ∷ []
in_front c (p ∷ ps) = (c ∷ p) ∷ ps

-- the pieces of a text that a mark parts: one more than there are marks
unfoldable pub split : (mark : ℕ) → List ℕ → List (List ℕ)
split mark [] = [] ∷ []
split mark (c ∷ l) = pick (eqb c mark) ([] ∷ split mark l) (in_front c (split mark l))
