-- Line 1 of a sheet, which tells its two forms apart (#106; #107 for the ID). Text is a list of bytes.
use Rattle.std.specs.Prelude.{ℕ, ◌+◌, Bool, true, false, Result, ◌&&◌, List, [], ◌∷◌, ◌++◌, ltb, eqb, length, get_or, take, drop}
use Rattle.marks.specs.Marks.{index_of}
use Rattle.words.specs.Choice.{pick, unless}
use Rattle.words.specs.Word.{is_word}
use Rattle.numerals.specs.Text.{tab, lf}
use Rattle.numerals.specs.Hex.{capital_of, word_by, word_text}
use Rattle.refusal.specs.Refusal.{number_in, value_in}
use Rattle.refusal.specs.declared.Refusal.{Refusal}
use Rattle.table.specs.Table.{name_ok}

unfoldable pub same_text : List ℕ → List ℕ → Bool
same_text [] [] = true
same_text [] (c ∷ m) = false
same_text (c ∷ l) [] = false
same_text (c ∷ l) (b ∷ m) = eqb c b && same_text l m

-- ---- what is written

-- the old form: a device ID
unfoldable pub old_line : (id : ℕ) → List ℕ
old_line id = word_text id ++ (lf ∷ [])

-- the new form: ID, name and sum, a tab between
unfoldable pub new_line : (id : ℕ) (name : List ℕ) (sum : ℕ) → List ℕ
new_line id name sum = word_text id ++ (tab ∷ (name ++ (tab ∷ (word_text sum ++ (lf ∷ [])))))

-- ---- what is read

-- the ID
abbrev pub id_in : List ℕ → ℕ
id_in text = word_by capital_of text 0

-- the new form has a tab after the ID
unfoldable pub is_new : List ℕ → Bool
is_new text = eqb (get_or text 4 0) tab

-- the name: what stands after that tab, up to the next one
unfoldable pub name_in : List ℕ → List ℕ
name_in text = take (index_of tab (drop 5 text)) (drop 5 text)

-- the sum: the digits after the next one
unfoldable pub sum_in : List ℕ → ℕ
sum_in text = word_by capital_of text (5 + length (name_in text) + 1)

-- line 1 as it is written of these
unfoldable pub line_in : List ℕ → List ℕ
line_in text = pick (is_new text) (new_line (id_in text) (name_in text) (sum_in text)) (old_line (id_in text))

-- an ID that some record can have, in the new form a name that a table can have and a sum of four digits; and line 1 is just what is written of them
unfoldable pub line_ok : List ℕ → Bool
line_ok text =
    is_word (id_in text)
    && pick (is_new text) (name_ok (name_in text) && ltb (sum_in text) 65536) true
    && same_text (take (length (line_in text)) text) (line_in text)

-- the other lines
unfoldable pub rest_in : List ℕ → List ℕ
rest_in text = drop (length (line_in text)) text

-- ---- the answer: 14, or the ID of either form

pub record Line1 : Type 0 where
  pub number : ℕ
  pub id : ℕ

unfoldable pub first_line : List ℕ → Line1
first_line text =
    unless (line_ok text) (record { number = 14; id = 0 })
    (record { number = 0; id = id_in text })

-- what the call that reads it answers, as a number and an ID
abbrev pub id_told : Result ℕ Refusal → Line1
id_told answer = record { number = number_in answer; id = value_in 0 answer }
