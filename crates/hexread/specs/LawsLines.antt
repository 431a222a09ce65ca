-- Laws of many lines: a text made of lines, and a reading of lines that come after others.
use Prim.Native.Nat.{ℕ, suc, ◌+◌}
use Rattle.std.proofs.Common.{add-zero, ◌∙◌}
use native.Mathlib.Omega.{arith}
use Rattle.std.specs.Prelude.{◌≡◌, Bool, ◌&&◌, not, eqb}
use Rattle.std.proofs.Math.Path.{refl, ap}
use Rattle.std.proofs.Math.Bool.{true, false}
use mathlib.Core.List.{List, [], ◌∷◌, ◌++◌}
use Rattle.std.proofs.Math.ListN.{length}
use borrow.Author.Tests.{eq-eqb, eqb-true, not-true}
use Rattle.words.specs.Choice.{pick}
use Rattle.numerals.specs.Text.{cr, split, in_front}
use Rattle.words.specs.LawsChoice.{both, first_holds, second_holds, true_not_false}
use Rattle.lines.specs.Lines.{without_cr}
use Rattle.hexread.specs.Step.{Reading, line_step}
use Rattle.hexread.specs.Column.{line_column}
use Rattle.hexread.specs.Reader.{refused_at, read_lines}
use Rattle.hexread.specs.LawsReader.{lines_on}

-- ---- a text that begins with a line

-- a text without this character
unfoldable pub without : (mark : ℕ) → List ℕ → Bool
without mark [] = true
without mark (c ∷ l) = not (eqb c mark) && without mark l

without_first : (mark c : ℕ) (l : List ℕ) → without mark (c ∷ l) ≡ true → eqb c mark ≡ false
unfolding without
without_first mark c l e = not-true (eqb c mark) (first_holds (not (eqb c mark)) (without mark l) e)

without_rest : (mark c : ℕ) (l : List ℕ) → without mark (c ∷ l) ≡ true → without mark l ≡ true
unfolding without
without_rest mark c l e = second_holds (not (eqb c mark)) (without mark l) e

eqb_self : (n : ℕ) → eqb n n ≡ true
eqb_self n = eq-eqb n n refl

-- up to the first mark it is one piece
pub split_line : (mark : ℕ) (l t : List ℕ) → without mark l ≡ true → split mark (l ++ (mark ∷ t)) ≡ l ∷ split mark t
unfolding split pick
split_line mark [] t e = rw (eqb_self mark)
split_line mark (c ∷ l) t e =
    rw (without_first mark c l e, split_line mark l t (without_rest mark c l e)) (unfold in_front in refl)

-- a line without a CR is whole
pub line_whole : (l : List ℕ) → without cr l ≡ true → without_cr l ≡ l
unfolding without_cr pick
line_whole [] e = refl
line_whole (c ∷ []) e = rw (without_first cr c [] e)
line_whole (c ∷ b ∷ l) e = ap (λ t. c ∷ t) (line_whole (b ∷ l) (without_rest cr c (b ∷ l) e))

-- ---- lines after lines

-- the reading after these lines, where none of them is refused
unfoldable pub step_all : (words : ℕ) → List (List ℕ) → Reading → Reading
step_all words [] r = r
step_all words (l ∷ ls) r = step_all words ls (line_step words l r)

-- none of these lines is refused
unfoldable pub all_taken : (words : ℕ) → List (List ℕ) → Reading → Bool
all_taken words [] r = true
all_taken words (l ∷ ls) r = eqb (line_step words l r).number 0 && all_taken words ls (line_step words l r)

module _ (words : ℕ) (l : List ℕ) (ls : List (List ℕ)) (r : Reading) where
  taken_first : all_taken words (l ∷ ls) r ≡ true → (line_step words l r).number ≡ 0
  unfolding all_taken
  taken_first e = eqb-true (line_step words l r).number 0 (first_holds (eqb (line_step words l r).number 0) (all_taken words ls (line_step words l r)) e)

  taken_rest : all_taken words (l ∷ ls) r ≡ true → all_taken words ls (line_step words l r) ≡ true
  unfolding all_taken
  taken_rest e = second_holds (eqb (line_step words l r).number 0) (all_taken words ls (line_step words l r)) e

module _ (words : ℕ) (ms : List (List ℕ)) where
  -- lines that are all taken: the rest is read from where they lead
  pub read_append : (ls : List (List ℕ)) (k : ℕ) (r : Reading) → all_taken words ls r ≡ true
      → read_lines words (ls ++ ms) k r ≡ read_lines words ms (k + length ls) (step_all words ls r)
  unfolding step_all
  read_append [] k r e = rw (add-zero k)
  read_append (l ∷ ls) k r e =
      let count : k + 1 + length ls ≡ k + suc (length ls) = omega arith in
      lines_on words l (ls ++ ms) k r (taken_first words l ls r e)
      ∙ (read_append ls (k + 1) (line_step words l r) (taken_rest words l ls r e) ∙ ap (λ m. read_lines words ms m (step_all words ls (line_step words l r))) count)

  -- a line that is refused decides, whatever comes after it
  pub read_append_refused : (ls : List (List ℕ)) (k : ℕ) (r : Reading) → all_taken words ls r ≡ false → read_lines words (ls ++ ms) k r ≡ read_lines words ls k r
  unfolding all_taken read_lines pick
  read_append_refused [] k r e = absurd (true_not_false refl e)
  read_append_refused (l ∷ ls) k r e = by (eqb (line_step words l r).number 0) e (read_append_refused ls (k + 1) (line_step words l r))
    where
      by : (t : Bool) → (t && all_taken words ls (line_step words l r)) ≡ false
          → (all_taken words ls (line_step words l r) ≡ false → read_lines words (ls ++ ms) (k + 1) (line_step words l r) ≡ read_lines words ls (k + 1) (line_step words l r))
          → pick t (read_lines words (ls ++ ms) (k + 1) (line_step words l r)) (refused_at words (line_step words l r).number k (line_column words l r))
          ≡ pick t (read_lines words ls (k + 1) (line_step words l r)) (refused_at words (line_step words l r).number k (line_column words l r))
      by true q rest = rest q
      by false q rest = refl

  pub step_append : (ls : List (List ℕ)) (r : Reading) → step_all words (ls ++ ms) r ≡ step_all words ms (step_all words ls r)
  unfolding step_all
  step_append [] r = refl
  step_append (l ∷ ls) r = step_append ls (line_step words l r)

  pub taken_append : (ls : List (List ℕ)) (r : Reading) → all_taken words ls r ≡ true → all_taken words ms (step_all words ls r) ≡ true → all_taken words (ls ++ ms) r ≡ true
  unfolding all_taken step_all
  taken_append [] r p q = q
  taken_append (l ∷ ls) r p q =
      both (eqb (line_step words l r).number 0) (all_taken words (ls ++ ms) (line_step words l r))
      (first_holds (eqb (line_step words l r).number 0) (all_taken words ls (line_step words l r)) p)
      (taken_append ls (line_step words l r) (second_holds (eqb (line_step words l r).number 0) (all_taken words ls (line_step words l r)) p) q)
