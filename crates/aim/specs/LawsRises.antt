-- Laws of where a wanted word rises over the known one.
use Rattle.std.specs.Prelude.{ℕ, ◌+◌, ◌*◌, ◌/◌, ◌%◌, ◌<◌, ◌≡◌, true, false}
use Rattle.std.proofs.Common.{div-add-mod', mod-lt, sym, subst, ◌∙◌, eqb-true, eq-eqb, ne_eqb}
use Rattle.std.proofs.Math.Path.{ap}
use Rattle.std.proofs.Math.Bool.{not}
use Rattle.std.specs.Int.Bits.{bit_and, and_self}
use Rattle.words.specs.LawsChoice.{true_not_false}
use Rattle.words.specs.LawsWord.{Contains}
use Rattle.words.specs.LawsTests.{by_eq, not_fails}
use Rattle.target.specs.Chip.{Chip}
use Rattle.aim.specs.Wanted.{differs, only_clears, rises, row_differs, row_rises, id_differs, id_rises}
use Rattle.aim.specs.LawsSome.{some_none, some_weaken}

-- ---- one word

-- what can be written over a word is contained in it
pub clears_contained : (word other : ℕ) → only_clears word other ≡ true → Contains other word
unfolding only_clears Contains
clears_contained word other e = eqb-true (bit_and other word) word e

pub clears_same : (word : ℕ) → only_clears word word ≡ true
unfolding only_clears
clears_same word = eq-eqb (bit_and word word) word (and_self word)

module _ (word old : ℕ → ℕ) (i : ℕ) where
  pub not_rises : rises word old i ≡ false → Contains (old i) (word i)
  unfolding rises
  not_rises e = clears_contained (word i) (old i) (not_fails (only_clears (word i) (old i)) e)

  pub rises_not : only_clears (word i) (old i) ≡ true → rises word old i ≡ false
  unfolding rises
  rises_not e = ap not e

  pub rises_differs : rises word old i ≡ true → differs word old i ≡ true
  unfolding differs
  rises_differs e =
      by_eq (word i) (old i)
      (λ q. absurd (true_not_false e (rises_not (subst (λ w. only_clears (word i) w ≡ true) q (clears_same (word i))))))
      (λ n. ap not (ne_eqb (word i) (old i) n))

-- ---- rows and user IDs

module _ (chip : Chip) (word old : ℕ → ℕ) where
  -- in a row that does not rise
  pub row_contained : 0 < chip.row → (i : ℕ) → row_rises chip word old (i / chip.row) ≡ false → Contains (old i) (word i)
  unfolding row_rises
  row_contained pos i e =
      not_rises word old i
      (ap (rises word old) (sym (div-add-mod' i chip.row))
      ∙ some_none chip.row (λ j. rises word old (i / chip.row * chip.row + j)) e (i % chip.row) (mod-lt i pos))

  pub id_contained : id_rises chip word old ≡ false → (k : ℕ) → k < chip.ids → Contains (old (chip.words + k)) (word (chip.words + k))
  unfolding id_rises
  id_contained e k h = not_rises word old (chip.words + k) (some_none chip.ids (λ j. rises word old (chip.words + j)) e k h)

  -- what rises differs
  pub row_rises_differs : (k : ℕ) → row_rises chip word old k ≡ true → row_differs chip word old k ≡ true
  unfolding row_rises row_differs
  row_rises_differs k e = some_weaken chip.row _ _ (λ j p. rises_differs word old (k * chip.row + j)) e

  pub id_rises_differs : id_rises chip word old ≡ true → id_differs chip word old ≡ true
  unfolding id_rises id_differs
  id_rises_differs e = some_weaken chip.ids _ _ (λ j p. rises_differs word old (chip.words + j)) e
