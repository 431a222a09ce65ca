-- Laws of the words stored one after another.
use Prim.Native.Nat.{ℕ, ◌+◌, ◌*◌, ◌≤◌, ◌<◌}
use Rattle.std.proofs.Common.{le_antisymm, zero-add, arith, ◌∙◌}
use Rattle.std.specs.Prelude.{◌≡◌, true, Some, List, length, set}
use Rattle.std.proofs.Math.Path.{sym, ap}
use Rattle.words.specs.Choice.{below}
use Rattle.table.specs.LawsLine.{below_low}
use Rattle.words.specs.Lists.{overlay}
use Rattle.words.specs.LawsLists.{same_entries, length_overlay, overlay_inside, overlay_none, overlay_more}
use Rattle.numerals.specs.Hex.{capital_of, word_by}
use Rattle.device.specs.Memory.{reading_tail, reading_ok}
use Rattle.device.specs.LawsMemory.{reading_each}
use Rattle.gathers.specs.Gather.{answers_in}
use Rattle.gathers.specs.LawsAnswers.{length_in, answer_in}

-- ---- the words stored so far

unfoldable pub stored : (text : List ℕ) (count : ℕ) (buffer : List ℕ) → List ℕ
stored t count l = overlay 0 count (λ i. word_by capital_of t (5 * i)) l

-- each word is read where it is stored
pub stored_there : (words : ℕ) (t : List ℕ) → reading_ok words (answers_in words t) ≡ true → (i : ℕ) → i < words + reading_tail → below 65536 (word_by capital_of t (5 * i)) ≡ Some (word_by capital_of t (5 * i))
stored_there words t ok i h = let s : word_by capital_of t (5 * i) < 0x4000 = rw (answer_in words t i h) at (reading_each words (answers_in words t) ok i) in below_low 65536 _ (omega arith)

module _ (t l : List ℕ) where
  pub stored_none : l ≡ stored t 0 l
  unfolding stored
  stored_none = sym (overlay_none 0 (λ i. word_by capital_of t (5 * i)) l)

  pub stored_more : (i : ℕ) (m : List ℕ) (v : ℕ) → m ≡ stored t i l → v ≡ word_by capital_of t (5 * i) → set m i v ≡ stored t (i + 1) l
  unfolding stored
  stored_more i m v e q =
      rw (zero-add i) at (overlay_more 0 i (λ k. word_by capital_of t (5 * k)) l m v e (q ∙ ap (λ k. word_by capital_of t (5 * k)) (sym (zero-add i))))

  pub stored_end : (words : ℕ) → length l ≡ words + reading_tail → (i : ℕ) (m : List ℕ) → i ≤ words + reading_tail → words + reading_tail ≤ i → m ≡ stored t i l → m ≡ answers_in words t
  unfolding stored
  stored_end words long i m p q e = e ∙ (ap (λ k. overlay 0 k f l) (le_antisymm p q) ∙ all)
    where
      f : ℕ → ℕ
      f i = word_by capital_of t (5 * i)

      all : overlay 0 (words + reading_tail) f l ≡ answers_in words t
      all = same_entries (overlay 0 (words + reading_tail) f l) (answers_in words t) (length_overlay 0 (words + reading_tail) f l ∙ (long ∙ sym (length_in words t)))
          (λ i h. let p : i < words + reading_tail = rw (length_overlay, long) at h in
          overlay_inside 0 (words + reading_tail) f l i (omega arith) (omega arith) (omega arith) ∙ sym (answer_in words t i p))
