-- Laws of a text in pieces: the first mark parts the first piece from the rest.
use Prim.Native.Nat.{ℕ, suc, ◌+◌, ◌-◌, ◌≤◌, ◌<◌}
use Rattle.std.proofs.Common.{le_of_suc-le-suc, not-suc-le-zero, arith, ◌∙◌, drop-drop}
use Rattle.std.specs.Prelude.{◌≡◌, Bool, eqb, drop}
use Rattle.std.proofs.Math.Path.{refl}
use Rattle.std.proofs.Math.Bool.{true, false}
use mathlib.Core.List.{List, [], ◌∷◌}
use Rattle.std.proofs.Math.ListN.{length, take, length-drop}
use Rattle.std.proofs.Math.Seq.{take-length}
use Rattle.marks.specs.Marks.{index_of, index_after, slice}
use Rattle.words.specs.Choice.{pick}
use Rattle.numerals.specs.Text.{split, in_front}

-- ---- a list of characters

module _ (mark : ℕ) where
  -- the first mark parts the first piece from the rest
  pub split_at : (l : List ℕ) → index_of mark l < length l → split mark l ≡ take (index_of mark l) l ∷ split mark (drop (suc (index_of mark l)) l)
  unfolding split index_of index_after
  split_at [] h = absurd (not-suc-le-zero h)
  split_at (c ∷ l) h = by (eqb c mark) h (split_at l)
    where
      Rest : Type 0
      Rest = index_of mark l < length l → split mark l ≡ take (index_of mark l) l ∷ split mark (drop (suc (index_of mark l)) l)

      by : (t : Bool) → index_after t (index_of mark l) < suc (length l) → Rest
          → pick t ([] ∷ split mark l) (in_front c (split mark l)) ≡ take (index_after t (index_of mark l)) (c ∷ l) ∷ split mark (drop (suc (index_after t (index_of mark l))) (c ∷ l))
      by true p ih = unfold pick in refl
      by false p ih = unfold pick in_front in rw (ih (le_of_suc-le-suc p))

  -- with no mark the text is one piece
  pub split_whole : (l : List ℕ) → length l ≤ index_of mark l → split mark l ≡ l ∷ []
  unfolding split index_of index_after
  split_whole [] h = refl
  split_whole (c ∷ l) h = by (eqb c mark) h (split_whole l)
    where
      by : (t : Bool) → suc (length l) ≤ index_after t (index_of mark l) → (length l ≤ index_of mark l → split mark l ≡ l ∷ [])
          → pick t ([] ∷ split mark l) (in_front c (split mark l)) ≡ (c ∷ l) ∷ []
      by true p ih = absurd (not-suc-le-zero p)
      by false p ih = unfold pick in_front in rw (ih (le_of_suc-le-suc p))

-- ---- a part of a text, as the code cuts it: r is where a search from `from` on ended

-- the characters from `from` up to, not including, `to`
unfoldable pub part : (from to : ℕ) → List ℕ → List ℕ
part from to l = take (to - from) (drop from l)

slice_rest : (from : ℕ) (l : List ℕ) → slice from (length l) l ≡ drop from l
unfolding slice
slice_rest from l = rw take-length

module _ (mark : ℕ) (l : List ℕ) (from r : ℕ) (e : r ≡ from + index_of mark (slice from (length l) l)) (within : from ≤ length l) where
  at : r ≡ from + index_of mark (drop from l)
  at = rw slice_rest at e

  pub part_found : r < length l → split mark (drop from l) ≡ part from r l ∷ split mark (drop (r + 1) l)
  unfolding part
  part_found h =
      let k : index_of mark (drop from l) ≡ r - from = omega (arith, at) in
      let short : index_of mark (drop from l) < length (drop from l) = rw length-drop (omega (arith, at)) in
      let go : from + suc (index_of mark (drop from l)) ≡ r + 1 = omega (arith, at) in
      split_at mark (drop from l) short ∙ (rw (drop-drop, go, k))

  pub part_last : length l ≤ r → split mark (drop from l) ≡ drop from l ∷ []
  part_last h = split_whole mark (drop from l) (rw length-drop (omega (arith, at)))

-- a text always has a piece
pub some_piece : (mark : ℕ) (l : List ℕ) (P : List (List ℕ) → Type 0) → ((p : List ℕ) (ps : List (List ℕ)) → P (p ∷ ps)) → P (split mark l)
unfolding split
some_piece mark [] P h = h [] []
some_piece mark (c ∷ l) P h = by (eqb c mark)
  where
    front : (ps : List (List ℕ)) → P (in_front c ps)
    front [] = unfold in_front in h (c ∷ []) []
    front (p ∷ ps) = unfold in_front in h (c ∷ p) ps

    by : (t : Bool) → P (pick t ([] ∷ split mark l) (in_front c (split mark l)))
    by true = unfold pick in h [] (split mark l)
    by false = unfold pick in front (split mark l)
