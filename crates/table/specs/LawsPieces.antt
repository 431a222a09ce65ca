-- Laws of a text that is parted at its first mark.
use Rattle.std.specs.Prelude.{ℕ, suc, ◌≡◌, ◌+◌, ◌-◌, ◌<◌, ◌==◌, Bool, true, false, cond, Some, None, List, [], ◌∷◌, ◌++◌, length, get_or, take, drop, ltb, eqb, refl}
use Rattle.std.specs.List.{position, position_or_len}
use Rattle.std.proofs.Common.{sym, ap, ◌∙◌, arith, add-one, drop-cons, take-append-drop, length-append, length-drop, take_all, eqb-true}
use Rattle.std.proofs.lemmas.Option.{cond_some}
use Rattle.std.proofs.lemmas.List.Recursion.{is_position_or_len}
use Rattle.std.proofs.lemmas.List.Quantifiers.{position-Some}
use borrow.Author.Tests.{lt-ltb}
use Rattle.words.specs.LawsTests.{by_lt}
use Rattle.marks.specs.Marks.{index_of, index_after}
use Rattle.numerals.specs.Text.{split}
use Rattle.numerals.specs.LawsText.{split_at, split_whole}

-- the first piece of a text, and what stands after its mark
pub record Parted (mark : ℕ) (text first rest : List ℕ) : Type 0 where
  pub seam : text ≡ first ++ (mark ∷ rest)
  pub pieces : split mark text ≡ first ∷ split mark rest

module _ (mark : ℕ) (text : List ℕ) where
  index_is : index_of mark text ≡ position_or_len (λ c. c == mark) text
  unfolding index_of index_after
  index_is = is_position_or_len (index_of mark) (λ c. c == mark) refl (λ c l. by (eqb c mark) (index_of mark l)) text
    where
      by : (t : Bool) (n : ℕ) → index_after t n ≡ cond t 0 (1 + n)
      by true n = refl
      by false n = omega arith

  pub parted_none : position (λ c. c == mark) text ≡ None → split mark text ≡ text ∷ []
  parted_none e =
      by_lt (position_or_len (λ c. c == mark) text) (length text)
      (λ h. let t : ltb (position_or_len (λ c. c == mark) text) (length text) ≡ true = lt-ltb _ _ h in
      let s : position (λ c. c == mark) text ≡ Some (position_or_len (λ c. c == mark) text) = (rw t) in
      let z : Some (position_or_len (λ c. c == mark) text) ≡ None = sym s ∙ e in cc)
      (λ h. split_whole mark text (rw index_is h))

  pub parted_some : (k : ℕ) → position (λ c. c == mark) text ≡ Some k → Parted mark text (take k text) (drop (k + 1) text)
  parted_some k e =
      let p : (k < length text) × ((get_or text k 0 == mark) ≡ true) × ((i : ℕ) → i < k → (get_or text i 0 == mark) ≡ false) = position-Some (λ c. c == mark) text k 0 e in
      let m : get_or text k 0 ≡ mark = eqb-true (get_or text k 0) mark p.1 in
      let i : index_of mark text ≡ k = index_is ∙ (cond_some _ _ _ e).1 in
      let h : k < length text = p.0 in
      record {
        seam = sym (take-append-drop k text) ∙ ap (λ l. take k text ++ l) (drop-cons text k 0 h ∙ (rw (m, add-one)));
        pieces = rw (i, ← add-one k) at (split_at mark text (rw i h));
      }

  -- what the code cuts off is the rest
  pub parted_at : (k : ℕ) → position (λ c. c == mark) text ≡ Some k → Parted mark text (take k text) (take (length text - (k + 1)) (drop (k + 1) text))
  parted_at k e = rw (take_all (length text - (k + 1)) (drop (k + 1) text) (rw length-drop (omega arith))) (parted_some k e)

-- how long the parts are
pub parted_length : (mark : ℕ) (text first rest : List ℕ) → Parted mark text first rest → length first + 1 + length rest ≡ length text
parted_length mark text first rest p = let e : length text ≡ length first + suc (length rest) = ap length p.seam ∙ length-append first (mark ∷ rest) in omega arith
