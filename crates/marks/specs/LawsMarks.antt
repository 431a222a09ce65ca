-- Laws of a search that goes from place to place.
use Rattle.std.specs.Prelude.{ℕ, suc, ◌∷◌, ◌+◌, ◌≤◌, ◌<◌, ◌≡◌, List, length, get_or, refl, min, max, take}
use Rattle.std.proofs.lemmas.List.{take_min, length-take}
use Rattle.std.proofs.Common.{arith, ap, ◌∙◌, add-one, drop-cons, drop_of_length-le, get_or-take}
use Rattle.std.proofs.Math.Seq.{length-take-le}
use Rattle.std.proofs.Math.Decide.{dec_lt}
use borrow.Author.Tests.{ne_eqb, eq-eqb}
use Rattle.marks.specs.Marks.{index_after, index_of, slice}

-- a part that ends past the text's end is the part up to that end
pub slice_min : (from to end : ℕ) (text : List ℕ) → end ≡ min to (length text) → slice from end text ≡ slice from to text
unfolding slice
slice_min from to end text e = rw (e, take_min) refl

-- a part that begins where it ends, or after that, has no byte
pub slice_past : (from to mark : ℕ) (text : List ℕ) → min to (length text) ≤ from → index_of mark (slice from to text) ≡ 0
unfolding slice index_of
slice_past from to mark text h =
    let short : length (take to text) ≤ from = rw length-take h in
    rw (drop_of_length-le (take to text) short) refl

-- a search from `from` ends where one from `at` does
pub record Passed (text : List ℕ) (from to mark at : ℕ) : Type 0 where
  pub within : at ≤ to
  pub same : at + index_of mark (slice at to text) ≡ from + index_of mark (slice from to text)

module _ (text : List ℕ) (from to mark : ℕ) (long : to ≤ length text) where
  pub passed_none : from ≤ to → Passed text from to mark from
  passed_none h = record { within = h; same = refl }

  module _ (at : ℕ) (p : Passed text from to mark at) where
    opens : at < to → slice at to text ≡ get_or text at 0 ∷ slice (at + 1) to text
    unfolding slice
    opens h =
        let below : at < length (take to text) = rw (length-take-le to text long) h in
        let first : get_or (take to text) at 0 ≡ get_or text at 0 = get_or-take to text at 0 h in
        drop-cons (take to text) at 0 below ∙ rw (first, add-one) refl

    pub passed_more : at < to → (get_or text at 0 ≡ mark → ⊥) → Passed text from to mark (at + 1)
    unfolding index_of index_after
    passed_more h n =
        let one : index_of mark (slice at to text) ≡ suc (index_of mark (slice (at + 1) to text)) = rw (opens h, ne_eqb (get_or text at 0) mark n) refl in
        let was : at + index_of mark (slice at to text) ≡ from + index_of mark (slice from to text) = p.same in
        record { within = omega arith; same = omega arith }

    pub passed_here : at < to → get_or text at 0 ≡ mark → at ≡ from + index_of mark (slice from to text)
    unfolding index_of index_after
    passed_here h e =
        let none : index_of mark (slice at to text) ≡ 0 = rw (opens h, eq-eqb (get_or text at 0) mark e) refl in
        let was : at + index_of mark (slice at to text) ≡ from + index_of mark (slice from to text) = p.same in
        omega arith

    pub passed_end : to ≤ at → at ≡ from + index_of mark (slice from to text)
    unfolding index_of slice
    passed_end h =
        let all : length (take to text) ≤ at = rw (length-take-le to text long) h in
        let none : index_of mark (slice at to text) ≡ 0 = rw (drop_of_length-le (take to text) all) refl in
        let was : at + index_of mark (slice at to text) ≡ from + index_of mark (slice from to text) = p.same in
        omega arith

-- a search that is through has its answer at the end, or where it began if that is past the end
pub searched : (text : List ℕ) (from to mark end at out : ℕ) → end ≡ min to (length text) → (from ≤ end → Passed text from end mark at) → (from ≤ end → at ≤ end) → end ≤ at → out ≡ max from end → out ≡ from + index_of mark (slice from to text)
searched text from to mark end at out e p reached past o = by (dec_lt end from)
  where
    long : end ≤ length text
    long = omega arith

    by : Dec (end < from) → out ≡ from + index_of mark (slice from to text)
    by (yes h) =
        let none : index_of mark (slice from to text) ≡ 0 = slice_past from to mark text (omega arith) in
        omega arith
    by (no h) =
        let r : from ≤ end = omega arith in
        let here : at ≤ end = reached r in
        let all : at ≡ from + index_of mark (slice from end text) = passed_end text from end mark long at (p r) past in
        let same : index_of mark (slice from end text) ≡ index_of mark (slice from to text) = ap (index_of mark) (slice_min from to end text e) in
        omega arith
