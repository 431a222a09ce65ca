-- Laws of one line: its end, and the lines that are left after it.
use Rattle.std.specs.Prelude.{ℕ, suc, ◌+◌, ◌-◌, ◌≤◌, ◌<◌, ◌≡◌, ◌⊎◌, Bool, true, List, [], ◌∷◌, eqb, get_or, drop, Option, Some, None, MatchOption}
use Rattle.std.proofs.Math.Decide.{dec_lt}
use native.Mathlib.Omega.{arith}
use Rattle.std.proofs.Math.Path.{refl, sym, ap}
use Rattle.std.proofs.Common.{◌∙◌, inl, inr, take_all, take-take, add-zero, get_or-drop, drop-cons, drop_of_length-le, eq-eqb, ne_eqb}
use Rattle.std.proofs.Math.Bool.{false}
use Rattle.std.specs.Borrow.{Bor}
use Rattle.std.specs.Option.{unwrap_or}
use lib.Pointwise.{pointwise}
use Rattle.std.specs.Cmp.Lexicographic.{same_text, other_text}
use Rattle.std.proofs.Math.ListN.{length, take, length-drop}
use Rattle.std.proofs.Math.Seq.{take-length, length-take-le}
use Rattle.marks.specs.Marks.{index_of, index_after, slice}
use Rattle.words.specs.Choice.{pick}
use Rattle.numerals.specs.Text.{lf, cr, split}
use Rattle.numerals.specs.LawsText.{part, part_found, part_last}
use Rattle.lines.specs.Lines.{without_cr, all_without_cr, lines_of, first_of, line_at, end_of}

-- ---- the end of a line

-- the length of a line without the CR that belongs to its end
pub record Ended (piece : List ℕ) (n : ℕ) : Type 0 where
  pub line : take n piece ≡ without_cr piece
  pub within : n ≤ length piece

last_cr : (c : ℕ) (l : List ℕ) → get_or (c ∷ l) (length l) 0 ≡ cr → take (length l) (c ∷ l) ≡ without_cr (c ∷ l)
unfolding without_cr pick
last_cr c [] e = rw (eq-eqb c cr e)
last_cr c (b ∷ l) e = ap (λ t. c ∷ t) (last_cr b l e)

last_other : (c : ℕ) (l : List ℕ) → (get_or (c ∷ l) (length l) 0 ≡ cr → ⊥) → c ∷ l ≡ without_cr (c ∷ l)
unfolding without_cr pick
last_other c [] n = rw (ne_eqb c cr n)
last_other c (b ∷ l) n = ap (λ t. c ∷ t) (last_other b l n)

pub ended_empty : (piece : List ℕ) → length piece ≡ 0 → Ended piece 0
unfolding without_cr
ended_empty [] e = record { line = refl; within = omega arith }
ended_empty (c ∷ l) e = absurd (omega arith)

pub ended_cr : (piece : List ℕ) → (length piece ≡ 0 → ⊥) → get_or piece (length piece - 1) 0 ≡ cr → Ended piece (length piece - 1)
ended_cr [] n e = absurd (n refl)
ended_cr (c ∷ l) n e =
    let k : suc (length l) - 1 ≡ length l = omega arith in
    record { line = rw k (last_cr c l (rw k at e)); within = omega arith }

pub ended_other : (piece : List ℕ) → (length piece ≡ 0 → ⊥) → (get_or piece (length piece - 1) 0 ≡ cr → ⊥) → Ended piece (length piece)
ended_other [] n e = absurd (n refl)
ended_other (c ∷ l) n e =
    let k : suc (length l) - 1 ≡ length l = omega arith in
    record { line = take-length (c ∷ l) ∙ last_other c l (rw k at e); within = omega arith }

module _ (piece : List ℕ) where
  cr_cut : (n : ℕ) → pointwise eqb (drop (length piece - 1) piece) (cr ∷ []) ≡ true → n + 1 ≡ length piece → Ended piece n
  cr_cut n e w =
      let last : get_or piece (length piece - 1) 0 ≡ cr = rw (get_or-drop, add-zero) at (ap (λ l. get_or l 0 0) (same_text (drop (length piece - 1) piece) (cr ∷ []) (sym e))) in
      let m : n ≡ length piece - 1 = omega arith in
      rw m (ended_cr piece (λ z. omega arith) last)

  no_cr : pointwise eqb (drop (length piece - 1) piece) (cr ∷ []) ≡ false → Ended piece (length piece)
  no_cr e = by (dec_lt 0 (length piece))
    where
      ends : 0 < length piece → get_or piece (length piece - 1) 0 ≡ cr → drop (length piece - 1) piece ≡ cr ∷ []
      ends h q =
          let low : length piece - 1 < length piece = omega arith in
          let high : length piece ≤ suc (length piece - 1) = omega arith in
          drop-cons piece (length piece - 1) 0 low ∙ rw (q, drop_of_length-le piece high)

      by : Dec (0 < length piece) → Ended piece (length piece)
      by (yes h) = ended_other piece (λ z. omega arith) (λ q. other_text (drop (length piece - 1) piece) (cr ∷ []) (sym e) (ends h q))
      by (no h) = let z : length piece ≡ 0 = omega arith in rw z (ended_empty piece z)

-- a suffix CR taken off, if it is there
pub stripped : (piece r : Bor (List ℕ)) (o : Option (Bor (List ℕ))) → r ≡ unwrap_or o piece
    → MatchOption o (pointwise eqb (drop (length piece.now - 1) piece.now) (cr ∷ []) ≡ false)
    (λ x. (pointwise eqb (drop (length piece.now - 1) piece.now) (cr ∷ []) ≡ true) × (x.now ≡ take (length piece.now - 1) piece.now) × (length x.now + 1 ≡ length piece.now))
    → Ended piece.now (length r.now)
stripped piece r None e h = rw e (no_cr piece.now h)
stripped piece r (Some x) e h = rw e (cr_cut piece.now (length x.now) h.0 h.2)

-- a line is no longer than its piece
pub without_most : (l : List ℕ) → length (without_cr l) ≤ length l
unfolding without_cr
without_most [] = omega arith
without_most (c ∷ []) = by (eqb c cr)
  where
    by : (t : Bool) → length (pick t [] (c ∷ [])) ≤ 1
    by true = unfold pick in omega arith
    by false = unfold pick in omega arith
without_most (c ∷ b ∷ l) = let h : length (without_cr (b ∷ l)) ≤ suc (length l) = without_most (b ∷ l) in omega arith

-- and it is the piece's beginning
pub without_take : (l : List ℕ) → take (length (without_cr l)) l ≡ without_cr l
unfolding without_cr
without_take [] = refl
without_take (c ∷ []) = by (eqb c cr)
  where
    by : (t : Bool) → take (length (pick t [] (c ∷ []))) (c ∷ []) ≡ pick t [] (c ∷ [])
    by true = unfold pick in refl
    by false = unfold pick in refl
without_take (c ∷ b ∷ l) = ap (λ t. c ∷ t) (without_take (b ∷ l))

-- ---- the lines that are left

pub index_most : (b : ℕ) (l : List ℕ) → index_of b l ≤ length l
unfolding index_of index_after
index_most b [] = omega arith
index_most b (c ∷ l) = by (eqb c b) (index_most b l)
  where
    by : (t : Bool) → index_of b l ≤ length l → index_after t (index_of b l) ≤ suc (length l)
    by true h = omega arith
    by false h = omega arith

pub lines_of_nothing : lines_of [] ≡ [] ∷ []
unfolding lines_of split all_without_cr without_cr
lines_of_nothing = refl

module _ (text : List ℕ) (at : ℕ) (within : at ≤ length text) where
  -- the characters of the line and its CR
  unfoldable pub piece : List ℕ
  piece = take (end_of text at - at) (drop at text)

  searched : end_of text at ≡ at + index_of lf (slice at (length text) text)
  unfolding end_of slice
  searched = rw take-length

  pub end_most : end_of text at ≤ length text
  unfolding end_of
  end_most = let most : index_of lf (drop at text) ≤ length text - at = (rw length-drop at (index_most lf (drop at text))) in omega arith

  pub end_least : at ≤ end_of text at
  unfolding end_of
  end_least = omega arith

  lines_more : end_of text at < length text → lines_of (drop at text) ≡ without_cr piece ∷ lines_of (drop (end_of text at + 1) text)
  unfolding lines_of all_without_cr piece
  lines_more h = ap all_without_cr (part_found lf text at (end_of text at) searched within h) ∙ (unfold part in refl)

  lines_last : length text ≤ end_of text at → lines_of (drop at text) ≡ without_cr piece ∷ []
  unfolding lines_of all_without_cr piece
  lines_last h =
      ap all_without_cr (part_last lf text at (end_of text at) searched within h)
      ∙ ap (λ l. without_cr l ∷ []) (sym (take_all (end_of text at - at) (drop at text) (rw length-drop (omega arith))))

  -- the line at a place is its piece without the CR
  pub line_at_lem : line_at text at ≡ without_cr piece
  unfolding line_at
  line_at_lem = by (dec_lt (end_of text at) (length text))
    where
      by : Dec (end_of text at < length text) → first_of (lines_of (drop at text)) ≡ without_cr piece
      by (yes h) = rw (lines_more h) (unfold first_of in refl)
      by (no h) = rw (lines_last (omega arith)) (unfold first_of in refl)

  -- it comes before all lines from past its LF on, or it is the last
  pub lines_left : (lines_of (drop at text) ≡ line_at text at ∷ lines_of (drop (end_of text at + 1) text)) ⊎ ((lines_of (drop at text) ≡ line_at text at ∷ []) × (length text ≤ end_of text at))
  lines_left = by (dec_lt (end_of text at) (length text))
    where
      by : Dec (end_of text at < length text)
          → (lines_of (drop at text) ≡ line_at text at ∷ lines_of (drop (end_of text at + 1) text)) ⊎ ((lines_of (drop at text) ≡ line_at text at ∷ []) × (length text ≤ end_of text at))
      by (yes h) = inl (lines_more h ∙ ap (λ l. l ∷ lines_of (drop (end_of text at + 1) text)) (sym line_at_lem))
      by (no h) = inr (lines_last (omega arith) ∙ ap (λ l. l ∷ []) (sym line_at_lem), omega arith)

  -- its length, as a test for the CR found it
  pub line_length : (n : ℕ) → Ended piece n → n ≡ length (line_at text at)
  line_length n e = sym (length-take-le n piece e.within) ∙ ap length (e.line ∙ sym line_at_lem)

  pub line_short : at + length (line_at text at) ≤ end_of text at
  unfolding piece
  line_short =
      let short : length (without_cr piece) ≤ length piece = without_most piece in
      let most : end_of text at ≤ length text = end_most in
      let long : length piece ≡ end_of text at - at = length-take-le (end_of text at - at) (drop at text) (rw length-drop (omega arith)) in
      let same : length (line_at text at) ≡ length (without_cr piece) = ap length line_at_lem in
      let low : at ≤ end_of text at = end_least in
      omega arith

  -- the characters of the text from its start on, as many as it has, are the line
  pub line_taken : take (length (line_at text at)) (drop at text) ≡ line_at text at
  unfolding piece
  line_taken =
      let same : length (line_at text at) ≡ length (without_cr piece) = ap length line_at_lem in
      let short : at + length (line_at text at) ≤ end_of text at = line_short in
      let part : take (length (without_cr piece)) (drop at text) ≡ take (length (without_cr piece)) piece =
      sym (take-take (length (without_cr piece)) (end_of text at - at) (drop at text) (omega arith)) in
      ap (λ n. take n (drop at text)) same ∙ (part ∙ (without_take piece ∙ sym line_at_lem))
