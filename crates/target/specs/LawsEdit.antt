-- Laws of an edit of the cells: what it leaves, what it changes, and edits of a range.
use Rattle.std.specs.Prelude.{ℕ, ◌+◌, ◌-◌, ◌*◌, ◌/◌, ◌%◌, ◌≤◌, ◌<◌, ◌≡◌, refl, Bool, true, false, ◌||◌, List, eqb, length, get_or, set}
use Rattle.std.proofs.Common.{div-add-mod', mod-lt, arith, ◌∙◌, length-set, eq-eqb, ne_eqb}
use Rattle.std.proofs.Math.Decide.{dec_lt, ℕ_discrete}
use Rattle.std.proofs.Math.Path.{sym, ap}
use Rattle.std.proofs.Math.Arith.{digits_div}
use Rattle.words.specs.Choice.{pick}
use Rattle.words.specs.Lists.{in_range, overlay}
use Rattle.words.specs.LawsChoice.{pick_true, pick_false}
use Rattle.words.specs.LawsLists.{length_build, get_or_build, build_ext, get_d_past, in_range_lem, below_range, above_range, same_entries, length_overlay, overlay_outside}
use Rattle.target.specs.Effects.{edit}

-- ---- entry by entry

module _ (hit : ℕ → Bool) (new : ℕ → ℕ) (cells : List ℕ) where
  pub length_edit : length (edit hit new cells) ≡ length cells
  unfolding edit
  length_edit = length_build (length cells) _

  pub edit_hit : (i : ℕ) → i < length cells → hit i ≡ true → get_or (edit hit new cells) i 0 ≡ new i
  unfolding edit
  edit_hit i h e = get_or_build (length cells) _ i h ∙ pick_true (hit i) (new i) (get_or cells i 0) e

  kept : (i : ℕ) → hit i ≡ false → Dec (i < length cells) → get_or (edit hit new cells) i 0 ≡ get_or cells i 0
  unfolding edit
  kept i e (yes h) = get_or_build (length cells) _ i h ∙ pick_false (hit i) (new i) (get_or cells i 0) e
  kept i e (no h) = get_d_past (edit hit new cells) i (rw length_edit (omega arith)) ∙ sym (get_d_past cells i (omega arith))

  pub edit_kept : (i : ℕ) → hit i ≡ false → get_or (edit hit new cells) i 0 ≡ get_or cells i 0
  edit_kept i e = kept i e (dec_lt i (length cells))

  -- an edit that hits nothing
  pub edit_none : ((i : ℕ) → hit i ≡ false) → edit hit new cells ≡ cells
  edit_none h = same_entries (edit hit new cells) cells length_edit (λ i p. edit_kept i (h i))

  -- an edit that hits just a range
  pub edit_range : (first count : ℕ) → ((i : ℕ) → i < length cells → hit i ≡ in_range first count i) → edit hit new cells ≡ overlay first count new cells
  unfolding edit overlay
  edit_range first count h = build_ext (length cells) _ _ (λ i p. ap (λ b. pick b (new i) (get_or cells i 0)) (h i p))

  -- an edit that hits just one cell
  pub edit_one : (j : ℕ) → ((i : ℕ) → i < length cells → hit i ≡ eqb i j) → edit hit new cells ≡ set cells j (new j)
  edit_one j h = same_entries (edit hit new cells) (set cells j (new j)) (length_edit ∙ sym (length-set cells j (new j))) (λ i p. at_each i (rw length_edit at p) (ℕ_discrete i j))
    where
      at_each : (i : ℕ) → i < length cells → Dec (i ≡ j) → get_or (edit hit new cells) i 0 ≡ get_or (set cells j (new j)) i 0
      at_each i p (yes q) =
          edit_hit i p (h i p ∙ eq-eqb i j q)
          ∙ (ap new q ∙ (sym (lib.Seq.get_or-set_same cells j (new j) 0 (rw (← q) p)) ∙ ap (λ k. get_or (set cells j (new j)) k 0) (sym q)))
      at_each i p (no q) = edit_kept i (h i p ∙ ne_eqb i j q) ∙ sym (lib.Seq.get_or-set_other cells j i (new j) 0 q)

-- edits whose tests agree are the same
pub edit_ext : (hit hat : ℕ → Bool) (new : ℕ → ℕ) (cells : List ℕ) → ((i : ℕ) → i < length cells → hit i ≡ hat i) → edit hit new cells ≡ edit hat new cells
unfolding edit
edit_ext hit hat new cells h = build_ext (length cells) _ _ (λ i p. ap (λ b. pick b (new i) (get_or cells i 0)) (h i p))

overlay_hit : (first count : ℕ) (new : ℕ → ℕ) (l : List ℕ) (i : ℕ) → i < length l → in_range first count i ≡ true → get_or (overlay first count new l) i 0 ≡ new i
unfolding overlay
overlay_hit first count new l i h e = get_or_build (length l) _ i h ∙ pick_true (in_range first count i) (new i) (get_or l i 0) e

-- a range set to one word after an edit to the same word is one edit
pub edit_then : (hit : ℕ → Bool) (w first count : ℕ) (cells : List ℕ) → overlay first count (λ i. w) (edit hit (λ i. w) cells) ≡ edit (λ i. hit i || in_range first count i) (λ i. w) cells
edit_then hit w first count cells =
    same_entries (overlay first count (λ i. w) (edit hit (λ i. w) cells)) (edit (λ i. hit i || in_range first count i) (λ i. w) cells)
    (length_overlay first count (λ i. w) (edit hit (λ i. w) cells) ∙ (length_edit hit (λ i. w) cells ∙ sym (length_edit (λ i. hit i || in_range first count i) (λ i. w) cells)))
    (λ i p. at_each i (rw (length_overlay, length_edit) at p) (in_range first count i) refl (hit i) refl)
  where
    overlaid : (i : ℕ) → i < length cells → in_range first count i ≡ true → get_or (overlay first count (λ i. w) (edit hit (λ i. w) cells)) i 0 ≡ w
    overlaid i p e = overlay_hit first count (λ i. w) (edit hit (λ i. w) cells) i (rw length_edit p) e

    or_true : (b : Bool) → (b || true) ≡ true
    or_true true = refl
    or_true false = refl

    at_each : (i : ℕ) → i < length cells → (r : Bool) → in_range first count i ≡ r → (h : Bool) → hit i ≡ h
        → get_or (overlay first count (λ i. w) (edit hit (λ i. w) cells)) i 0 ≡ get_or (edit (λ i. hit i || in_range first count i) (λ i. w) cells) i 0
    at_each i p true e h f =
        overlaid i p e ∙ sym (edit_hit (λ i. hit i || in_range first count i) (λ i. w) cells i p (rw e (or_true (hit i))))
    at_each i p false e true f =
        overlay_outside first count (λ i. w) (edit hit (λ i. w) cells) i e
        ∙ (edit_hit hit (λ i. w) cells i p f ∙ sym (edit_hit (λ i. hit i || in_range first count i) (λ i. w) cells i p (rw f)))
    at_each i p false e false f =
        overlay_outside first count (λ i. w) (edit hit (λ i. w) cells) i e
        ∙ (edit_kept hit (λ i. w) cells i f ∙ sym (edit_kept (λ i. hit i || in_range first count i) (λ i. w) cells i (rw (f, e))))

-- ---- rows

-- i is in row q of length r
module _ (r i q : ℕ) (positive : 0 < r) where
  pub row_at : q * r ≤ i → i < q * r + r → i / r ≡ q
  row_at p h =
      let k : i ≡ q * r + (i - q * r) = omega arith in
      ap (λ n. n / r) k ∙ digits_div q (omega arith)

  pub row_low : i / r ≡ q → q * r ≤ i
  row_low e =
      let whole : i / r * r + i % r ≡ i = div-add-mod' i r in
      let same : i / r * r ≡ q * r = ap (λ n. n * r) e in
      omega arith

  pub row_high : i / r ≡ q → i < q * r + r
  row_high e =
      let whole : i / r * r + i % r ≡ i = div-add-mod' i r in
      let same : i / r * r ≡ q * r = ap (λ n. n * r) e in
      let rest : i % r < r = mod-lt i positive in
      omega arith

  pub row_test : eqb (i / r) q ≡ in_range (q * r) r i
  row_test = by (ℕ_discrete (i / r) q) (dec_lt i (q * r))
    where
      by : Dec (i / r ≡ q) → Dec (i < q * r) → eqb (i / r) q ≡ in_range (q * r) r i
      by (yes e) d = eq-eqb (i / r) q e ∙ sym (in_range_lem (q * r) r i (row_low e) (row_high e))
      by (no n) (yes h) = ne_eqb (i / r) q n ∙ sym (below_range (q * r) r i h)
      by (no n) (no h) = ne_eqb (i / r) q n ∙ sym (above_range (q * r) r i (past (dec_lt i (q * r + r))))
        where
          past : Dec (i < q * r + r) → q * r + r ≤ i
          past (yes k) = absurd (n (row_at (omega arith) k))
          past (no k) = omega arith
