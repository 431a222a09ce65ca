-- Laws of lists given entry by entry.
use Rattle.std.specs.Prelude.{ℕ, zero, suc, ◌+◌, ◌≤◌, ◌<◌, ◌≡◌, refl, Bool, true, false, List, [], ◌∷◌, ◌++◌, ltb, leb, get_or, set}
use native.Mathlib.Nat.{not-suc-le-zero, le_of_suc-le-suc, add-suc, suc-add, eq-or-lt_of_le}
use Rattle.std.proofs.Common.{add-one, ap, ◌∙◌, ⊎_elim, lt-ltb, le-ltb, le-leb, length-set, ext_get_or, get_or-set_same, get_or-set_other}
use native.Mathlib.Omega.{arith}
use Rattle.std.proofs.Math.Decide.{dec_lt, ℕ_discrete}
use Rattle.std.proofs.Math.Path.{sym}
use Rattle.std.proofs.lemmas.Bool.{lt-leb}
use Rattle.std.proofs.Math.ListN.{length, get_or-eq_default}
use Rattle.std.proofs.Math.Seq.{set_out}
use Rattle.std.proofs.lemmas.List.Edits.{sets}
use Rattle.words.specs.Choice.{pick}
use Rattle.words.specs.Lists.{build, in_range, overlay, every}
use Rattle.words.specs.LawsChoice.{pick_true, pick_false, both, first_fails, second_fails, first_holds, second_holds}

-- ---- build

pub length_build : (n : ℕ) (f : ℕ → ℕ) → length (build n f) ≡ n
unfolding build
length_build zero f = refl
length_build (suc n) f = ap suc (length_build n (λ i. f (suc i)))

pub get_or_build : (n : ℕ) (f : ℕ → ℕ) (i : ℕ) → i < n → get_or (build n f) i 0 ≡ f i
unfolding build
get_or_build zero f i h = absurd (not-suc-le-zero h)
get_or_build (suc n) f zero h = refl
get_or_build (suc n) f (suc i) h = get_or_build n (λ k. f (suc k)) i (le_of_suc-le-suc h)

-- past its end a list reads 0
pub get_d_past : (l : List ℕ) (i : ℕ) → length l ≤ i → get_or l i 0 ≡ 0
get_d_past l i h = get_or-eq_default l 0 h

-- two lists of one length are equal if their entries are
pub same_entries : (l m : List ℕ) → length l ≡ length m → ((i : ℕ) → i < length l → get_or l i 0 ≡ get_or m i 0) → l ≡ m
same_entries l m e h = ext_get_or 0 l m e h

-- a list that agrees with f at each entry is the list built from f
pub built : (l : List ℕ) (n : ℕ) (f : ℕ → ℕ) → length l ≡ n → ((i : ℕ) → i < n → get_or l i 0 ≡ f i) → l ≡ build n f
built l n f e h =
    same_entries l (build n f) (e ∙ sym (length_build n f))
    (λ i p. let q : i < n = rw e at p in h i q ∙ sym (get_or_build n f i q))

pub build_ext : (n : ℕ) (f g : ℕ → ℕ) → ((i : ℕ) → i < n → f i ≡ g i) → build n f ≡ build n g
build_ext n f g h = built (build n f) n g (length_build n f) (λ i p. get_or_build n f i p ∙ h i p)

-- one entry changed
pub build_set : (n : ℕ) (f g : ℕ → ℕ) (j v : ℕ) → v ≡ g j → ((i : ℕ) → (i ≡ j → ⊥) → f i ≡ g i) → set (build n f) j v ≡ build n g
build_set n f g j v e h = built (set (build n f) j v) n g (length-set (build n f) j v ∙ length_build n f) (λ i p. at_each i p (ℕ_discrete i j))
  where
    here : (i : ℕ) → i < n → i ≡ j → j < length (build n f)
    here i p q = rw (length_build n f, ← q) p

    at_each : (i : ℕ) → i < n → Dec (i ≡ j) → get_or (set (build n f) j v) i 0 ≡ g i
    at_each i p (yes q) = ap (λ k. get_or (set (build n f) j v) k 0) q ∙ (get_or-set_same (build n f) j v 0 (here i p q) ∙ (e ∙ ap g (sym q)))
    at_each i p (no q) = get_or-set_other (build n f) j i v 0 q ∙ (get_or_build n f i p ∙ h i q)

-- ---- a range changed

module _ (first count i : ℕ) where
  pub in_range_lem : first ≤ i → i < first + count → in_range first count i ≡ true
  unfolding in_range
  in_range_lem p q = both (leb first i) (ltb i (first + count)) (le-leb first i p) (lt-ltb i (first + count) q)

  pub below_range : i < first → in_range first count i ≡ false
  unfolding in_range
  below_range p = first_fails (leb first i) (ltb i (first + count)) (lt-leb first i p)

  pub above_range : first + count ≤ i → in_range first count i ≡ false
  unfolding in_range
  above_range p = second_fails (leb first i) (ltb i (first + count)) (le-ltb i (first + count) p)

pub length_overlay : (first count : ℕ) (f : ℕ → ℕ) (l : List ℕ) → length (overlay first count f l) ≡ length l
unfolding overlay
length_overlay first count f l = length_build (length l) _

module _ (first count : ℕ) (f : ℕ → ℕ) (l : List ℕ) (i : ℕ) where
  pub overlay_inside : i < length l → first ≤ i → i < first + count → get_or (overlay first count f l) i 0 ≡ f i
  unfolding overlay
  overlay_inside h p q = get_or_build (length l) _ i h ∙ pick_true (in_range first count i) (f i) (get_or l i 0) (in_range_lem first count i p q)

  kept : in_range first count i ≡ false → Dec (i < length l) → get_or (overlay first count f l) i 0 ≡ get_or l i 0
  unfolding overlay
  kept e (yes h) = get_or_build (length l) _ i h ∙ pick_false (in_range first count i) (f i) (get_or l i 0) e
  kept e (no h) =
      let long : length l ≤ i = omega arith in
      get_d_past (overlay first count f l) i (rw length_overlay long) ∙ sym (get_d_past l i long)

  pub overlay_outside : in_range first count i ≡ false → get_or (overlay first count f l) i 0 ≡ get_or l i 0
  overlay_outside e = kept e (dec_lt i (length l))

  pub overlay_below : i < first → get_or (overlay first count f l) i 0 ≡ get_or l i 0
  overlay_below p = overlay_outside (below_range first count i p)

  pub overlay_above : first + count ≤ i → get_or (overlay first count f l) i 0 ≡ get_or l i 0
  overlay_above p = overlay_outside (above_range first count i p)

-- only what is put into the range has a say
pub overlay_same : (first count : ℕ) (f g : ℕ → ℕ) (l : List ℕ) → ((i : ℕ) → first ≤ i → i < first + count → f i ≡ g i) → overlay first count f l ≡ overlay first count g l
overlay_same first count f g l same =
    same_entries (overlay first count f l) (overlay first count g l) (length_overlay first count f l ∙ sym (length_overlay first count g l))
    (λ i h. at_each i (rw length_overlay at h) (dec_lt i first) (dec_lt i (first + count)))
  where
    at_each : (i : ℕ) → i < length l → Dec (i < first) → Dec (i < first + count) → get_or (overlay first count f l) i 0 ≡ get_or (overlay first count g l) i 0
    at_each i h (yes p) q = overlay_below first count f l i p ∙ sym (overlay_below first count g l i p)
    at_each i h (no p) (yes q) = overlay_inside first count f l i h (omega arith) q ∙ (same i (omega arith) q ∙ sym (overlay_inside first count g l i h (omega arith) q))
    at_each i h (no p) (no q) = overlay_above first count f l i (omega arith) ∙ sym (overlay_above first count g l i (omega arith))

-- no entry replaced
pub overlay_none : (first : ℕ) (f : ℕ → ℕ) (l : List ℕ) → overlay first 0 f l ≡ l
overlay_none first f l = same_entries (overlay first 0 f l) l (length_overlay first 0 f l) (λ i h. at_each i (dec_lt i first))
  where
    at_each : (i : ℕ) → Dec (i < first) → get_or (overlay first 0 f l) i 0 ≡ get_or l i 0
    at_each i (yes p) = overlay_below first 0 f l i p
    at_each i (no p) = overlay_above first 0 f l i (omega arith)

-- two ranges that agree at i
pub range_more : (first count i : ℕ) → (i ≡ first + count → ⊥) → in_range first (count + 1) i ≡ in_range first count i
range_more first count i ne = by (dec_lt i first) (dec_lt i (first + count))
  where
    by : Dec (i < first) → Dec (i < first + count) → in_range first (count + 1) i ≡ in_range first count i
    by (yes p) r = below_range first (count + 1) i p ∙ sym (below_range first count i p)
    by (no p) (yes r) = in_range_lem first (count + 1) i (omega arith) (omega arith) ∙ sym (in_range_lem first count i (omega arith) r)
    by (no p) (no r) =
        let far : first + count < i = ⊎_elim (λ q. absurd (ne (sym q))) (λ q. q) (eq-or-lt_of_le (omega arith)) in
        above_range first (count + 1) i (omega arith) ∙ sym (above_range first count i (omega arith))

-- one turn of a loop that replaces a range from its first entry on
pub overlay_more : (first count : ℕ) (f : ℕ → ℕ) (l m : List ℕ) (v : ℕ) → m ≡ overlay first count f l → v ≡ f (first + count) → set m (first + count) v ≡ overlay first (count + 1) f l
unfolding overlay
overlay_more first count f l m v e w =
    ap (λ x. set x (first + count) v) e
    ∙ build_set (length l) (λ i. pick (in_range first count i) (f i) (get_or l i 0)) (λ i. pick (in_range first (count + 1) i) (f i) (get_or l i 0)) (first + count) v
    (w ∙ sym (pick_true (in_range first (count + 1) (first + count)) _ _ (in_range_lem first (count + 1) (first + count) (omega arith) (omega arith))))
    (λ i ne. rw (range_more first count i ne))

-- ---- every entry

pub every_none : (f : ℕ → Bool) → every 0 f ≡ true
unfolding every
every_none f = refl

pub every_more : (n : ℕ) (f : ℕ → Bool) → every n f ≡ true → f n ≡ true → every (n + 1) f ≡ true
unfolding every
every_more n f p q = rw add-one (both (every n f) (f n) p q)

-- one that fails is enough
pub every_no : (n : ℕ) (f : ℕ → Bool) (i : ℕ) → i < n → f i ≡ false → every n f ≡ false
unfolding every
every_no zero f i h e = absurd (not-suc-le-zero h)
every_no (suc n) f i h e = ⊎_elim
    (λ q. second_fails (every n f) (f n) (rw (← q) e))
    (λ p. first_fails (every n f) (f n) (every_no n f i p e))
    (eq-or-lt_of_le (le_of_suc-le-suc h))

pub every_at : (n : ℕ) (f : ℕ → Bool) → every n f ≡ true → (i : ℕ) → i < n → f i ≡ true
unfolding every
every_at zero f e i h = absurd (not-suc-le-zero h)
every_at (suc n) f e i h = ⊎_elim
    (λ q. rw q (second_holds (every n f) (f n) e))
    (λ p. every_at n f (first_holds (every n f) (f n) e) i p)
    (eq-or-lt_of_le (le_of_suc-le-suc h))

pub every_all : (n : ℕ) (f : ℕ → Bool) → ((i : ℕ) → i < n → f i ≡ true) → every n f ≡ true
unfolding every
every_all zero f h = refl
every_all (suc n) f h = both (every n f) (f n) (every_all n f (λ i p. h i (omega arith))) (h n (omega arith))

-- ---- values stored from a place on

-- nothing is stored past the end
pub sets_past : (l : List ℕ) (at : ℕ) (vs : List ℕ) → length l ≤ at → sets l at vs ≡ l
sets_past l at [] h = refl
sets_past l at (v ∷ vs) h = rw (set_out l at v h) (sets_past l (suc at) vs (omega arith))

-- one text stored after another is the joined text stored
pub sets_append : (l : List ℕ) (at : ℕ) (vs ws : List ℕ) → sets (sets l at vs) (at + length vs) ws ≡ sets l at (vs ++ ws)
sets_append l at [] ws = rw native.Mathlib.Nat.add-zero
sets_append l at (v ∷ vs) ws = rw (add-suc, ← suc-add) (sets_append (set l at v) (suc at) vs ws)
