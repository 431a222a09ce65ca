-- Laws of known and wanted words, and of where they differ on any chip.
use Rattle.std.specs.Prelude.{ℕ, zero, suc, ◌+◌, ◌*◌, ◌/◌, ◌%◌, ◌≤◌, ◌<◌, ◌≡◌, refl, Bool, true, false, ◌&&◌, ◌||◌, ◌⊎◌, List, [], ◌∷◌, ltb, eqb, length, get_or}
use Rattle.std.proofs.Common.{div-add-mod', mod-lt, not-suc-le-zero, le_of_suc-le-suc, arith, sym, ap, ◌∙◌}
use Rattle.std.proofs.Math.Logic.{inl, inr, ⊎_elim}
use Rattle.std.proofs.Math.ListN.{get_or-eq_default}
use borrow.Author.Tests.{eqb-true, eq-eqb, ne_eqb, lt-ltb, ltb-true}
use Rattle.words.specs.Word.{erased, not_given, bit, under_mask}
use Rattle.words.specs.LawsWord.{Contains}
use Rattle.words.specs.LawsMask.{under_outside, under_lt, Reaches, reaches_same, reaches_cleared}
use Rattle.words.specs.LawsChoice.{pick_true, pick_false, both, first_holds, true_not_false}
use Rattle.device.specs.declared.Device.{Device}
use Rattle.device.specs.Memory.{reading_tail, cp_word, image_ok, mask_at}
use Rattle.device.specs.LawsMask.{under_plain}
use Rattle.device.specs.LawsMemory.{image_long, image_each, entry_word}
use Rattle.target.specs.Chip.{Chip}
use Rattle.words.specs.LawsTests.{by_lt, by_eq, fails, not_fails, or_cases, or_left, or_right}
use Rattle.aim.specs.Wanted.{known, wanted, differs, row_differs, config_writes}
use Rattle.aim.specs.LawsSome.{some_none}

-- ---- a list read past its end

-- within a list the default has no say
pub same_default : (l : List ℕ) (i a b : ℕ) → i < length l → get_or l i a ≡ get_or l i b
same_default [] i a b h = absurd (not-suc-le-zero h)
same_default (x ∷ l) zero a b h = refl
same_default (x ∷ l) (suc i) a b h = same_default l i a b (le_of_suc-le-suc h)

module _ (reading : List ℕ) (i : ℕ) where
  pub known_inside : i < length reading → known reading i ≡ get_or reading i 0
  unfolding known
  known_inside h = same_default reading i erased 0 h

  pub known_past : length reading ≤ i → known reading i ≡ erased
  unfolding known
  known_past h = get_or-eq_default reading erased h

-- ---- the two kinds of wanted word

module _ (d : Device) (image reading : List ℕ) (i : ℕ) where
  pub wanted_silent : get_or image i not_given ≡ not_given → wanted d image reading i ≡ known reading i
  unfolding wanted
  wanted_silent e = pick_true (eqb (get_or image i not_given) not_given) _ _ (eq-eqb _ not_given e)

  pub wanted_given : (get_or image i not_given ≡ not_given → ⊥) → wanted d image reading i ≡ under_mask (mask_at d i) (get_or image i not_given) (known reading i)
  unfolding wanted
  wanted_given e = pick_false (eqb (get_or image i not_given) not_given) _ _ (ne_eqb _ not_given e)

  -- program words and user IDs have every bit
  pub wanted_whole : i < d.words + cp_word → (get_or image i not_given ≡ not_given → ⊥) → wanted d image reading i ≡ get_or image i not_given
  wanted_whole h e = wanted_given e ∙ under_plain d i h (get_or image i not_given) (known reading i)

  -- a bit that the word does not have is the known one, given or not
  pub wanted_spare : (n : ℕ) → n < 14 → bit (mask_at d i) n ≡ 0 → bit (wanted d image reading i) n ≡ bit (known reading i) n
  wanted_spare n h z =
      by_eq (get_or image i not_given) not_given (λ e. ap (λ w. bit w n) (wanted_silent e))
      (λ e. ap (λ w. bit w n) (wanted_given e) ∙ under_outside (mask_at d i) (get_or image i not_given) (known reading i) n h z)

-- ---- every wanted word has 14 bits

pub known_fits : (reading : List ℕ) → ((i : ℕ) → get_or reading i 0 < 0x4000) → (i : ℕ) → known reading i < 0x4000
known_fits reading small i =
    by_lt i (length reading) (λ h. rw (known_inside reading i h) (small i)) (λ h. rw (known_past reading i h) (omega arith))

module _ (d : Device) (image reading : List ℕ) (sound : image_ok d.words image ≡ true) where
  given_fits : (i : ℕ) → (get_or image i not_given ≡ not_given → ⊥) → get_or image i not_given < 0x4000
  given_fits i n =
      by_lt i (length image)
      (λ h.
      let same : get_or image i not_given ≡ get_or image i 0 = same_default image i not_given 0 h in
      let long : length image ≡ d.words + reading_tail = image_long d.words image sound in
      rw same (entry_word d.words i (get_or image i 0) (image_each d.words image sound i (omega arith)) (λ q. n (same ∙ q))).0)
      (λ h. absurd (n (get_or-eq_default image not_given h)))

  pub wanted_fits : ((i : ℕ) → known reading i < 0x4000) → (i : ℕ) → wanted d image reading i < 0x4000
  wanted_fits small i =
      by_eq (get_or image i not_given) not_given (λ e. rw (wanted_silent d image reading i e) (small i))
      (λ n. rw (wanted_given d image reading i n) (under_lt (mask_at d i) (get_or image i not_given) (known reading i) (given_fits i n) (small i)))

  -- ---- a wanted word that has no bit more than the known one can be written over it

  pub wanted_reached : (i : ℕ) → known reading i < 0x4000 → Contains (known reading i) (wanted d image reading i) → Reaches (mask_at d i) (known reading i) (wanted d image reading i)
  wanted_reached i small c =
      by_eq (get_or image i not_given) not_given
      (λ e. rw (wanted_silent d image reading i e) (reaches_same (mask_at d i) (known reading i)))
      (λ n.
      rw (wanted_given d image reading i n)
      (reaches_cleared (mask_at d i) (get_or image i not_given) (known reading i) (given_fits i n) small (rw (wanted_given d image reading i n) at c)))

-- ---- where nothing differs, the wanted word is the old one

module _ (chip : Chip) (word old : ℕ → ℕ) where
  pub not_differs : (i : ℕ) → differs word old i ≡ false → word i ≡ old i
  unfolding differs
  not_differs i e = eqb-true (word i) (old i) (not_fails (eqb (word i) (old i)) e)

  -- in a row of which no word differs
  pub row_same : 0 < chip.row → (i : ℕ) → row_differs chip word old (i / chip.row) ≡ false → word i ≡ old i
  unfolding row_differs
  row_same pos i e =
      not_differs i
      (ap (differs word old) (sym (div-add-mod' i chip.row))
      ∙ some_none chip.row (λ j. differs word old (i / chip.row * chip.row + j)) e (i % chip.row) (mod-lt i pos))

  -- ---- the words of configuration space that are written

  module _ (all : Bool) (k : ℕ) where
    abbrev as_id : Bool
    as_id = ltb k chip.ids && (all || differs word old (chip.words + k))

    abbrev as_config : Bool
    as_config = chip.is_config k && differs word old (chip.words + k)

    pub writes_only : config_writes chip word old all k ≡ true → (k < chip.ids) ⊎ (chip.is_config k ≡ true)
    unfolding config_writes
    writes_only e =
        ⊎_elim (λ p. inl (ltb-true k chip.ids (first_holds (ltb k chip.ids) (all || differs word old (chip.words + k)) p)))
        (λ p. inr (first_holds (chip.is_config k) (differs word old (chip.words + k)) p)) (or_cases as_id as_config e)

    pub writes_all : all ≡ true → k < chip.ids → config_writes chip word old all k ≡ true
    unfolding config_writes
    writes_all e h = rw (lt-ltb k chip.ids h, e)

    writes_differing : differs word old (chip.words + k) ≡ true → (k < chip.ids) ⊎ (chip.is_config k ≡ true) → config_writes chip word old all k ≡ true
    unfolding config_writes
    writes_differing e h =
        ⊎_elim
        (λ p. or_left as_id as_config (rw (lt-ltb k chip.ids p) (or_right all (differs word old (chip.words + k)) e)))
        (λ p. or_right as_id as_config (both (chip.is_config k) (differs word old (chip.words + k)) p e)) h

    -- what could be written and is not has its word already
    pub unwritten_same : (k < chip.ids) ⊎ (chip.is_config k ≡ true) → config_writes chip word old all k ≡ false → word (chip.words + k) ≡ old (chip.words + k)
    unwritten_same h n = not_differs (chip.words + k) (fails (differs word old (chip.words + k)) (λ e. true_not_false (writes_differing e h) n))
