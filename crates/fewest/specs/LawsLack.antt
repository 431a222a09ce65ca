-- The program rows, and the user IDs as one more, in which a wanted bit is missing: their number does not fall where no bit is set, and by one at most where bits are set in one of them.
use Rattle.std.specs.Prelude.{ℕ, ◌+◌, ◌*◌, ◌/◌, ◌≤◌, ◌<◌, ◌≡◌, true, false}
use native.Mathlib.Omega.{arith}
use Rattle.std.proofs.Common.{sym, ◌∙◌, eq-eqb}
use Rattle.std.proofs.Math.Arith.{digits_div}
use Rattle.std.specs.Int.Bits.{bit_and}
use Rattle.words.specs.Choice.{pick}
use Rattle.words.specs.LawsChoice.{pick_false, true_not_false}
use Rattle.words.specs.LawsTests.{by_test}
use Rattle.words.specs.LawsWord.{Contains}
use Rattle.judge.specs.Count.{count_to}
use Rattle.judge.specs.LawsCount.{count_none}
use Rattle.target.specs.Chip.{Chip}
use Rattle.target.specs.LawsChip.{SoundChip}
use Rattle.aim.specs.Wanted.{only_clears, rises, row_rises, id_rises}
use Rattle.aim.specs.LawsSome.{some_nowhere, some_weaken}
use Rattle.aim.specs.LawsRises.{not_rises}
use Rattle.plan.specs.LawsPlanSteps.{row_inside}
use Rattle.fewest.specs.LawsClears.{contains_through}
use Rattle.fewest.specs.LawsCounts.{one_most, one_mono, count_mono, count_but_one}

-- how many program rows, and the user IDs as one more, have a 0 where a 1 is wanted
unfoldable pub lacking : Chip → (word old : ℕ → ℕ) → ℕ
lacking chip word old = count_to (chip.words / chip.row) (row_rises chip word old) + pick (id_rises chip word old) 1 0

-- ---- one word

-- a word that has every wanted bit
rises_fails : (word old : ℕ → ℕ) (i : ℕ) → Contains (old i) (word i) → rises word old i ≡ false
unfolding rises only_clears Contains
rises_fails word old i c = rw (eq-eqb (bit_and (old i) (word i)) (word i) c)

-- a wanted bit that is missing is still missing if no bit was set
rises_still : (word old new : ℕ → ℕ) (i : ℕ) → Contains (old i) (new i) → rises word old i ≡ true → rises word new i ≡ true
rises_still word old new i c e =
    by_test (rises word new i) (λ h. h)
    (λ h. absurd (true_not_false e (rises_fails word old i (contains_through (old i) (new i) (word i) c (not_rises word new i h)))))

-- ---- rows, and the user IDs

module _ (chip : Chip) (sound : SoundChip chip) where
  -- word j of row k is a program word of that row
  row_word : (k j : ℕ) → k < chip.words / chip.row → j < chip.row → k * chip.row + j < chip.words
  row_word k j p q =
      let whole : chip.words / chip.row * chip.row ≡ chip.words = sound.whole in
      let inside : k * chip.row + chip.row ≤ chip.words = row_inside (chip.words / chip.row) chip.row k chip.words p (omega arith) in
      omega arith

  module _ (word old new : ℕ → ℕ) where
    -- no bit was set in the row
    row_still : (k : ℕ) → k < chip.words / chip.row → ((i : ℕ) → i < chip.words → i / chip.row ≡ k → Contains (old i) (new i))
        → row_rises chip word old k ≡ true → row_rises chip word new k ≡ true
    unfolding row_rises
    row_still k p h =
        some_weaken chip.row (λ j. rises word old (k * chip.row + j)) (λ j. rises word new (k * chip.row + j))
        (λ j q. rises_still word old new (k * chip.row + j) (h (k * chip.row + j) (row_word k j p q) (digits_div k q)))

    -- no bit was set in a user ID
    ids_still : ((i : ℕ) → chip.words ≤ i → i < chip.words + chip.ids → Contains (old i) (new i)) → id_rises chip word old ≡ true → id_rises chip word new ≡ true
    unfolding id_rises
    ids_still h =
        some_weaken chip.ids (λ j. rises word old (chip.words + j)) (λ j. rises word new (chip.words + j))
        (λ j q. rises_still word old new (chip.words + j) (h (chip.words + j) (omega arith) (omega arith)))

    -- ---- the count

    -- no bit was set
    pub lacking_still : ((i : ℕ) → i < chip.words + chip.ids → Contains (old i) (new i)) → lacking chip word old ≤ lacking chip word new
    unfolding lacking
    lacking_still h =
        let rows : count_to (chip.words / chip.row) (row_rises chip word old) ≤ count_to (chip.words / chip.row) (row_rises chip word new)
        = count_mono (row_rises chip word old) (row_rises chip word new) (chip.words / chip.row) (λ k p. row_still k p (λ i q e. h i (omega arith))) in
        let own : pick (id_rises chip word old) 1 0 ≤ pick (id_rises chip word new) 1 0
        = one_mono (id_rises chip word old) (id_rises chip word new) (ids_still (λ i q. h i)) in
        omega arith

    -- bits were set in one row alone
    pub lacking_row : (k : ℕ) → ((i : ℕ) → (i < chip.words → i / chip.row ≡ k → ⊥) → Contains (old i) (new i)) → lacking chip word old ≤ lacking chip word new + 1
    unfolding lacking
    lacking_row k h =
        let rows : count_to (chip.words / chip.row) (row_rises chip word old) ≤ count_to (chip.words / chip.row) (row_rises chip word new) + 1
        = count_but_one (row_rises chip word old) (row_rises chip word new) k (chip.words / chip.row)
        (λ m p n. row_still m p (λ i q e. h i (λ x f. n (sym e ∙ f)))) in
        let own : pick (id_rises chip word old) 1 0 ≤ pick (id_rises chip word new) 1 0
        = one_mono (id_rises chip word old) (id_rises chip word new) (ids_still (λ i p q. h i (λ x f. omega arith))) in
        omega arith

    -- bits were set in the user IDs alone
    pub lacking_ids : ((i : ℕ) → i < chip.words → Contains (old i) (new i)) → lacking chip word old ≤ lacking chip word new + 1
    unfolding lacking
    lacking_ids h =
        let rows : count_to (chip.words / chip.row) (row_rises chip word old) ≤ count_to (chip.words / chip.row) (row_rises chip word new)
        = count_mono (row_rises chip word old) (row_rises chip word new) (chip.words / chip.row) (λ k p. row_still k p (λ i q e. h i q)) in
        let own : pick (id_rises chip word old) 1 0 ≤ 1 = one_most (id_rises chip word old) in
        omega arith

  -- every wanted bit is there
  module _ (word old : ℕ → ℕ) (h : (i : ℕ) → i < chip.words + chip.ids → Contains (old i) (word i)) where
    no_row : (k : ℕ) → k < chip.words / chip.row → row_rises chip word old k ≡ false
    unfolding row_rises
    no_row k p =
        some_nowhere chip.row (λ j. rises word old (k * chip.row + j))
        (λ j q. let low : k * chip.row + j < chip.words = row_word k j p q in rises_fails word old (k * chip.row + j) (h (k * chip.row + j) (omega arith)))

    no_id : id_rises chip word old ≡ false
    unfolding id_rises
    no_id = some_nowhere chip.ids (λ j. rises word old (chip.words + j)) (λ j q. rises_fails word old (chip.words + j) (h (chip.words + j) (omega arith)))

    pub lacking_none : lacking chip word old ≡ 0
    unfolding lacking
    lacking_none =
        let rows : count_to (chip.words / chip.row) (row_rises chip word old) ≡ 0 = count_none (chip.words / chip.row) (row_rises chip word old) no_row in
        let own : pick {A = ℕ} (id_rises chip word old) 1 0 ≡ 0 = pick_false (id_rises chip word old) 1 0 no_id in
        omega arith
