-- Which cells an order hits, as ranges, for any chip: one rule for each kind of place.
use Rattle.std.specs.Prelude.{ℕ, ◌+◌, ◌-◌, ◌*◌, ◌/◌, ◌%◌, ◌≤◌, ◌<◌, ◌≡◌, refl, Bool, true, false, ◌&&◌, ◌||◌, List, ltb, leb}
use Rattle.std.proofs.Common.{mod-lt, div-lt_iff_lt-mul, mul-le-mul_right, add-mul, one-mul, mul_assoc, arith, sym, ap, ◌∙◌}
use Rattle.std.proofs.Math.Decide.{dec_lt, dec_le}
use Rattle.std.proofs.Math.Dec.{eqb}
use borrow.Author.Tests.{lt-ltb, le-ltb, le-leb, lt-leb}
use Rattle.words.specs.Lists.{in_range}
use Rattle.words.specs.LawsLists.{in_range_lem, below_range, above_range}
use Rattle.target.specs.Chip.{Chip}
use Rattle.target.specs.Effects.{locked, in_program, id_cell, config_cell, at_erase, row_erased, bulk_erased, begin_written}
use Rattle.target.specs.LawsChip.{SoundChip}
use Rattle.target.specs.LawsEdit.{row_test}

-- ---- the kinds of place

module _ (chip : Chip) (a : ℕ) where
  pub in_program_lem : a < chip.words → in_program chip a ≡ true
  unfolding in_program
  in_program_lem h = lt-ltb a chip.words h

  pub not_program : chip.words ≤ a → in_program chip a ≡ false
  unfolding in_program
  not_program h = le-ltb a chip.words h

  pub at_erase_lem : chip.base ≤ a → a < chip.base + chip.reading_tail → at_erase chip a ≡ true
  unfolding at_erase
  at_erase_lem p q = in_range_lem chip.base chip.reading_tail a p q

  pub below_erase : a < chip.base → at_erase chip a ≡ false
  unfolding at_erase
  below_erase p = below_range chip.base chip.reading_tail a p

  pub above_erase : chip.base + chip.reading_tail ≤ a → at_erase chip a ≡ false
  unfolding at_erase
  above_erase p = above_range chip.base chip.reading_tail a p

  program_range : in_program chip a ≡ in_range 0 chip.words a
  program_range = by (dec_lt a chip.words)
    where
      by : Dec (a < chip.words) → in_program chip a ≡ in_range 0 chip.words a
      by (yes h) = in_program_lem h ∙ sym (in_range_lem 0 chip.words a (omega arith) (omega arith))
      by (no h) = not_program (omega arith) ∙ sym (above_range 0 chip.words a (omega arith))

-- a range of configuration space's words, as a range of cells
from_words : (words first count i : ℕ) → (leb words i && in_range first count (i - words)) ≡ in_range (words + first) count i
from_words words first count i = by (dec_le words i) (dec_lt (i - words) first) (dec_lt (i - words) (first + count))
  where
    by : Dec (words ≤ i) → Dec (i - words < first) → Dec (i - words < first + count) → (leb words i && in_range first count (i - words)) ≡ in_range (words + first) count i
    by (no n) q r = rw (lt-leb words i (omega arith), below_range (words + first) count i (omega arith))
    by (yes p) (yes q) r = rw (le-leb words i p, below_range first count (i - words) q, below_range (words + first) count i (omega arith))
    by (yes p) (no q) (yes r) =
        rw (le-leb words i p, in_range_lem first count (i - words) (omega arith) r, in_range_lem (words + first) count i (omega arith) (omega arith))
    by (yes p) (no q) (no r) =
        rw (le-leb words i p, above_range first count (i - words) (omega arith), above_range (words + first) count i (omega arith))

config_range : (chip : Chip) (first count : ℕ) → ((k : ℕ) → chip.is_config k ≡ in_range first count k) → (i : ℕ) → config_cell chip i ≡ in_range (chip.words + first) count i
unfolding config_cell
config_range chip first count e i = ap (λ b. leb chip.words i && b) (e (i - chip.words)) ∙ from_words chip.words first count i

-- ---- rows, and latch sets: whole ones make up the program words

module _ (words row : ℕ) (positive : 0 < row) (count : ℕ) (whole : count * row ≡ words) (a : ℕ) (h : a < words) where
  within : a / row * row + row ≤ words
  within =
      let q : a / row < count = (div-lt_iff_lt-mul positive).1 (rw whole h) in
      let e : (a / row + 1) * row ≤ count * row = mul-le-mul_right row (omega arith) in
      let sum : (a / row + 1) * row ≡ a / row * row + row = add-mul (a / row) 1 row ∙ ap (λ n. a / row * row + n) (one-mul row) in
      omega arith

  own_row : (i : ℕ) → (ltb i words && eqb (i / row) (a / row)) ≡ in_range (a / row * row) row i
  own_row i = by (dec_lt i words)
    where
      by : Dec (i < words) → (ltb i words && eqb (i / row) (a / row)) ≡ in_range (a / row * row) row i
      by (yes p) = rw (lt-ltb i words p) (row_test row i (a / row) positive)
      by (no p) = rw (le-ltb i words (omega arith), above_range (a / row * row) row i (omega (arith, within)))

module _ (chip : Chip) (s : SoundChip chip) (a : ℕ) where
  whole_sets : chip.words / chip.row * chip.sets * chip.group ≡ chip.words
  whole_sets = mul_assoc (chip.words / chip.row) chip.sets chip.group ∙ (ap (λ n. chip.words / chip.row * n) (sym s.split) ∙ s.whole)

  pub row_within : a < chip.words → a / chip.row * chip.row + chip.row ≤ chip.words
  row_within h = within chip.words chip.row s.some_row (chip.words / chip.row) s.whole a h

  pub set_within : a < chip.words → a / chip.group * chip.group + chip.group ≤ chip.words
  set_within h = within chip.words chip.group s.some_latch (chip.words / chip.row * chip.sets) whole_sets a h

  row_range : a < chip.words → (i : ℕ) → (in_program chip i && eqb (i / chip.row) (a / chip.row)) ≡ in_range (a / chip.row * chip.row) chip.row i
  unfolding in_program
  row_range h i = own_row chip.words chip.row s.some_row (chip.words / chip.row) s.whole a h i

  set_range : a < chip.words → (i : ℕ) → (in_program chip i && eqb (i / chip.group) (a / chip.group)) ≡ in_range (a / chip.group * chip.group) chip.group i
  unfolding in_program
  set_range h i = own_row chip.words chip.group s.some_latch (chip.words / chip.row * chip.sets) whole_sets a h i

-- each address has a latch
pub latch_within : (chip : Chip) → SoundChip chip → (a : ℕ) → a % chip.group < chip.places
latch_within chip s a = let m : a % chip.group < chip.group = mod-lt a s.some_latch in let p : chip.group ≤ chip.places = s.carried in omega arith

-- ---- Row Erase

or_false : (b : Bool) → (b || false) ≡ b
or_false true = refl
or_false false = refl

module _ (chip : Chip) (s : SoundChip chip) (a : ℕ) (cells : List ℕ) (i : ℕ) where
  pub row_erased_program : a < chip.words → locked chip cells ≡ false → row_erased chip a cells i ≡ in_range (a / chip.row * chip.row) chip.row i
  unfolding row_erased
  row_erased_program h p =
      rw (in_program_lem chip a h, p, below_erase chip a (omega (arith, s.below)))
      (or_false (in_program chip i && eqb (i / chip.row) (a / chip.row)) ∙ row_range chip s a h i)

  pub row_erased_locked : a < chip.words → locked chip cells ≡ true → row_erased chip a cells i ≡ false
  unfolding row_erased
  row_erased_locked h p = rw (in_program_lem chip a h, p, below_erase chip a (omega (arith, s.below)))

  pub row_erased_nowhere : chip.words ≤ a → at_erase chip a ≡ false → row_erased chip a cells i ≡ false
  unfolding row_erased
  row_erased_nowhere h e = rw (not_program chip a h, e)

  pub row_erased_ids : chip.row_erases_ids ≡ true → at_erase chip a ≡ true → chip.words ≤ a → row_erased chip a cells i ≡ in_range chip.words chip.ids i
  unfolding row_erased id_cell
  row_erased_ids t e h = rw (not_program chip a h, e, t)

-- ---- Bulk Erase, where the configuration words are a range

module _ (chip : Chip) (first count : ℕ) (configs : (k : ℕ) → chip.is_config k ≡ in_range first count k) (a i : ℕ) where
  pub bulk_erased_ids : at_erase chip a ≡ true → bulk_erased chip a i ≡ (in_range 0 chip.words i || in_range (chip.words + first) count i || in_range chip.words chip.ids i)
  unfolding bulk_erased id_cell
  bulk_erased_ids e = rw (e, config_range chip first count configs i, program_range chip i)

  pub bulk_erased_words : at_erase chip a ≡ false → bulk_erased chip a i ≡ (in_range 0 chip.words i || in_range (chip.words + first) count i)
  unfolding bulk_erased
  bulk_erased_words e =
      rw (e, config_range chip first count configs i, program_range chip i) (or_false (in_range 0 chip.words i || in_range (chip.words + first) count i))

-- ---- Begin

module _ (chip : Chip) (s : SoundChip chip) (a : ℕ) (cells : List ℕ) (i : ℕ) where
  pub begin_written_program : a < chip.words → locked chip cells ≡ false → begin_written chip a cells i ≡ in_range (a / chip.group * chip.group) chip.group i
  unfolding begin_written
  begin_written_program h p =
      rw (in_program_lem chip a h, p, lt-leb chip.base a (omega (arith, s.below)))
      (or_false (in_program chip i && eqb (i / chip.group) (a / chip.group)) ∙ set_range chip s a h i)

  pub begin_written_locked : a < chip.words → locked chip cells ≡ true → begin_written chip a cells i ≡ false
  unfolding begin_written
  begin_written_locked h p = rw (in_program_lem chip a h, p, lt-leb chip.base a (omega (arith, s.below)))

  pub begin_written_between : chip.words ≤ a → a < chip.base → begin_written chip a cells i ≡ false
  unfolding begin_written
  begin_written_between h low = rw (not_program chip a h, lt-leb chip.base a low)

  pub begin_written_not : chip.base ≤ a → chip.is_writable (chip.cell a - chip.words) ≡ false → begin_written chip a cells i ≡ false
  unfolding begin_written
  begin_written_not h f = rw (not_program chip a (omega (arith, s.below)), le-leb chip.base a h, f)

  pub begin_written_one : chip.base ≤ a → chip.is_writable (chip.cell a - chip.words) ≡ true → begin_written chip a cells i ≡ eqb i (chip.cell a)
  unfolding begin_written
  begin_written_one h t = rw (not_program chip a (omega (arith, s.below)), le-leb chip.base a h, t)
