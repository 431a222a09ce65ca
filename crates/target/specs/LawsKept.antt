-- What orders leave on any chip: well-formed cells stay so, words that no write changes never change, Begin puts the latches back, Increments walk.
use Rattle.std.specs.Prelude.{ℕ, zero, suc, ◌+◌, ◌-◌, ◌*◌, ◌/◌, ◌≤◌, ◌<◌, ◌≡◌, Bool, ◌&&◌, List, leb, length, get_or, replicate}
use Rattle.std.proofs.Common.{add-zero, arith, sym, ap, subst, ◌∙◌}
use Rattle.std.proofs.Math.Decide.{dec_lt, ℕ_discrete}
use Rattle.std.proofs.Math.Path.{refl}
use Rattle.std.proofs.Math.Bool.{true, false, not}
use Rattle.std.proofs.Math.Dec.{eqb}
use borrow.Author.Tests.{lt-ltb, le-ltb, ne_eqb}
use Rattle.words.specs.Choice.{pick}
use Rattle.words.specs.Word.{erased}
use Rattle.words.specs.Lists.{in_range}
use Rattle.words.specs.Address.{successor}
use Rattle.words.specs.LawsAddress.{successor_program, successor_config}
use Rattle.words.specs.LawsChoice.{first_fails, second_fails, true_not_false}
use Rattle.words.specs.LawsLists.{get_d_past, above_range}
use Rattle.device.specs.declared.Device.{Device}
use Rattle.device.specs.Memory.{programmable}
use Rattle.device.specs.LawsRecord.{Rules}
use Rattle.target.specs.Chip.{Chip, chip_of}
use Rattle.target.specs.Effects.{edit, in_program, id_cell, config_cell, at_erase, locked, row_erased, bulk_erased, begin_written, burnt, blank}
use Rattle.target.specs.Model.{done, stops}
use Rattle.target.specs.Step.{Target, effect, place, moved}
use Rattle.target.specs.Crash.{runs}
use Rattle.target.specs.Board.{board_of}
use Rattle.target.specs.LawsChip.{SoundChip, Burning, sound_chip}
use Rattle.target.specs.LawsEdit.{length_edit, edit_hit, edit_kept}
use Rattle.target.specs.declared.Order.{Order}
use Rattle.target.specs.declared.Order.TheVariants.{LoadConfiguration, LoadData, Read, Increment, ResetAddress, Begin, BulkErase, RowErase}

-- ---- any property of the cells

-- an order leaves the cells, or makes one of three edits of them
pub record Edits (chip : Chip) (t : Target) (P : List ℕ → Type 0) : Type 0 where
  pub stay : P t.cells
  pub begin : P (edit (begin_written chip (place t) t.cells) (burnt chip (place t) t.registers.latches t.cells) t.cells)
  pub bulk : P (edit (bulk_erased chip (place t)) (λ i. erased) t.cells)
  pub row : P (edit (row_erased chip (place t) t.cells) (λ i. erased) t.cells)

either_cells : (P : List ℕ → Type 0) (b : Bool) (n : ℕ) (t u : Target) → P t.cells → P u.cells → P (pick b (done u) (stops n t)).target.cells
unfolding pick
either_cells P true n t u p q = q
either_cells P false n t u p q = p

pub any_order : (chip : Chip) (t : Target) (P : List ℕ → Type 0) → Edits chip t P → (o : Order) → P (effect chip o t).target.cells
unfolding effect
any_order chip t P e (LoadConfiguration w) = e.stay
any_order chip t P e (LoadData w) = e.stay
any_order chip t P e Read = either_cells P _ _ _ _ e.stay e.stay
any_order chip t P e Increment = e.stay
any_order chip t P e ResetAddress = e.stay
any_order chip t P e Begin = e.begin
any_order chip t P e BulkErase = either_cells P _ _ _ _ e.stay e.bulk
any_order chip t P e RowErase = e.row

-- ---- cells stay as many, and words

pub length_after : (chip : Chip) (o : Order) (t : Target) → length (effect chip o t).target.cells ≡ length t.cells
length_after chip o t =
    any_order chip t (λ c. length c ≡ length t.cells) (record { stay = refl; begin = length_edit _ _ t.cells; bulk = length_edit _ _ t.cells; row = length_edit _ _ t.cells }) o

fits_edit : (hit : ℕ → Bool) (new : ℕ → ℕ) (cells : List ℕ) → ((i : ℕ) → get_or cells i 0 < 0x4000) → ((i : ℕ) → new i < 0x4000) → (i : ℕ) → get_or (edit hit new cells) i 0 < 0x4000
fits_edit hit new cells old fresh i = by (hit i) refl (dec_lt i (length cells))
  where
    by : (b : Bool) → hit i ≡ b → Dec (i < length cells) → get_or (edit hit new cells) i 0 < 0x4000
    by true e (yes h) = rw (edit_hit hit new cells i h e) (fresh i)
    by true e (no h) = rw (get_d_past (edit hit new cells) i (rw length_edit (omega arith))) (omega arith)
    by false e h = rw (edit_kept hit new cells i e) (old i)

pub fits_after : (chip : Chip) → Burning chip → (o : Order) (t : Target) → ((i : ℕ) → get_or t.cells i 0 < 0x4000) → (i : ℕ) → get_or (effect chip o t).target.cells i 0 < 0x4000
fits_after chip b o t old i =
    any_order chip t (λ c. get_or c i 0 < 0x4000)
    (record {
      stay = old i;
      begin = fits_edit _ _ t.cells old burnt_fits i;
      bulk = fits_edit _ _ t.cells old (λ k. omega arith) i;
      row = fits_edit _ _ t.cells old (λ k. omega arith) i;
    })
    o
  where
    burnt_fits : (k : ℕ) → burnt chip (place t) t.registers.latches t.cells k < 0x4000
    burnt_fits k = unfold burnt in b.burn_fits k (get_or t.cells k 0) _ (old k)

-- ---- words that never change

middle_fails : (a b c : Bool) → b ≡ false → (a && b && c) ≡ false
middle_fails a b c e = first_fails (a && b) c (second_fails a b e)

last_fails : (a b c : Bool) → c ≡ false → (a && b && c) ≡ false
last_fails a b c e = second_fails (a && b) c e

module _ (chip : Chip) (s : SoundChip chip) (k : ℕ) (fixed : chip.is_writable k ≡ false) where
  no_program : in_program chip (chip.words + k) ≡ false
  unfolding in_program
  no_program = le-ltb (chip.words + k) chip.words (omega arith)

  back : chip.words + k - chip.words ≡ k
  back = omega arith

  no_id : id_cell chip (chip.words + k) ≡ false
  unfolding id_cell
  no_id = by (dec_lt k chip.ids)
    where
      by : Dec (k < chip.ids) → in_range chip.words chip.ids (chip.words + k) ≡ false
      by (yes h) = absurd (true_not_false (s.id_writable k h) fixed)
      by (no h) = above_range chip.words chip.ids (chip.words + k) (omega arith)

  no_config : config_cell chip (chip.words + k) ≡ false
  unfolding config_cell
  no_config = second_fails (leb chip.words (chip.words + k)) (chip.is_config (chip.words + k - chip.words)) (rw back (by (chip.is_config k) refl))
    where
      by : (b : Bool) → chip.is_config k ≡ b → chip.is_config k ≡ false
      by true e = absurd (true_not_false (s.config_writable k e) fixed)
      by false e = e

  not_erased : (a : ℕ) (cells : List ℕ) → row_erased chip a cells (chip.words + k) ≡ false
  unfolding row_erased
  not_erased a cells =
      rw (no_program, no_id, second_fails (in_program chip a && not (locked chip cells)) (false && eqb ((chip.words + k) / chip.row) (a / chip.row)) refl)
      (second_fails (at_erase chip a && chip.row_erases_ids) false refl)

  not_wiped : (a : ℕ) → bulk_erased chip a (chip.words + k) ≡ false
  unfolding bulk_erased
  not_wiped a = rw (no_program, no_config, no_id) (second_fails (at_erase chip a) false refl)

  not_written : (a : ℕ) (cells : List ℕ) → begin_written chip a cells (chip.words + k) ≡ false
  unfolding begin_written
  not_written a cells =
      rw (no_program, second_fails (in_program chip a && not (locked chip cells)) (false && eqb ((chip.words + k) / chip.group) (a / chip.group)) refl)
      (by (ℕ_discrete (chip.words + k) (chip.cell a)))
    where
      by : Dec (chip.words + k ≡ chip.cell a) → (leb chip.base a && chip.is_writable (chip.cell a - chip.words) && eqb (chip.words + k) (chip.cell a)) ≡ false
      by (yes e) = middle_fails (leb chip.base a) (chip.is_writable (chip.cell a - chip.words)) (eqb (chip.words + k) (chip.cell a)) (rw (← e, back) fixed)
      by (no h) = last_fails (leb chip.base a) (chip.is_writable (chip.cell a - chip.words)) (eqb (chip.words + k) (chip.cell a)) (ne_eqb (chip.words + k) (chip.cell a) h)

  -- a word of configuration space that no write changes
  pub never_changes : (o : Order) (t : Target) → get_or (effect chip o t).target.cells (chip.words + k) 0 ≡ get_or t.cells (chip.words + k) 0
  never_changes o t =
      any_order chip t (λ c. get_or c (chip.words + k) 0 ≡ get_or t.cells (chip.words + k) 0)
      (record {
        stay = refl;
        begin = edit_kept _ _ t.cells (chip.words + k) (not_written (place t) t.cells);
        bulk = edit_kept _ _ t.cells (chip.words + k) (not_wiped (place t));
        row = edit_kept _ _ t.cells (chip.words + k) (not_erased (place t) t.cells);
      })
      o

-- in this family: reserved, revision, device ID and calibration words
pub others_never_change : (d : Device) → Rules d → (i : ℕ) → programmable d.words i ≡ false → (o : Order) (t : Target) → get_or (effect (chip_of d) o t).target.cells i 0 ≡ get_or t.cells i 0
unfolding programmable
others_never_change d r i e o t = by (dec_lt i d.words)
  where
    by : Dec (i < d.words) → get_or (effect (chip_of d) o t).target.cells i 0 ≡ get_or t.cells i 0
    by (yes h) = absurd (true_not_false {b = true} refl (rw (lt-ltb i d.words h) at e))
    by (no h) =
        let at_it : d.words + (i - d.words) ≡ i = omega arith in
        subst (λ j. get_or (effect (chip_of d) o t).target.cells j 0 ≡ get_or t.cells j 0) at_it
        (never_changes (chip_of d) (sound_chip d r) (i - d.words) (rw (le-ltb i d.words (omega arith)) at e) o t)

-- ---- the latches

-- Begin puts every latch back, also where nothing was written
pub begin_latches : (chip : Chip) (t : Target) → (effect chip Begin t).target.registers.latches ≡ blank chip
unfolding effect
begin_latches chip t = refl

-- ---- the counter

module _ (chip : Chip) (words : List ℕ) where
  walks : (n : ℕ) (t : Target) → ((a : ℕ) → place t ≤ a → a < place t + n → successor chip.base a ≡ a + 1) → runs (board_of chip words) (replicate n Increment) t ≡ moved (place t + n) t
  walks zero t up = λ i. moved (sym (add-zero (place t)) i) t
  walks (suc n) t up =
      ap (runs (board_of chip words) (replicate n Increment)) one
      ∙ (walks n (moved (place t + 1) t) (λ a p q. up a (omega arith) (omega arith)) ∙ (λ i. moved (sum i) t))
    where
      sum : place t + 1 + n ≡ place t + suc n
      sum = omega arith

      one : (effect chip Increment t).target ≡ moved (place t + 1) t
      one = opened ∙ (λ i. moved (up (place t) (omega arith) (omega arith) i) t)
        where
          opened : (effect chip Increment t).target ≡ moved (successor chip.base (place t)) t
          opened = unfold effect in refl

  -- n Increments within program space
  pub walk_program : (n : ℕ) (t : Target) → place t + n < chip.base → runs (board_of chip words) (replicate n Increment) t ≡ moved (place t + n) t
  walk_program n t h = walks n t (λ a p q. successor_program chip.base a (omega arith))

  -- n Increments within configuration space
  pub walk_config : (n : ℕ) (t : Target) → chip.base ≤ place t → place t + n < 2 * chip.base → runs (board_of chip words) (replicate n Increment) t ≡ moved (place t + n) t
  walk_config n t low h = walks n t (λ a p q. successor_config chip.base a (omega arith) (omega arith))
