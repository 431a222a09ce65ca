-- Laws of an order obeyed, for any chip: for each order, what the code does to the target is its effect.
use Rattle.std.specs.Prelude.{ℕ, ◌+◌, ◌%◌, ◌≤◌, ◌<◌, ◌≡◌, refl, false, List, length, set, replicate}
use Rattle.std.proofs.Math.Arith.{lt_of_le-ne}
use Rattle.std.proofs.Common.{ap, lt-ltb, le-ltb, arith}
use Rattle.words.specs.Choice.{pick}
use Rattle.words.specs.Word.{erased}
use Rattle.words.specs.Address.{successor}
use Rattle.target.specs.Chip.{Chip}
use Rattle.target.specs.Effects.{blank, edit, row_erased, bulk_erased, begin_written, burnt, word_read}
use Rattle.target.specs.Model.{done, stops}
use Rattle.target.specs.Step.{Target, place, moved, latched, changed, taken, effect}
use Rattle.target.specs.declared.Order.TheVariants.{LoadConfiguration, LoadData, Read, Increment, ResetAddress, Begin, BulkErase, RowErase}

module _ (chip : Chip) (t : Target) where
  -- the target whose cells Begin has written
  abbrev pub written : Target
  written = changed (edit (begin_written chip (place t) t.cells) (burnt chip (place t) t.registers.latches t.cells) t.cells) t

  -- ---- the two orders that can be refused

  -- no room
  pub fetch_refused : t.read ≡ length t.words → stops 35 t ≡ effect chip Read t
  unfolding effect pick
  fetch_refused h = rw (le-ltb t.read (length t.words) (omega arith))

  pub fetch_taken : (t.read ≡ length t.words → ⊥) → t.read ≤ length t.words → (w : ℕ) → w ≡ word_read chip (place t) t.cells → done (taken w t) ≡ effect chip Read t
  unfolding effect pick
  fetch_taken h low w e = rw (lt-ltb t.read (length t.words) (lt_of_le-ne low h), e)

  pub erase_all_refused : chip.base + chip.reading_tail ≤ place t → stops 33 t ≡ effect chip BulkErase t
  unfolding effect pick
  erase_all_refused h = rw (le-ltb (place t) (chip.base + chip.reading_tail) h)

  pub erase_all_done : place t < chip.base + chip.reading_tail → (cells : List ℕ) → cells ≡ edit (bulk_erased chip (place t)) (λ i. erased) t.cells
      → done (changed cells t) ≡ effect chip BulkErase t
  unfolding effect pick
  erase_all_done h cells f = rw (lt-ltb (place t) (chip.base + chip.reading_tail) h, f)

  -- ---- the others

  pub obeys_load_configuration : (w : ℕ) → done (latched (set t.registers.latches 0 w) (moved chip.base t)) ≡ effect chip (LoadConfiguration w) t
  unfolding effect
  obeys_load_configuration w = refl

  pub obeys_load_data : (w latch : ℕ) → latch ≡ place t % chip.group → done (latched (set t.registers.latches latch w) t) ≡ effect chip (LoadData w) t
  unfolding effect
  obeys_load_data w latch e = rw e

  pub obeys_increment : (n : ℕ) → n ≡ successor chip.base (place t) → done (moved n t) ≡ effect chip Increment t
  unfolding effect
  obeys_increment n e = rw e

  -- of a chip whose Reset Address leaves the latches
  pub obeys_reset : chip.reset_blanks ≡ false → done (moved 0 t) ≡ effect chip ResetAddress t
  unfolding effect pick
  obeys_reset f = rw f

  pub obeys_begin : (u : Target) → done u ≡ done written → done (latched (replicate chip.places erased) u) ≡ effect chip Begin t
  unfolding effect blank
  obeys_begin u e = ap (λ r. done (latched (replicate chip.places erased) r.target)) e

  pub obeys_row_erase : (cells : List ℕ) → cells ≡ edit (row_erased chip (place t) t.cells) (λ i. erased) t.cells → done (changed cells t) ≡ effect chip RowErase t
  unfolding effect
  obeys_row_erase cells f = rw f
