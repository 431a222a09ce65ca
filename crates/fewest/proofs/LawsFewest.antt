-- No stream without Bulk Erase that leaves what an update leaves has fewer Row Erases.
use Rattle.std.specs.Prelude.{ℕ, ◌+◌, ◌≤◌, ◌<◌, ◌≡◌, true, List, length, get_or}
use Rattle.std.proofs.Math.Nat.{le_trans}
use Rattle.std.proofs.Common.{arith, ◌∙◌}
use Rattle.words.specs.LawsChoice.{pick_true}
use Rattle.words.specs.LawsLists.{get_or_build}
use Rattle.words.specs.LawsWord.{Contains, words_long}
use Rattle.device.specs.declared.Device.{Device}
use Rattle.device.specs.Memory.{reading_tail, cells_tail, ids, programmable}
use Rattle.device.specs.LawsRecord.{rules_lem}
use Rattle.device.specs.LawsMemory.{programmable_low, reading_long}
use Rattle.target.specs.Chip.{chip_of}
use Rattle.target.specs.Model.{Run}
use Rattle.target.specs.Step.{Target, sound_cells}
use Rattle.target.specs.Run.{ran, run_refusal}
use Rattle.target.specs.LawsChip.{SoundChip, sound_chip}
use Rattle.aim.specs.Wanted.{known, wanted}
use Rattle.aim.specs.Refusal.{update_number}
use Rattle.plan.specs.Steps.{update_steps}
use Rattle.plan.specs.Demands.{programmed}
use Rattle.aim.specs.LawsWanted.{known_inside}
use Rattle.aim.specs.LawsAccepted.{accepted}
use Rattle.fewest.specs.Erases.{is_row_erase, is_bulk_erase, orders_of, steps_of}
use Rattle.fewest.specs.LawsClears.{contains_self, burn_clears}
use Rattle.fewest.specs.LawsLack.{lacking, lacking_still}
use Rattle.fewest.specs.LawsFalls.{holding}
use Rattle.fewest.specs.LawsPays.{chip_fewest}
use Rattle.fewest.specs.LawsErasesCounted.{erases_counted}

-- what an update leaves has its wanted words
programmed_word : (d : Device) (image reading first : List ℕ) (i : ℕ) → i < length first → i < d.words + ids → get_or (programmed d image reading first) i 0 ≡ wanted d image reading i
unfolding programmed
programmed_word d image reading first i p q =
    get_or_build (length first) _ i p ∙ pick_true (programmable d.words i) (wanted d image reading i) (get_or first i 0) (programmable_low d.words i q)

module _ (d : Device) (image reading first : List ℕ) (e : update_number d image reading ≡ 0) (s : sound_cells (chip_of d) first ≡ true)
    (held : (i : ℕ) → i < d.words + reading_tail → get_or first i 0 ≡ get_or reading i 0) where
  sound : SoundChip (chip_of d)
  sound = sound_chip d (rules_lem d (accepted d image reading e).device)

  known_is : (i : ℕ) → i < d.words + reading_tail → known reading i ≡ get_or reading i 0
  known_is i h = known_inside reading i (rw (reading_long d.words reading (accepted d image reading e).reading_sound) h)

  -- what lacks a bit in the reading lacks it in the cells
  read_lacking : lacking (chip_of d) (wanted d image reading) (known reading) ≤ lacking (chip_of d) (wanted d image reading) (holding first)
  read_lacking =
      lacking_still (chip_of d) sound (wanted d image reading) (known reading) (holding first)
      (λ i h. rw (held i (omega arith), ← known_is i (omega arith)) (contains_self (known reading i)))

  module _ (stream : List ℕ) (allowance : ℕ) (words : List ℕ) where
    abbrev ending : Run Target
    ending = ran d stream allowance first words

    leaves_wanted : ending.target.cells ≡ programmed d image reading first → (i : ℕ) → i < d.words + ids → Contains (get_or ending.target.cells i 0) (wanted d image reading i)
    leaves_wanted left i h =
        let long : length first ≡ d.words + cells_tail = (unfold sound_cells in words_long (d.words + cells_tail) first s) in
        rw (left, programmed_word d image reading first i (omega arith) h) (contains_self (wanted d image reading i))

    run_fewest : ending.target.cells ≡ programmed d image reading first → steps_of is_bulk_erase stream ending.done ≡ 0
        → lacking (chip_of d) (wanted d image reading) (holding first) ≤ steps_of is_row_erase stream ending.done
    unfolding ran
    run_fewest left = chip_fewest (chip_of d) sound (burn_clears d) (wanted d image reading) (run_refusal d) stream allowance first words (leaves_wanted left)

    read_fewest : ending.target.cells ≡ programmed d image reading first → steps_of is_bulk_erase stream ending.done ≡ 0
        → orders_of is_row_erase (update_steps d image reading) ≤ steps_of is_row_erase stream ending.done
    unfolding lacking
    read_fewest left bulk = rw (erases_counted d image reading) (le_trans read_lacking (run_fewest left bulk))

-- ---- the theorem

-- no stream without Bulk Erase that leaves what an update leaves has fewer Row Erases, whatever its bytes, allowance and buffer
pub fewest_erases : (d : Device) (image reading first : List ℕ)
    → update_number d image reading ≡ 0
    → sound_cells (chip_of d) first ≡ true
    → ((i : ℕ) → i < d.words + reading_tail → get_or first i 0 ≡ get_or reading i 0)
    → (stream : List ℕ) (allowance : ℕ) (words : List ℕ)
    → (ran d stream allowance first words).target.cells ≡ programmed d image reading first
    → steps_of is_bulk_erase stream (ran d stream allowance first words).done ≡ 0
    → orders_of is_row_erase (update_steps d image reading) ≤ steps_of is_row_erase stream (ran d stream allowance first words).done
fewest_erases d image reading first e s held stream allowance words left bulk = read_fewest d image reading first e s held stream allowance words left bulk
