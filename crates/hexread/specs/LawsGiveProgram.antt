-- Laws of giving the words of a data record that all lie in program space, where the entries follow one another as the words do.
use Rattle.std.specs.Prelude.{ℕ, ◌+◌, ◌-◌, ◌*◌, ◌/◌, ◌%◌, ◌≤◌, ◌<◌, ◌≡◌, refl, Option, Some, None, List}
use Rattle.std.proofs.Math.Decide.{dec_lt, ℕ_discrete}
use native.Mathlib.Omega.{arith}
use Rattle.std.proofs.Math.Path.{sym}
use Rattle.std.proofs.Common.{ap, ◌∙◌}
use Rattle.words.specs.Choice.{pick}
use Rattle.words.specs.Address.{config_base, doubled, halved, entry_of}
use Rattle.words.specs.declared.ByteAddress.{ByteAddress}
use Rattle.words.specs.declared.WordAddress.{WordAddress}
use Rattle.words.specs.LawsAddress.{placed_at, placed_nowhere, halved_doubled, halved_odd, halved_even, entry_program, entry_between, entry_config, entry_beyond}
use Rattle.device.specs.Memory.{reading_tail}
use Rattle.device.specs.LawsMemory.{programmable_low}
use Rattle.hexread.specs.Line.{offset_of}
use Rattle.hexread.specs.Step.{byte_address, entry_at, entry_of_word}
use Rattle.hexread.specs.LawsGive.{entry_by, entry_if, entry_read}

-- ---- entries below the end of program space

-- what the entry of an address tells about it
record Found (words a e : ℕ) : Type 0 where
  most : e ≤ words + reading_tail
  program : e < words → e ≡ a

found : (words a : ℕ) → Found words a (entry_of config_base words reading_tail a)
found words a = by (dec_lt a words) (dec_lt a config_base) (dec_lt (a - config_base) reading_tail)
  where
    by : Dec (a < words) → Dec (a < config_base) → Dec (a - config_base < reading_tail) → Found words a (entry_of config_base words reading_tail a)
    by (yes p) q r = rw (entry_program config_base words reading_tail a p) (record { most = omega arith; program = λ h. refl })
    by (no p) (yes q) r = rw (entry_between config_base words reading_tail a (omega arith) q) (record { most = omega arith; program = λ h. absurd (omega arith) })
    by (no p) (no q) (yes r) =
        rw (entry_config config_base words reading_tail a (omega arith) (omega arith) r) (record { most = omega arith; program = λ h. absurd (omega arith) })
    by (no p) (no q) (no r) =
        rw (entry_beyond config_base words reading_tail a (omega arith) (omega arith) (omega arith)) (record { most = omega arith; program = λ h. absurd (omega arith) })

entry_most : (words : ℕ) (p : Option WordAddress) → entry_at words p ≤ words + reading_tail
unfolding entry_at
entry_most words (Some a) = (found words a.0).most
entry_most words None = omega arith

-- the byte address of a program word is twice its entry
twice_entry : (words : ℕ) (b : ByteAddress) → entry_at words (halved b) < words → b.0 ≡ 2 * entry_at words (halved b)
unfolding entry_at
twice_entry words b = by (ℕ_discrete (b.0 % 2) 0) (dec_lt (b.0 / 2) 0x10000)
  where
    by : Dec (b.0 % 2 ≡ 0) → Dec (b.0 / 2 < 0x10000) → entry_at words (halved b) < words → b.0 ≡ 2 * entry_at words (halved b)
    by (yes p) (yes q) =
        rw (halved_even b p, placed_at (b.0 / 2) q)
        (λ h. let e : entry_of config_base words reading_tail (b.0 / 2) ≡ b.0 / 2 = (found words (b.0 / 2)).program h in omega arith)
    by (yes p) (no q) = rw (halved_even b p, placed_nowhere (b.0 / 2) (omega arith)) (λ h. absurd (omega arith))
    by (no p) q = rw (halved_odd b p) (λ h. absurd (omega arith))

module _ (words upper : ℕ) (line : List ℕ) (j : ℕ) (small : words ≤ 0x10000) (here : entry_of_word words upper line 0 + j < words) where
  next_address : byte_address upper line j ≡ doubled (record { 0 = entry_of_word words upper line 0 + j })
  unfolding entry_of_word byte_address doubled
  next_address =
      let t : upper * 65536 + offset_of line + 2 * 0 ≡ 2 * entry_of_word words upper line 0 = twice_entry words (byte_address upper line 0) (omega arith) in
      let e : upper * 65536 + offset_of line + 2 * j ≡ 2 * (entry_of_word words upper line 0 + j) = omega arith in
      rw e

  next_place : halved (byte_address upper line j) ≡ Some (record { 0 = entry_of_word words upper line 0 + j })
  next_place = ap halved next_address ∙ halved_doubled (record { 0 = entry_of_word words upper line 0 + j }) (omega arith)

  next_entry : entry_of_word words upper line 0 + j ≡ entry_of_word words upper line j
  unfolding entry_of_word entry_at
  next_entry = sym (ap (entry_at words) next_place ∙ entry_program config_base words reading_tail (entry_of_word words upper line 0 + j) here)

-- ---- which records

-- the first entry of a record is at most one past the last
pub first_most : (words upper offset : ℕ) → entry_by words upper offset 0 ≤ words + reading_tail
first_most words upper offset = entry_most words (halved (record { 0 = upper * 65536 + offset + 2 * 0 }))

-- a record's n words are program words, from `first` on
module _ (words upper offset first n : ℕ) (start : first ≡ entry_by words upper offset 0) (within : first + n ≤ words) (small : words ≤ 0x10000) (line : List ℕ) (o : offset ≡ offset_of line) where
  pub program_answers : (j : ℕ) → j < n → Some (first + j) ≡ entry_if words upper line j
  unfolding pick
  program_answers j h =
      let f : first ≡ entry_of_word words upper line 0 = start ∙ entry_read words upper line offset 0 o in
      let at : first + j ≡ entry_of_word words upper line j = rw f (next_entry words upper line j small (rw (← f) (omega arith))) in
      rw (← at, programmable_low words (first + j) (omega arith))
