-- Verify: a reading against a wanted reading ('Checksum and verify'; refusals 13, 21; verdicts 0, 40, 41).
use Rattle.std.specs.Prelude.{ℕ, ◌+◌, Bool, ◌&&◌, not, List, ltb, eqb, get_or, Result, Ok, Err}
use Rattle.refusal.specs.declared.Refusal.{Refusal}
use Rattle.refusal.specs.Refusal.{number_of}
use Rattle.words.specs.Choice.{pick, unless}
use Rattle.words.specs.Word.{under_mask}
use Rattle.words.specs.declared.WordAddress.{WordAddress}
use Rattle.words.specs.Address.{config_base, address_of}
use Rattle.words.specs.First.{first_to}
use Rattle.device.specs.declared.Device.{Device}
use Rattle.device.specs.Record.{device_ok}
use Rattle.device.specs.Memory.{reading_tail, programmable, mask_at, reading_ok, protected}
use Rattle.judge.specs.declared.Verdict.{Verdict}
use Rattle.judge.specs.declared.Verdict.TheVariants.{Same, Differs, Protected}
use Rattle.judge.specs.Count.{count_to}

-- user IDs, both configuration words and, unless the reading is protected, all program words are judged
unfoldable pub judged : (words : ℕ) → (hidden : Bool) → ℕ → Bool
judged words hidden i = programmable words i && not (hidden && ltb i words)

-- the wanted word has another bit under the mask than the one that was read
unfoldable pub word_differs : (mask wanted reading : ℕ) → Bool
word_differs mask wanted reading = not (eqb (under_mask mask wanted reading) reading)

-- entry i is judged and differs
unfoldable pub entry_differs : Device → (wanted reading : List ℕ) → ℕ → Bool
entry_differs d wanted reading i = judged d.words (protected d.words reading) i && word_differs (mask_at d i) (get_or wanted i 0) (get_or reading i 0)

-- a verdict as it is told: 0, 40 with the first differing address and the count of differing words, or 41; or the number of a refusal
pub record ToldVerdict : Type 0 where
  pub number : ℕ
  pub address : WordAddress
  pub count : ℕ

-- a verdict that names nothing but its number
abbrev pub bare : ℕ → ToldVerdict
bare n = record { number = n; address = record { 0 = 0 }; count = 0 }

-- 40 with the first differing address and the count; else 41 for a protected board; else 0
unfoldable pub verdict_of : Device → (wanted reading : List ℕ) → ToldVerdict
verdict_of d wanted reading =
    pick (ltb 0 (count_to (d.words + reading_tail) (entry_differs d wanted reading)))
    (record {
      number = 40;
      address = record { 0 = address_of config_base d.words (first_to (d.words + reading_tail) (entry_differs d wanted reading)) };
      count = count_to (d.words + reading_tail) (entry_differs d wanted reading);
    })
    (pick (protected d.words reading) (bare 41) (bare 0))

-- how a verdict is told, and how the call's answer is
abbrev pub as_told : Verdict → ToldVerdict
as_told Same = bare 0
as_told (Differs address count) = record { number = 40; address = address; count = count }
as_told Protected = bare 41

abbrev pub verdict_told : Result Verdict Refusal → ToldVerdict
verdict_told (Ok verdict) = as_told verdict
verdict_told (Err e) = bare (number_of e)

-- what the call answers
unfoldable pub verified : Device → (wanted reading : List ℕ) → ToldVerdict
verified d wanted reading =
    unless (device_ok d) (bare 13)
    (unless (reading_ok d.words wanted) (bare 21)
    (unless (reading_ok d.words reading) (bare 21)
    (verdict_of d wanted reading)))
