-- What the writers write is read back: by `sheet`, under the same record and name, as the same reading.
use Rattle.std.specs.Prelude.{ℕ, ◌≡◌, true, List}
use Rattle.std.proofs.Math.Path.{refl}
use Rattle.std.proofs.Common.{inl, inr}
use Rattle.device.specs.declared.Device.{Device}
use Rattle.device.specs.Record.{device_ok, fits}
use Rattle.device.specs.Memory.{reading_ok}
use Rattle.device.specs.LawsRecord.{rules_lem}
use Rattle.device.specs.LawsId.{fits_own}
use Rattle.table.specs.Table.{name_ok}
use Rattle.judge.specs.Checksum.{checksum_of}
use Rattle.sheet.specs.Sheet.{words_in, sheet_number}
use Rattle.sheet.specs.LawsSheet.{written_read, new_written_read, new_exactly, sum_small}
use Rattle.sheetwrite.specs.Write.{sheet_text, new_text}

module _ (d : Device) (sound : device_ok d ≡ true) (name : List ℕ) (named : name_ok name ≡ true) (l : List ℕ) (ok : reading_ok d.words l ≡ true) where
  own : fits d d.id ≡ true
  own = fits_own d (rules_lem d sound).id_word

  -- the old form
  pub own_read : (sheet_number d name (sheet_text d l) ≡ 0) × (words_in d.words (sheet_text d l) ≡ l)
  unfolding sheet_text
  own_read = (
    (new_exactly d sound name named (sheet_text d l)).1 (inl (d.id, own, l, ok, refl)),
    (written_read d sound d.id own l ok).words_are,
  )

  -- the new form
  pub new_own_read : (sheet_number d name (new_text d name l) ≡ 0) × (words_in d.words (new_text d name l) ≡ l)
  unfolding new_text
  new_own_read = (
    (new_exactly d sound name named (new_text d name l)).1 (inr (d.id, own, l, ok, checksum_of d l, sum_small d l, refl, refl)),
    (new_written_read d sound d.id own l ok name named (checksum_of d l) (sum_small d l)).words_are,
  )
