-- Laws of a sheet that is read into the first words of a buffer, under a sound record and a name that a table can have.
use Rattle.std.specs.Prelude.{ℕ, ◌+◌, ◌≤◌, ◌≡◌, refl, true, List, ◌++◌, length}
use Rattle.std.proofs.Common.{zero-add, ◌∙◌, take-append-drop, length-take-le, take_at, ne_eqb}
use Rattle.std.proofs.Math.Path.{sym, ap}
use Rattle.std.proofs.Math.ListN.{take, drop}
use Rattle.std.proofs.Math.Seq.{sets, length-sets}
use Rattle.std.proofs.lemmas.List.Edits.{sets-eq}
use Rattle.words.specs.LawsChoice.{pick_false}
use Rattle.device.specs.declared.Device.{Device}
use Rattle.device.specs.Record.{device_ok}
use Rattle.device.specs.Memory.{reading_tail, reading_ok}
use Rattle.table.specs.Table.{name_ok}
use Rattle.sheet.specs.Sheet.{words_in, sheet_number, read_number, read_buffer}
use Rattle.sheet.specs.LawsSheet.{length_words, read_sound, taken}
use Rattle.board.specs.LawsOpen.{read_number_lem, sheet_words}

module _ (d : Device) (sound : device_ok d ≡ true) (name : List ℕ) (named : name_ok name ≡ true) (text before : List ℕ) (room : d.words + reading_tail ≤ length before) where
  abbrev count : ℕ
  count = d.words + reading_tail

  front_long : length (take count before) ≡ count
  front_long = length-take-le count before room

  -- the reading stored from the buffer's start on
  stored : sets before 0 (words_in d.words text) ≡ words_in d.words text ++ drop count before
  stored =
      let long : length (words_in d.words text) ≡ count = length_words d.words text in
      let fits_in : 0 + length (words_in d.words text) ≤ length before = rw (zero-add, long) room in
      sets-eq (words_in d.words text) before 0 fits_in ∙ ap (λ n. words_in d.words text ++ drop n before) (zero-add (length (words_in d.words text)) ∙ long)

  module _ (n : ℕ) (e : n ≡ read_number d name text (take count before)) where
    pub front_number : n ≡ sheet_number d name text
    front_number = read_number_lem d sound name named text (take count before) front_long n e

    module _ (after : List ℕ) (f : after ≡ read_buffer d name text (take count before) ++ drop count before) where
      pub front_stored : n ≡ 0 → after ≡ sets before 0 (words_in d.words text)
      front_stored z =
          f ∙ (ap (λ x. x ++ drop count before) (sheet_words d sound name named text (take count before) front_long n e z (read_buffer d name text (take count before)) refl)
          ∙ sym stored)

      pub front_stays : (n ≡ 0 → ⊥) → after ≡ before
      front_stays h =
          let stays : read_buffer d name text (take count before) ≡ take count before = (unfold read_buffer in pick_false _ _ _
          (ne_eqb (read_number d name text (take count before)) 0 (λ y. h (e ∙ y)))) in
          f ∙ (ap (λ x. x ++ drop count before) stays ∙ take-append-drop count before)

  -- what is read so stands at the front, and is a reading
  module _ (z : sheet_number d name text ≡ 0) where
    pub front_words : take count (sets before 0 (words_in d.words text)) ≡ words_in d.words text
    front_words = ap (take count) stored ∙ take_at (words_in d.words text) _ count (length_words d.words text)

    pub front_room : count ≤ length (sets before 0 (words_in d.words text))
    front_room = rw (length-sets before 0 (words_in d.words text)) room

    pub front_good : reading_ok d.words (words_in d.words text) ≡ true
    front_good = read_sound d text (taken d name text z).ok
