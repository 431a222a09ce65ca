-- Laws of a sheet that a program prints: what the writer answers of it, and that under a record which the programs serve it is the sheet with that ID.
use Rattle.std.specs.Prelude.{ℕ, ◌+◌, ◌≤◌, ◌<◌, ◌≡◌, refl, Bool, true, false, List, Ok, Err, leb, eqb, length, take, replicate}
use Rattle.std.proofs.Common.{zero-add, arith, sym, ap, ◌∙◌, take_at, le-leb, leb-true}
use Rattle.std.proofs.lemmas.List.{length-replicate}
use Rattle.std.proofs.Math.Seq.{sets, sets-eq, length-sets}
use borrow.Author.Tests.{eq-eqb}
use Rattle.words.specs.Choice.{pick}
use Rattle.words.specs.LawsChoice.{pick_true}
use Rattle.refusal.specs.declared.Refusal.{Refusal}
use Rattle.refusal.specs.Refusal.{number_of}
use Rattle.device.specs.declared.Device.{Device}
use Rattle.device.specs.Record.{device_up_to, device_ok}
use Rattle.device.specs.Memory.{reading_ok}
use Rattle.device.specs.LawsId.{with_id, with_id_lem}
use Rattle.sheet.specs.Sheet.{sheet_with}
use Rattle.sheetwrite.specs.Write.{Written, written_told, sheet_text, sheet_length, written, written_text}
use Rattle.sheetwrite.specs.LawsWrite.{length_sheet, with_text}
use Rattle.print.specs.Print.{refused_text}
use Rattle.board.specs.Open.{most_program}
use Rattle.board.specs.Sheet.{most_sheet, sheet_refusal, printed_sheet}
use Rattle.board.specs.LawsOpen.{served_sound, served_sheet}
use Rattle.board.specs.LawsBoard.{Holds, refusal_text, answer_text}

module _ (d : Device) (id : ℕ) (reading : List ℕ) where
  abbrev given : Device
  given = with_id d id

  abbrev buffer : List ℕ
  buffer = replicate most_sheet 0

  -- the writer's number, in a buffer of that length
  number_is : (written given reading buffer).number ≡ sheet_refusal d id reading
  unfolding written sheet_refusal
  number_is =
      by (device_ok given) (reading_ok d.words reading) (leb (sheet_length given) (length buffer))
      ∙ ap (λ n. pick (device_ok given) (pick (reading_ok d.words reading) (pick (leb (sheet_length given) n) 0 26) 21) 13) (length-replicate {A = ℕ} most_sheet 0)
    where
      by : (a b c : Bool) → (pick {A = Written} a (pick b (pick c (record { number = 0; length = sheet_length given }) (record { number = 26; length = 0 })) (record { number = 21; length = 0 }))
          (record { number = 13; length = 0 })).number ≡ pick {A = ℕ} a (pick b (pick c 0 26) 21) 13
      by true true true = unfold pick in refl
      by true true false = unfold pick in refl
      by true false c = unfold pick in refl
      by false b c = unfold pick in refl

  pub sheet_refused : (e : Refusal) → written_told (Err e) ≡ written given reading buffer → refused_text (number_of e) 0 0 ≡ printed_sheet d id reading
  unfolding printed_sheet
  sheet_refused e is = refusal_text (sheet_refusal d id reading) (sheet_with id d reading) e (ap (λ w. w.number) is ∙ number_is)

  module _ (n : ℕ) (is : written_told (Ok n) ≡ written given reading buffer) (after : List ℕ) (wrote : after ≡ written_text given reading buffer) where
    zero_is : 0 ≡ (written given reading buffer).number
    zero_is = ap (λ w. w.number) is

    -- the whole sheet had room
    whole_is : (n ≡ sheet_length given) × (sheet_length given ≤ length buffer)
    unfolding written
    whole_is = by (device_ok given) (reading_ok d.words reading) (leb (sheet_length given) (length buffer)) is (leb-true (sheet_length given) (length buffer))
      where
        by : (a b c : Bool) → record { number = 0; length = n } ≡ pick {A = Written} a (pick b (pick c (record { number = 0; length = sheet_length given }) (record { number = 26; length = 0 })) (record { number = 21; length = 0 })) (record { number = 13; length = 0 })
            → (c ≡ true → sheet_length given ≤ length buffer) → (n ≡ sheet_length given) × (sheet_length given ≤ length buffer)
        by true true true p h = (unfold pick in ap (λ w. w.length) p, h refl)
        by true true false p h = absurd (unfold pick in omega (arith, ap (λ w. w.number) p))
        by true false c p h = absurd (unfold pick in omega (arith, ap (λ w. w.number) p))
        by false b c p h = absurd (unfold pick in omega (arith, ap (λ w. w.number) p))

    pub sheet_stored : Holds (printed_sheet d id reading) n after
    unfolding written_text printed_sheet
    sheet_stored =
        let stored : after ≡ sets buffer 0 (sheet_text given reading) = wrote ∙ pick_true (eqb (written given reading buffer).number 0) _ _ (eq-eqb _ 0 (sym zero_is)) in
        let far : length (sheet_text given reading) ≡ n = length_sheet given reading ∙ sym whole_is.0 in
        let fit : 0 + length (sheet_text given reading) ≤ length buffer = rw (zero-add, far, whole_is.0) whole_is.1 in
        record {
          within = rw (stored, length-sets buffer 0 (sheet_text given reading), whole_is.0) whole_is.1;
          whole =
              ap (take n) (stored ∙ sets-eq (sheet_text given reading) buffer 0 fit)
              ∙ (take_at (sheet_text given reading) _ n far
              ∙ (with_text d id reading
              ∙ answer_text (sheet_refusal d id reading) (sheet_with id d reading) (refused_text (sheet_refusal d id reading) 0 0) (zero_is ∙ number_is)));
        }

  -- a reading under a record that the programs serve is not refused
  pub printed_whole : device_up_to most_program d ≡ true → reading_ok d.words reading ≡ true → id < 0x4000 → printed_sheet d id reading ≡ sheet_with id d reading
  unfolding printed_sheet sheet_refusal pick
  printed_whole served ok small =
      let own : device_up_to most_program given ≡ true = with_id_lem d id most_program served small in
      let most : sheet_length given ≤ most_sheet = served_sheet given own in
      rw (served_sound given own, ok, le-leb (sheet_length given) most_sheet most)

-- and what the writer leaves of any text of that length begins with the sheet
module _ (d : Device) (served : device_up_to most_program d ≡ true) (reading : List ℕ) (ok : reading_ok d.words reading ≡ true) (id : ℕ) (small : id < 0x4000)
    (text : List ℕ) (long : length text ≡ 46135) (w : Written) (e : w ≡ written (with_id d id) reading text) where
  own : device_up_to most_program (with_id d id) ≡ true
  own = with_id_lem d id most_program served small

  room : sheet_length (with_id d id) ≤ length text
  room = let m : sheet_length (with_id d id) ≤ 46135 = served_sheet (with_id d id) own in omega arith

  sheet_is : written (with_id d id) reading text ≡ record { number = 0; length = sheet_length (with_id d id) }
  unfolding written pick
  sheet_is = rw (served_sound (with_id d id) own, ok, le-leb (sheet_length (with_id d id)) (length text) room)

  sheet_long : w.length ≡ sheet_length (with_id d id)
  sheet_long = ap (λ x. x.length) (e ∙ sheet_is)

  pub sheet_whole : (text' : List ℕ) → text' ≡ written_text (with_id d id) reading text → take w.length text' ≡ sheet_with id d reading
  unfolding written_text
  sheet_whole text' f =
      let stored : text' ≡ sets text 0 (sheet_text (with_id d id) reading) = f ∙ pick_true (eqb (written (with_id d id) reading text).number 0) _ _ (eq-eqb _ 0 (ap (λ x. x.number) sheet_is)) in
      let count : w.length ≡ length (sheet_text (with_id d id) reading) = sheet_long ∙ sym (length_sheet (with_id d id) reading) in
      let fit : 0 + length (sheet_text (with_id d id) reading) ≤ length text = rw (zero-add, length_sheet (with_id d id) reading) room in
      ap (take w.length) (stored ∙ sets-eq (sheet_text (with_id d id) reading) text 0 fit)
      ∙ (take_at (sheet_text (with_id d id) reading) _ w.length (sym count) ∙ with_text d id reading)
