-- Laws of the call's answers.
use Rattle.std.specs.Prelude.{ℕ, ◌≤◌, ◌<◌, ◌≡◌, true, false, Result, Ok, Err, List, length}
use Rattle.std.proofs.Common.{arith, sym, ap, ◌∙◌}
use Rattle.std.proofs.Math.Dec.{eqb}
use Rattle.std.proofs.lemmas.List.Edits.{sets}
use borrow.Author.Tests.{le-leb, lt-leb, ne_eqb}
use Rattle.refusal.specs.Refusal.{number_of}
use Rattle.refusal.specs.LawsRefusal.{number_of_positive}
use Rattle.refusal.specs.declared.Refusal.{Refusal}
use Rattle.words.specs.Choice.{pick}
use Rattle.words.specs.LawsChoice.{pick_true, pick_false}
use Rattle.device.specs.declared.Device.{Device}
use Rattle.device.specs.Record.{device_ok, record_number}
use Rattle.device.specs.LawsRecord.{bad_of_judged}
use Rattle.device.specs.Memory.{image_ok}
use Rattle.hexwrite.specs.Writer.{hex_text, written_hex, written_out, WroteHex}
use Rattle.hexwrite.specs.LawsWrite.{refused_with}
use Rattle.hexwrite.specs.declared.image.Image.{Image}

-- the image of a sound record whose entries are sound, or what the call answers otherwise, whatever it is lent
abbrev pub ImageOf : Device → List ℕ → Result Image Refusal → Type 0
ImageOf d l (Ok i) = (device_ok d ≡ true) × (image_ok d.words l ≡ true) × (i.words ≡ d.words) × (i.entries.now ≡ l)
ImageOf d l (Err e) = (out : List ℕ) → written_hex d l out ≡ refused_with (number_of e)

module _ (d : Device) (image out : List ℕ) where
  answer_13 : device_ok d ≡ false → written_hex d image out ≡ refused_with 13
  unfolding written_hex
  answer_13 f = pick_false (device_ok d) _ _ f

  pub answer_bad : (e : Refusal) → number_of e ≡ record_number d → written_hex d image out ≡ refused_with (number_of e)
  unfolding record_number
  answer_bad e q =
      let f : device_ok d ≡ false = bad_of_judged d (λ z. absurd (omega (arith, number_of_positive e, q, z))) in
      rw (q ∙ pick_false (device_ok d) 0 13 f) (answer_13 f)

  -- a refusal writes nothing
  wrote_refused : (n : ℕ) → (n ≡ 0 → ⊥) → written_hex d image out ≡ refused_with n → WroteHex d image out (refused_with n) out
  unfolding written_out
  wrote_refused n nz e =
      record {
        answer = sym e;
        bytes = sym (pick_false (eqb (written_hex d image out).number 0) _ out (ap (λ r. eqb r.number 0) e ∙ ne_eqb n 0 nz));
      }

  pub wrote_refusal : (e : Refusal) → written_hex d image out ≡ refused_with (number_of e) → WroteHex d image out (refused_with (number_of e)) out
  wrote_refusal e q = wrote_refused (number_of e) (λ z. absurd (omega (arith, number_of_positive e, z))) q

  module _ (sound : device_ok d ≡ true) where
    pub answer_20 : image_ok d.words image ≡ false → written_hex d image out ≡ refused_with 20
    unfolding written_hex pick
    answer_20 f = rw (sound, f)

    module _ (given : image_ok d.words image ≡ true) (n : ℕ) (long : n ≡ length (hex_text d.words image)) where
      answer_26 : length out < n → written_hex d image out ≡ refused_with 26
      unfolding written_hex pick
      answer_26 h = rw (sound, given, ← long, lt-leb n (length out) h)

      answer_0 : n ≤ length out → record { number = 0; length = n } ≡ written_hex d image out
      unfolding written_hex pick
      answer_0 h = rw (sound, given, ← long, le-leb n (length out) h)

      pub wrote_26 : length out < n → WroteHex d image out (refused_with 26) out
      wrote_26 h = wrote_refused 26 (λ z. omega arith) (answer_26 h)

      pub wrote_0 : (after : List ℕ) → n ≤ length out → after ≡ sets out 0 (hex_text d.words image) → WroteHex d image out (record { number = 0; length = n }) after
      unfolding written_out
      wrote_0 after h w =
          record {
            answer = answer_0 h;
            bytes = w ∙ sym (pick_true (eqb (written_hex d image out).number 0) _ out (ap (λ r. eqb r.number 0) (sym (answer_0 h))));
          }
