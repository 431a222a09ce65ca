-- Laws of the ID words that fit a device, and of a device whose ID is another.
use Rattle.std.specs.Prelude.{ℕ, ◌≤◌, ◌<◌, ◌≡◌, refl, true, false, eqb}
use Rattle.std.proofs.Common.{arith, sym, ap, ◌∙◌}
use Rattle.std.specs.Int.Bits.{bit_and}
use Rattle.std.proofs.lemmas.Nat.{and_comm}
use borrow.Author.Tests.{eqb-true, eq-eqb, ne_eqb}
use Rattle.words.specs.Word.{erased, is_word}
use Rattle.words.specs.LawsChoice.{first_holds, second_holds}
use Rattle.words.specs.LawsTests.{by_lt}
use Rattle.words.specs.LawsWord.{is_word_lem, not_word, word_lt, and_erased}
use Rattle.device.specs.declared.Device.{Device}
use Rattle.device.specs.Record.{device_up_to, fits}
use Rattle.device.specs.LawsRecord.{RulesUpTo, keeps_up_to, rules_up_to}

module _ (d : Device) (w : ℕ) where
  -- a number above 3FFFh fits nothing, whatever the mask
  pub fits_high : 0x4000 ≤ w → fits d w ≡ false
  unfolding fits
  fits_high h = rw (not_word w h)

  pub fits_low : w < 0x4000 → fits d w ≡ eqb (bit_and w d.idmask) (bit_and d.id d.idmask)
  unfolding fits
  fits_low h = rw (is_word_lem w h)

  -- what fits is a word, and has the ID's bits under the mask
  pub fits_word : fits d w ≡ true → w < 0x4000
  unfolding fits
  fits_word e = word_lt w (first_holds (is_word w) (eqb (bit_and w d.idmask) (bit_and d.id d.idmask)) e)

  pub fits_same : fits d w ≡ true → bit_and w d.idmask ≡ bit_and d.id d.idmask
  unfolding fits
  fits_same e = eqb-true _ _ (second_holds (is_word w) (eqb (bit_and w d.idmask) (bit_and d.id d.idmask)) e)

  pub fits_of : w < 0x4000 → bit_and w d.idmask ≡ bit_and d.id d.idmask → fits d w ≡ true
  fits_of h e = fits_low h ∙ eq-eqb _ _ e

  -- under a mask that has every bit a word fits exactly when it is the ID
  pub fits_whole : d.idmask ≡ erased → d.id < 0x4000 → fits d w ≡ eqb w d.id
  fits_whole m i = by_lt w 0x4000 low high
    where
      whole : (x : ℕ) → x < 0x4000 → bit_and x d.idmask ≡ x
      whole x h = ap (bit_and x) m ∙ (and_comm x erased ∙ and_erased x h)

      low : w < 0x4000 → fits d w ≡ eqb w d.id
      low h = fits_low h ∙ (λ k. eqb (whole w h k) (whole d.id i k))

      high : 0x4000 ≤ w → fits d w ≡ eqb w d.id
      high h = fits_high h ∙ sym (ne_eqb w d.id (λ e. omega arith))

-- the ID itself fits
pub fits_own : (d : Device) → d.id < 0x4000 → fits d d.id ≡ true
fits_own d h = fits_of d d.id h refl

-- ---- a device whose ID is another

module _ (d : Device) (id : ℕ) where
  abbrev pub with_id : Device
  with_id = record { id = id; words = d.words; row = d.row; mask1 = d.mask1; mask2 = d.mask2; idmask = d.idmask }

  -- it keeps the rules if that ID is a word
  pub with_id_lem : (top : ℕ) → device_up_to top d ≡ true → id < 0x4000 → device_up_to top with_id ≡ true
  with_id_lem top e h =
      let r : RulesUpTo top d = rules_up_to top d e in
      keeps_up_to top with_id
      (record {
        row_is = r.row_is;
        multiple = r.multiple;
        least = r.least;
        most = r.most;
        id_word = h;
        mask1_word = r.mask1_word;
        mask2_word = r.mask2_word;
        idmask_word = r.idmask_word;
        cp_bit_lem = r.cp_bit_lem;
      })
