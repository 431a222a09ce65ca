-- Laws of the masks of a device's words: which entry has which, and that all but configuration words have every bit.
use Rattle.std.specs.Prelude.{ℕ, ◌+◌, ◌<◌, ◌≡◌, eqb}
use Rattle.std.proofs.Common.{arith, sym, ap, ◌∙◌, eq-eqb, ne_eqb}
use Rattle.words.specs.Word.{erased, under_mask}
use Rattle.words.specs.LawsChoice.{pick_true, pick_false}
use Rattle.words.specs.LawsMask.{under_all}
use Rattle.device.specs.declared.Device.{Device}
use Rattle.device.specs.Memory.{mask_at, cp_word}

module _ (d : Device) (i : ℕ) where
  pub mask_one : i ≡ d.words + 7 → mask_at d i ≡ d.mask1
  unfolding mask_at
  mask_one e = pick_true (eqb i (d.words + 7)) _ _ (eq-eqb i (d.words + 7) e)

  pub mask_two : i ≡ d.words + 8 → mask_at d i ≡ d.mask2
  unfolding mask_at
  mask_two e =
      pick_false (eqb i (d.words + 7)) _ _ (ne_eqb i (d.words + 7) (λ f. omega arith))
      ∙ pick_true (eqb i (d.words + 8)) _ _ (eq-eqb i (d.words + 8) e)

  mask_all : (i ≡ d.words + 7 → ⊥) → (i ≡ d.words + 8 → ⊥) → mask_at d i ≡ erased
  unfolding mask_at
  mask_all p q =
      pick_false (eqb i (d.words + 7)) _ _ (ne_eqb i (d.words + 7) p)
      ∙ pick_false (eqb i (d.words + 8)) _ _ (ne_eqb i (d.words + 8) q)

  -- program words and user IDs, and whatever comes before the configuration words
  pub mask_plain : i < d.words + cp_word → mask_at d i ≡ erased
  mask_plain h = mask_all (λ e. omega arith) (λ e. omega arith)

  -- so that a new word there is taken whole
  pub under_plain : i < d.words + cp_word → (new old : ℕ) → under_mask (mask_at d i) new old ≡ new
  under_plain h new old = ap (λ m. under_mask m new old) (mask_plain h) ∙ under_all new old

-- ---- a new word over an old one, as the code asks for it

module _ (d : Device) (i new old : ℕ) where
  pub over_one : (r : ℕ) → r ≡ under_mask d.mask1 new old → i ≡ d.words + 7 → r ≡ under_mask (mask_at d i) new old
  over_one r e h = e ∙ ap (λ m. under_mask m new old) (sym (mask_one d i h))

  pub over_two : (r : ℕ) → r ≡ under_mask d.mask2 new old → i ≡ d.words + 8 → r ≡ under_mask (mask_at d i) new old
  over_two r e h = e ∙ ap (λ m. under_mask m new old) (sym (mask_two d i h))

  pub over_all : (i ≡ d.words + 7 → ⊥) → (i ≡ d.words + 8 → ⊥) → new ≡ under_mask (mask_at d i) new old
  over_all p q = sym (ap (λ m. under_mask m new old) (mask_all d i p q) ∙ under_all new old)
