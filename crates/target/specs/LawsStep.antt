-- Laws of a step: what the code's parts leave, put together, and the call for a single step.
use Rattle.std.specs.Prelude.{ℕ, zero, suc, ◌≤◌, ◌<◌, ◌≡◌, Bool, true, false, List, length, get_or, take}
use Rattle.std.proofs.Math.Path.{refl}
use Rattle.std.proofs.Common.{sym, ap, ◌∙◌, arith, eq-eqb, length-take-le}
use Rattle.std.proofs.lemmas.List.{get_or-take}
use Rattle.words.specs.Choice.{pick, unless}
use Rattle.words.specs.Word.{is_word, words_of}
use Rattle.words.specs.Lists.{every}
use Rattle.words.specs.LawsLists.{every_all, every_no}
use Rattle.words.specs.LawsWord.{is_word_lem, not_word}
use Rattle.device.specs.declared.Device.{Device}
use Rattle.device.specs.Record.{device_ok, record_number}
use Rattle.target.specs.Chip.{Chip, chip_of}
use Rattle.target.specs.Model.{Effect, stops}
use Rattle.target.specs.Step.{Decoded, Do, Refused, Target, decoded, effect, step_effect, sound_cells, sound_latches, stepped, unread, Steps}
use Rattle.target.specs.declared.Order.{Order}
use Rattle.target.specs.declared.Registers.{Registers}

-- ---- results

-- a target of its parts
abbrev pub target : Registers → (read : ℕ) → (words cells : List ℕ) → Target
target r read words cells = record { registers = r; cells = cells; words = words; read = read }

-- ---- a step that is no order is refused, any other is its order

module _ (chip : Chip) (s : Decoded) (t : Target) where
  pub step_refused : (x : Decoded) (n : ℕ) → x ≡ s → x ≡ Refused n → stops n t ≡ step_effect chip s t
  unfolding step_effect
  step_refused x n q p = rw (← q, p)

  pub step_does : (x : Decoded) (o : Order) → x ≡ s → x ≡ Do o → step_effect chip s t ≡ effect chip o t
  unfolding step_effect
  step_does x o q p = rw (← q, p)

-- ---- the latches that count

module _ (chip : Chip) (latches : List ℕ) where
  pub latches_ok : ((i : ℕ) → i < chip.group → get_or latches i 0 < 0x4000) → sound_latches chip latches ≡ true
  unfolding sound_latches
  latches_ok h = every_all chip.group (λ i. is_word (get_or latches i 0)) (λ i p. is_word_lem (get_or latches i 0) (h i p))

  pub latch_high : (i : ℕ) → i < chip.group → 0x4000 ≤ get_or latches i 0 → sound_latches chip latches ≡ false
  unfolding sound_latches
  latch_high i p h = every_no chip.group (λ i. is_word (get_or latches i 0)) i p (not_word (get_or latches i 0) h)

-- the same, asked of the first latches as a list
every_taken : (l : List ℕ) (m n : ℕ) → n ≤ m → every n (λ i. is_word (get_or (take m l) i 0)) ≡ every n (λ i. is_word (get_or l i 0))
unfolding every
every_taken l m zero h = refl
every_taken l m (suc n) h = rw (every_taken l m n (omega arith), get_or-take m l n 0 (omega arith))

pub sound_taken : (chip : Chip) (latches : List ℕ) → chip.group ≤ length latches → words_of chip.group (take chip.group latches) ≡ sound_latches chip latches
unfolding sound_latches words_of
sound_taken chip latches h = rw (eq-eqb (length (take chip.group latches)) chip.group (length-take-le _ _ h), every_taken latches chip.group chip.group (omega arith))

-- ---- the call for a single step

-- what no step is done on
unfoldable pub judged : Device → (cells : List ℕ) → ℕ
judged d cells = unless (device_ok d) 13 (unless (sound_cells (chip_of d) cells) 32 0)

pub judged_sound : (d : Device) (cells : List ℕ) → judged d cells ≡ 0 → (device_ok d ≡ true) × (sound_cells (chip_of d) cells ≡ true)
unfolding judged pick
judged_sound d cells e = by (device_ok d) (sound_cells (chip_of d) cells) e
  where
    by : (a b : Bool) → pick {A = ℕ} a (pick b 0 32) 13 ≡ 0 → (a ≡ true) × (b ≡ true)
    by true true q = (refl, refl)
    by true false q = absurd (omega arith)
    by false b q = absurd (omega arith)

-- the record is refused first
pub judged_record : (d : Device) (cells : List ℕ) (n : ℕ) → n ≡ record_number d → 0 < n → n ≡ judged d cells
unfolding judged record_number pick
judged_record d cells n e h = by (device_ok d) e
  where
    by : (a : Bool) → n ≡ pick a 0 13 → n ≡ pick a (pick (sound_cells (chip_of d) cells) 0 32) 13
    by true q = absurd (omega arith)
    by false q = q

pub judged_13 : (d : Device) (cells : List ℕ) → device_ok d ≡ false → 13 ≡ judged d cells
unfolding judged pick
judged_13 d cells f = rw f

pub judged_32 : (d : Device) (cells : List ℕ) → device_ok d ≡ true → sound_cells (chip_of d) cells ≡ false → 32 ≡ judged d cells
unfolding judged pick
judged_32 d cells t f = rw (t, f)

pub judged_good : (d : Device) (cells : List ℕ) → device_ok d ≡ true → sound_cells (chip_of d) cells ≡ true → 0 ≡ judged d cells
unfolding judged pick
judged_good d cells t s = rw (t, s)

module _ (d : Device) (r : Registers) (code payload : ℕ) (words cells : List ℕ) where
  -- a call whose effect is known
  pub steps_so : (e : Effect Target) → stepped d code payload (unread r cells words) ≡ e → Steps d r code payload words cells e.number e.target.registers e.target.words e.target.cells
  steps_so e s =
      record {
        answers = sym (ap (λ x. x.number) s);
        registers = sym (ap (λ x. x.target.registers) s);
        words_read = sym (ap (λ x. x.target.words) s);
        cells_left = sym (ap (λ x. x.target.cells) s);
      }

  pub steps_13 : device_ok d ≡ false → Steps d r code payload words cells 13 r words cells
  steps_13 f = steps_so (stops 13 (target r 0 words cells)) (unfold stepped unread pick in rw f)

  pub steps_32_cells : device_ok d ≡ true → sound_cells (chip_of d) cells ≡ false → Steps d r code payload words cells 32 r words cells
  steps_32_cells t f = steps_so (stops 32 (target r 0 words cells)) (unfold stepped unread pick in rw (t, f))

  pub steps_32_latches : device_ok d ≡ true → sound_cells (chip_of d) cells ≡ true → sound_latches (chip_of d) r.latches ≡ false → Steps d r code payload words cells 32 r words cells
  steps_32_latches t s f = steps_so (stops 32 (target r 0 words cells)) (unfold stepped unread pick in rw (t, s, f))

  pub steps_judged : (n : ℕ) → n ≡ judged d cells → 0 < n → Steps d r code payload words cells n r words cells
  unfolding judged pick
  steps_judged n e h = by (device_ok d) (sound_cells (chip_of d) cells) refl refl e
    where
      by : (a b : Bool) → device_ok d ≡ a → sound_cells (chip_of d) cells ≡ b → n ≡ pick a (pick b 0 32) 13 → Steps d r code payload words cells n r words cells
      by true true p q f = absurd (omega arith)
      by true false p q f = rw f (steps_32_cells p q)
      by false b p q f = rw f (steps_13 p)

  module _ (t : device_ok d ≡ true) (s : sound_cells (chip_of d) cells ≡ true) (l : sound_latches (chip_of d) r.latches ≡ true) where
    -- a call that is not refused at once does what its step does
    pub stepped_on : stepped d code payload (unread r cells words) ≡ step_effect (chip_of d) (decoded code payload) (target r 0 words cells)
    unfolding stepped unread pick
    stepped_on = rw (t, s, l)

  -- the same, asked of the board's own device
  module _ (j : judged d cells ≡ 0) (own : Device) (same : own ≡ d) where
    pub steps_latches : sound_latches (chip_of own) r.latches ≡ false → Steps d r code payload words cells 32 r words cells
    steps_latches f = let s = judged_sound d cells j in steps_32_latches s.0 s.1 (rw (← same) f)

    pub steps_on : sound_latches (chip_of own) r.latches ≡ true → (number : ℕ) (t' : Target) → stops number t' ≡ step_effect (chip_of own) (decoded code payload) (target r 0 words cells)
        → (r' : Registers) (words' cells' : List ℕ) → r' ≡ t'.registers → words' ≡ t'.words → cells' ≡ t'.cells → Steps d r code payload words cells number r' words' cells'
    steps_on l number t' e r' words' cells' o p q =
        let s = judged_sound d cells j in
        rw (o, p, q) (steps_so (stops number t') (stepped_on s.0 s.1 (rw (← same) l) ∙ (rw (← same) (sym e))))
