-- What every step keeps, for any chip: cells and latches that are sound, the target where it is refused, and the buffer but for the word that it reads.
use Rattle.std.specs.Prelude.{ℕ, ◌+◌, ◌/◌, ◌%◌, ◌≤◌, ◌<◌, ◌≡◌, Bool, true, List, leb, eqb, length, get_or, set, replicate}
use Rattle.std.proofs.Common.{add-zero, sym, ap, ◌∙◌, get_or-set_same, get_or-set_other}
use native.Mathlib.Omega.{arith}
use Rattle.std.proofs.Math.Decide.{dec_lt, ℕ_discrete}
use Rattle.std.proofs.Math.Path.{refl}
use Rattle.std.proofs.Math.Bool.{false}
use Rattle.std.proofs.Math.Dec.{ltb}
use Rattle.std.proofs.Math.ListN.{length-set}
use Rattle.std.proofs.lemmas.List.{get_or-replicate}
use Rattle.std.proofs.Math.Seq.{set_out}
use borrow.Author.Tests.{lt-ltb, le-ltb, ne_eqb, leb-true}
use Rattle.words.specs.Choice.{pick}
use Rattle.words.specs.Word.{erased, is_word}
use Rattle.words.specs.LawsChoice.{pick_false, second_holds}
use Rattle.words.specs.LawsLists.{every_at}
use Rattle.words.specs.LawsWord.{word_lt, words_long, words_each, words_of_lem}
use Rattle.device.specs.declared.Device.{Device}
use Rattle.device.specs.Record.{device_ok}
use Rattle.target.specs.Chip.{Chip, chip_of}
use Rattle.target.specs.Effects.{blank, word_read}
use Rattle.target.specs.Model.{Effect, done, stops}
use Rattle.target.specs.Step.{Decoded, Do, Refused, Target, place, load_ok, load, plain, decoded, effect, step_effect, sound_cells, sound_latches, stepped, unread, Steps}
use Rattle.target.specs.LawsChip.{SoundChip, Burning}
use Rattle.target.specs.LawsStep.{latches_ok, target}
use Rattle.target.specs.LawsStream.{FitsOrder}
use Rattle.target.specs.LawsKept.{length_after, fits_after}
use Rattle.target.specs.declared.Registers.{Registers}
use Rattle.target.specs.declared.Order.{Order}
use Rattle.target.specs.declared.Order.TheVariants.{LoadConfiguration, LoadData, Read, Increment, ResetAddress, Begin, BulkErase, RowErase}
use Rattle.target.specs.Calls.{read_count}

either : {A : Type 0} (P : A → Type 0) (b : Bool) (x y : A) → P x → P y → P (pick b x y)
unfolding pick
either P true x y p q = p
either P false x y p q = q

-- a load of a stream has 14 bits
abbrev pub Fits : Decoded → Type 0
Fits (Do o) = FitsOrder o
Fits (Refused n) = Unit

pub decoded_fits : (code payload : ℕ) → Fits (decoded code payload)
unfolding decoded plain
decoded_fits code payload =
    either Fits _ _ _ (loads (LoadConfiguration (payload / 2)) (λ h. h)) (either Fits _ _ _ (loads (LoadData (payload / 2)) (λ h. h))
    (either Fits _ _ _ (either Fits _ _ _ tt tt) (either Fits _ _ _ (either Fits _ _ _ tt tt) (either Fits _ _ _ (either Fits _ _ _ tt tt)
    (either Fits _ _ _ (either Fits _ _ _ tt tt) (either Fits _ _ _ (either Fits _ _ _ tt tt) (either Fits _ _ _ (either Fits _ _ _ tt tt) tt)))))))
  where
    half : load_ok payload ≡ true → payload / 2 < 0x4000
    half e = let h : payload ≤ 0x7ffe = leb-true payload 0x7ffe (unfold load_ok in second_holds (eqb (payload % 2) 0) (leb payload 0x7ffe) e) in omega arith

    loads : (o : Order) → (payload / 2 < 0x4000 → FitsOrder o) → Fits (load payload o)
    loads o f = by (load_ok payload) refl
      where
        by : (b : Bool) → load_ok payload ≡ b → Fits (load payload o)
        by true e = unfold load pick in rw e (f (half e))
        by false e = unfold load pick in rw e tt

module _ (chip : Chip) where
  latch_each : (latches : List ℕ) → sound_latches chip latches ≡ true → (i : ℕ) → i < chip.group → get_or latches i 0 < 0x4000
  unfolding sound_latches
  latch_each latches e i h = word_lt (get_or latches i 0) (every_at chip.group (λ k. is_word (get_or latches k 0)) e i h)

  latch_set : (latches : List ℕ) (at w : ℕ) → w < 0x4000 → sound_latches chip latches ≡ true → sound_latches chip (set latches at w) ≡ true
  latch_set latches at w h e = latches_ok chip (set latches at w) (λ i p. by i p (ℕ_discrete i at) (dec_lt at (length latches)))
    where
      by : (i : ℕ) → i < chip.group → Dec (i ≡ at) → Dec (at < length latches) → get_or (set latches at w) i 0 < 0x4000
      by i p (yes q) (yes k) = rw (q, get_or-set_same latches at w 0 k) h
      by i p (yes q) (no k) = rw (set_out latches at w (omega arith)) (latch_each latches e i p)
      by i p (no q) k = rw (get_or-set_other latches at i w 0 q) (latch_each latches e i p)

  pub latch_blank : SoundChip chip → sound_latches chip (blank chip) ≡ true
  unfolding blank
  latch_blank s = latches_ok chip (replicate chip.places erased) (λ i p. rw (get_or-replicate chip.places i erased 0 (omega (arith, s.carried))) (omega arith))

  module _ (s : SoundChip chip) (t : Target) where
    order_latches : (o : Order) → FitsOrder o → sound_latches chip t.registers.latches ≡ true → sound_latches chip (effect chip o t).target.registers.latches ≡ true
    unfolding effect
    order_latches (LoadConfiguration w) f e = latch_set t.registers.latches 0 w f e
    order_latches (LoadData w) f e = latch_set t.registers.latches _ w f e
    order_latches Read f e = either (λ (x : Effect Target). sound_latches chip x.target.registers.latches ≡ true) _ _ _ e e
    order_latches Increment f e = e
    order_latches ResetAddress f e = either (λ l. sound_latches chip l ≡ true) _ _ _ (latch_blank s) e
    order_latches Begin f e = latch_blank s
    order_latches BulkErase f e = either (λ (x : Effect Target). sound_latches chip x.target.registers.latches ≡ true) _ _ _ e e
    order_latches RowErase f e = e

    -- latches stay sound
    pub latches_stay : (c : Decoded) → Fits c → sound_latches chip t.registers.latches ≡ true → sound_latches chip (step_effect chip c t).target.registers.latches ≡ true
    unfolding step_effect
    latches_stay (Do o) f e = order_latches o f e
    latches_stay (Refused n) f e = e

  -- cells do, whatever the latches are
  module _ (b : Burning chip) (t : Target) where
    order_cells : (o : Order) → sound_cells chip t.cells ≡ true → sound_cells chip (effect chip o t).target.cells ≡ true
    unfolding sound_cells
    order_cells o e =
        words_of_lem (chip.words + chip.cells_tail) (effect chip o t).target.cells (length_after chip o t ∙ words_long (chip.words + chip.cells_tail) t.cells e)
        (λ i p. fits_after chip b o t (words_each (chip.words + chip.cells_tail) t.cells e) i)

    pub cells_stay : (c : Decoded) → sound_cells chip t.cells ≡ true → sound_cells chip (step_effect chip c t).target.cells ≡ true
    unfolding step_effect
    cells_stay (Do o) e = order_cells o e
    cells_stay (Refused n) e = e

-- a step that is refused leaves the target
refused_so : (b : Bool) (n : ℕ) (t u : Target) → ((pick b (done u) (stops n t)).number ≡ 0 → ⊥) → pick b (done u) (stops n t) ≡ stops (pick b (done u) (stops n t)).number t
unfolding pick
refused_so true n t u h = absurd (h refl)
refused_so false n t u h = refl

module _ (chip : Chip) (t : Target) where
  order_refused : (o : Order) → ((effect chip o t).number ≡ 0 → ⊥) → effect chip o t ≡ stops (effect chip o t).number t
  unfolding effect
  order_refused (LoadConfiguration w) h = absurd (h refl)
  order_refused (LoadData w) h = absurd (h refl)
  order_refused Read h = refused_so _ _ _ _ h
  order_refused Increment h = absurd (h refl)
  order_refused ResetAddress h = absurd (h refl)
  order_refused Begin h = absurd (h refl)
  order_refused BulkErase h = refused_so _ _ _ _ h
  order_refused RowErase h = absurd (h refl)

  pub refused_stays : (c : Decoded) → ((step_effect chip c t).number ≡ 0 → ⊥) → step_effect chip c t ≡ stops (step_effect chip c t).number t
  unfolding step_effect
  refused_stays (Do o) h = order_refused o h
  refused_stays (Refused n) h = refl

-- a call that is refused leaves the registers
module _ (d : Device) (code payload : ℕ) (t : Target) where
  call_stays : ((stepped d code payload t).number ≡ 0 → ⊥) → (stepped d code payload t).target ≡ t
  unfolding stepped pick
  call_stays = by (device_ok d) (sound_cells (chip_of d) t.cells) (sound_latches (chip_of d) t.registers.latches)
    where
      by : (a b c : Bool) → ((pick a (pick b (pick c (step_effect (chip_of d) (decoded code payload) t) (stops 32 t)) (stops 32 t)) (stops 13 t)).number ≡ 0 → ⊥)
          → (pick a (pick b (pick c (step_effect (chip_of d) (decoded code payload) t) (stops 32 t)) (stops 32 t)) (stops 13 t)).target ≡ t
      by true true true h = ap (λ e. e.target) (refused_stays (chip_of d) t (decoded code payload) h)
      by true true false h = refl
      by true false c h = refl
      by false b c h = refl

module _ {d : Device} {r : Registers} {code payload : ℕ} {words cells : List ℕ} {n : ℕ} {r' : Registers} {words' cells' : List ℕ} (s : Steps d r code payload words cells n r' words' cells') where
  pub steps_stay : 0 < n → r' ≡ r
  unfolding unread
  steps_stay h = s.registers ∙ ap (λ t. t.registers) (call_stays d code payload (target r 0 words cells) (λ z. let e : n ≡ 0 = s.answers ∙ z in omega arith))

  pub steps_back : 0 < n → Steps d r code payload words cells n r words' cells'
  steps_back h = record { answers = s.answers; registers = sym (steps_stay h) ∙ s.registers; words_read = s.words_read; cells_left = s.cells_left }

-- ---- the words that a step reads

-- an order reads so many, where it is not refused
abbrev pub counts : Order → ℕ
counts (LoadConfiguration w) = 0
counts (LoadData w) = 0
counts Read = 1
counts Increment = 0
counts ResetAddress = 0
counts Begin = 0
counts BulkErase = 0
counts RowErase = 0

abbrev pub Counts : ℕ → Decoded → Type 0
Counts n (Do o) = counts o ≡ n
Counts n (Refused m) = m ≡ 0 → ⊥

untaken : {A : Type 0} (P : A → Type 0) (x y : A) → P y → P (pick false x y)
unfolding pick
untaken P x y p = p

pub decoded_counts : (code payload : ℕ) → Counts (read_count code) (decoded code payload)
decoded_counts code payload = by (ℕ_discrete code 0x04)
  where
    refused : ◌≡◌ {A = ℕ} 31 0 → ⊥
    refused q = omega arith

    loads : (o : Order) → counts o ≡ 0 → Counts 0 (load payload o)
    loads o e = unfold load in either (Counts 0) _ _ _ e refused

    plains : (o : Order) (n : ℕ) → counts o ≡ n → Counts n (plain payload o)
    plains o n e = unfold plain in either (Counts n) _ _ _ e refused

    one : Counts (read_count 0x04) (decoded 0x04 payload)
    one = unfold read_count decoded pick in plains Read 1 refl

    other : eqb code 0x04 ≡ false → Counts 0 (decoded code payload)
    other e =
        unfold decoded in
        rw e
        (either (Counts 0) _ _ _ (loads _ refl) (either (Counts 0) _ _ _ (loads _ refl) (untaken (Counts 0) _ _
        (either (Counts 0) _ _ _ (plains Increment 0 refl) (either (Counts 0) _ _ _ (plains ResetAddress 0 refl) (either (Counts 0) _ _ _ (plains Begin 0 refl)
        (either (Counts 0) _ _ _ (plains BulkErase 0 refl) (either (Counts 0) _ _ _ (plains RowErase 0 refl) (λ q. omega arith)))))))))

    by : Dec (code ≡ 0x04) → Counts (read_count code) (decoded code payload)
    by (yes e) = rw e one
    by (no e) = let none : read_count code ≡ 0 = (unfold read_count in pick_false (eqb code 0x04) 1 0 (ne_eqb code 0x04 e)) in rw none (other (ne_eqb code 0x04 e))

-- the buffer keeps its length, the words read are within it, and they are as many more as the step reads
pub record Reads (t u : Target) (n : ℕ) : Type 0 where
  pub long : length u.words ≡ length t.words
  pub within : u.read ≤ length t.words
  pub more : u.read ≡ t.read + n

module _ (chip : Chip) (t : Target) (low : t.read ≤ length t.words) where
  one_read : Dec (t.read < length t.words) → (effect chip Read t).number ≡ 0 → Reads t (effect chip Read t).target 1
  unfolding effect pick
  one_read (yes h) z = rw (lt-ltb t.read (length t.words) h) (record { long = length-set t.words t.read (word_read chip (place t) t.cells); within = omega arith; more = refl })
  one_read (no h) z = let none : ltb t.read (length t.words) ≡ false = le-ltb t.read (length t.words) (omega arith) in absurd (let q : 35 ≡ 0 = (rw none at z) in omega arith)

  silent : (u : Target) → u.words ≡ t.words → u.read ≡ t.read → Reads t u 0
  silent u e f = record { long = ap length e; within = rw f low; more = f ∙ sym (add-zero t.read) }

  order_reads : (o : Order) → (effect chip o t).number ≡ 0 → Reads t (effect chip o t).target (counts o)
  unfolding effect
  order_reads (LoadConfiguration w) z = silent _ refl refl
  order_reads (LoadData w) z = silent _ refl refl
  order_reads Read z = one_read (dec_lt t.read (length t.words)) z
  order_reads Increment z = silent _ refl refl
  order_reads ResetAddress z = silent _ refl refl
  order_reads Begin z = silent _ refl refl
  order_reads BulkErase z = either (λ (x : Effect Target). Reads t x.target 0) _ _ _ (silent _ refl refl) (silent t refl refl)
  order_reads RowErase z = silent _ refl refl

  pub step_reads : (c : Decoded) (n : ℕ) → Counts n c → (step_effect chip c t).number ≡ 0 → Reads t (step_effect chip c t).target n
  unfolding step_effect
  step_reads (Do o) n e z = rw (← e) (order_reads o z)
  step_reads (Refused m) n e z = absurd (e z)
