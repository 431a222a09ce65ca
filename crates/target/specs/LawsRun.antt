-- Laws of the call for a run: what stops it before its first step, its loop over the steps, and its answer.
use Rattle.std.specs.Prelude.{ℕ, suc, ◌+◌, ◌*◌, ◌/◌, ◌%◌, ◌≤◌, ◌<◌, min, ◌≡◌, Bool, List, eqb, get_or, ltb, Result, Ok, Err}
use Rattle.std.proofs.Math.Nat.{min-le_right}
use Rattle.std.proofs.Common.{add-one, arith, ◌∙◌}
use Rattle.std.proofs.Math.Path.{refl, sym, ap}
use Rattle.std.proofs.Math.Bool.{true, false}
use Rattle.std.proofs.Math.ListN.{length}
use Rattle.std.proofs.Math.Decide.{dec_lt}
use borrow.Author.Tests.{eq-eqb, ne_eqb, lt-ltb, le-ltb}
use Rattle.words.specs.Choice.{pick}
use Rattle.words.specs.LawsChoice.{pick_false, pick_same}
use Rattle.words.specs.LawsWord.{words_long}
use Rattle.device.specs.declared.Device.{Device}
use Rattle.device.specs.Record.{device_ok}
use Rattle.refusal.specs.Refusal.{number_of}
use Rattle.refusal.specs.LawsRefusal.{number_of_unique, number_of_positive}
use Rattle.target.specs.Chip.{Chip, chip_of}
use Rattle.target.specs.Model.{code_at, payload_at, stops, turn, after}
use Rattle.target.specs.Step.{Decoded, Do, Refused, Target, place, decoded, effect, step_effect, unread, sound_cells}
use Rattle.target.specs.declared.Ran as code
use Rattle.target.specs.declared.Stopped.{Stopped}
use Rattle.target.specs.declared.Order.{Order}
use Rattle.target.specs.declared.Order.TheVariants.{LoadConfiguration, LoadData, Read, Increment, ResetAddress, Begin, BulkErase, RowErase}
use Rattle.target.specs.Run.{Ran, ran_told, entered, run_refusal, model_on, model_of, ran, answered, Runs}
use Rattle.target.specs.LawsModel.{stands, turn_done, turn_refused, after_zero, after_suc, after_stays, run_refused_first, run_takes}
use Rattle.target.specs.LawsStep.{judged, target}

-- ---- a step of the stream

pub step_is : (stream : List ℕ) (k payload : ℕ) → payload ≡ get_or stream (3 * k + 1) 0 + 256 * get_or stream (3 * k + 2) 0
    → decoded (get_or stream (3 * k) 0) payload ≡ decoded (code_at stream k) (payload_at stream k)
unfolding code_at payload_at
step_is stream k payload e = rw e

-- no step reads past the buffer
module _ (chip : Chip) (t : Target) (low : t.read ≤ length t.words) where
  order_within : (o : Order) → (effect chip o t).target.read ≤ length t.words
  unfolding effect pick
  order_within (LoadConfiguration w) = low
  order_within (LoadData w) = low
  order_within Read = by (dec_lt t.read (length t.words))
    where
      by : Dec (t.read < length t.words) → (effect chip Read t).target.read ≤ length t.words
      by (yes h) = rw (lt-ltb t.read (length t.words) h) (omega arith)
      by (no h) = rw (le-ltb t.read (length t.words) (omega arith)) low
  order_within Increment = low
  order_within ResetAddress = low
  order_within Begin = low
  order_within BulkErase = by (ltb (place t) (chip.base + chip.reading_tail)) refl
    where
      by : (b : Bool) → ltb (place t) (chip.base + chip.reading_tail) ≡ b → (effect chip BulkErase t).target.read ≤ length t.words
      by true e = rw e low
      by false e = rw e low
  order_within RowErase = low

  pub step_within : (s : Decoded) → (step_effect chip s t).target.read ≤ length t.words
  unfolding step_effect
  step_within (Do o) = order_within o
  step_within (Refused n) = low

-- ---- the code's loop

-- after so many steps of a stream, none refused, a run stands at this target
pub record Going (chip : Chip) (judges : (stream cells : List ℕ) → ℕ) (stream : List ℕ) (first : Target) (done : ℕ) (t : Target) : Type 0 where
  pub at : after (model_on chip judges) stream (stands first 0 0) done ≡ stands t done 0

-- a run of so many steps that nothing stops before the first: its answer, and the target afterwards
pub record Goes (chip : Chip) (judges : (stream cells : List ℕ) → ℕ) (stream : List ℕ) (steps : ℕ) (first : Target) (a : Ran) (t : Target) : Type 0 where
  pub answers : a ≡ answered (after (model_on chip judges) stream (stands first 0 0) steps)
  pub left : t ≡ (after (model_on chip judges) stream (stands first 0 0) steps).target

module _ (chip : Chip) (judges : (stream cells : List ℕ) → ℕ) (stream : List ℕ) (first : Target) where
  -- a run that stands so after its steps answers so
  goes_to : (steps : ℕ) (t : Target) (done number : ℕ) → after (model_on chip judges) stream (stands first 0 0) steps ≡ stands t done number
      → (a : Ran) → a ≡ answered (stands t done number) → Goes chip judges stream steps first a t
  goes_to steps t done number e a f = record { answers = f ∙ ap answered (sym e); left = ap (λ x. x.target) (sym e) }

  pub going_none : Going chip judges stream first 0 first
  going_none = record { at = after_zero (model_on chip judges) stream (stands first 0 0) }

  module _ (done : ℕ) (t : Target) (so : Going chip judges stream first done t) (number : ℕ) (t' : Target)
      (e : stops number t' ≡ step_effect chip (decoded (code_at stream done) (payload_at stream done)) t) where
    pub going_more : number ≡ 0 → Going chip judges stream first (done + 1) t'
    going_more z =
        record {
          at = ap (after (model_on chip judges) stream (stands first 0 0)) (add-one done)
              ∙ (after_suc (model_on chip judges) stream (stands first 0 0) done
              ∙ (ap (turn (model_on chip judges) stream) so.at
              ∙ turn_done (model_on chip judges) stream t t' done (sym e ∙ ap (λ n. stops n t') z)));
        }

    pub going_stops : (number ≡ 0 → ⊥) → (steps : ℕ) → done < steps → Goes chip judges stream steps first (record { number = number; steps = done; words = 0 }) t'
    going_stops h steps p = goes_to steps t' done number whole _ named
      where
        named : record { number = number; steps = done; words = 0 } ≡ answered (stands t' done number)
        named = unfold answered in ap (λ w. record { number = number; steps = done; words = w }) (sym (pick_false (eqb number 0) t'.read 0 (ne_eqb number 0 h)))

        stop : turn (model_on chip judges) stream (stands t done 0) ≡ stands t' done number
        stop = turn_refused (model_on chip judges) stream t t' done number (sym e) h

        whole : after (model_on chip judges) stream (stands first 0 0) steps ≡ stands t' done number
        whole =
            after_stays (model_on chip judges) stream (stands first 0 0) (stands t' done number) (suc done) steps
            (after_suc (model_on chip judges) stream (stands first 0 0) done ∙ (ap (turn (model_on chip judges) stream) so.at ∙ stop)) h p

  pub going_ends : (done : ℕ) (t : Target) → Going chip judges stream first done t → (steps : ℕ) → done ≡ steps
      → Goes chip judges stream steps first (record { number = 0; steps = steps; words = t.read }) t
  going_ends done t so steps e = rw (← e) (goes_to done t done 0 so.at _ (unfold answered pick in refl))

-- ---- the call

pub enough : (a n : ℕ) → 3 * min a (n / 3) ≤ n
enough a n = let m : min a (n / 3) ≤ n / 3 = min-le_right a (n / 3) in omega arith

pub cells_long : (chip : Chip) (cells : List ℕ) → sound_cells chip cells ≡ true → length cells ≡ chip.words + chip.cells_tail
unfolding sound_cells
cells_long chip cells e = words_long (chip.words + chip.cells_tail) cells e

module _ (d : Device) (stream cells : List ℕ) where
  pub before_13 : device_ok d ≡ false → 13 ≡ run_refusal d stream cells
  unfolding run_refusal pick
  before_13 f = rw f

  pub before_32 : device_ok d ≡ true → sound_cells (chip_of d) cells ≡ false → 32 ≡ run_refusal d stream cells
  unfolding run_refusal pick
  before_32 t f = rw (t, f)

  pub before_34 : device_ok d ≡ true → sound_cells (chip_of d) cells ≡ true → (length stream % 3 ≡ 0 → ⊥) → 34 ≡ run_refusal d stream cells
  unfolding run_refusal pick
  before_34 t s h = rw (t, s, ne_eqb (length stream % 3) 0 h)

  pub before_none : device_ok d ≡ true → sound_cells (chip_of d) cells ≡ true → length stream % 3 ≡ 0 → 0 ≡ run_refusal d stream cells
  unfolding run_refusal pick
  before_none t s h = rw (t, s, eq-eqb (length stream % 3) 0 h)

  -- a run that no step is done on
  pub before_judged : (n : ℕ) → n ≡ judged d cells → 0 < n → n ≡ run_refusal d stream cells
  unfolding run_refusal judged pick
  before_judged n e h = by (device_ok d) (sound_cells (chip_of d) cells) e
    where
      by : (a b : Bool) → n ≡ pick a (pick b 0 32) 13 → n ≡ pick a (pick b (pick (eqb (length stream % 3) 0) 0 34) 32) 13
      by true true q = absurd (omega arith)
      by true false q = q
      by false b q = q

  -- what no refusal tells
  pub before_sound : run_refusal d stream cells ≡ 0 → (device_ok d ≡ true) × (sound_cells (chip_of d) cells ≡ true)
  unfolding run_refusal pick
  before_sound e = by (device_ok d) (sound_cells (chip_of d) cells) e
    where
      by : (a b : Bool) → pick {A = ℕ} a (pick b (pick (eqb (length stream % 3) 0) 0 34) 32) 13 ≡ 0 → (a ≡ true) × (b ≡ true)
      by true true q = (refl, refl)
      by true false q = absurd (omega arith)
      by false b q = absurd (omega arith)

module _ (d : Device) (stream : List ℕ) (allowance : ℕ) (words cells : List ℕ) where
  pub run_refused : (n : ℕ) → n ≡ run_refusal d stream cells → (n ≡ 0 → ⊥) → Runs d stream allowance words cells (record { number = n; steps = 0; words = 0 }) words cells
  unfolding ran
  run_refused n e h = record { answers = named ∙ ap answered (sym whole); words_read = ap (λ x. x.target.words) (sym whole); cells_left = ap (λ x. x.target.cells) (sym whole) }
    where
      whole : ran d stream allowance cells words ≡ stands (target (entered (chip_of d)) 0 words cells) 0 n
      whole = unfold unread in run_refused_first (model_of d) stream allowance n cells words (sym e) h

      named : record { number = n; steps = 0; words = 0 } ≡ answered (stands (target (entered (chip_of d)) 0 words cells) 0 n)
      named = unfold answered in ap (λ w. record { number = n; steps = 0; words = w }) (sym (pick_same (eqb n 0) 0))

  pub run_goes : (n steps : ℕ) → n ≡ run_refusal d stream cells → n ≡ 0 → steps ≡ min allowance (length stream / 3)
      → (a : Ran) (t : Target) → Goes (chip_of d) (run_refusal d) stream steps (target (entered (chip_of d)) 0 words cells) a t
      → (words' cells' : List ℕ) → words' ≡ t.words → cells' ≡ t.cells → Runs d stream allowance words cells a words' cells'
  run_goes n steps e z s a t g words' cells' p q =
      record { answers = g.answers ∙ ap answered whole; words_read = p ∙ ap (λ x. x.words) left; cells_left = q ∙ ap (λ x. x.cells) left }
    where
      whole : after (model_of d) stream (stands (target (entered (chip_of d)) 0 words cells) 0 0) steps ≡ ran d stream allowance cells words
      whole = unfold ran unread in sym (run_takes (model_of d) stream allowance steps cells words (sym e ∙ z) (sym s))

      left : t ≡ (ran d stream allowance cells words).target
      left = g.left ∙ ap (λ x. x.target) whole

  -- the same, asked of the board's own device
  pub run_goes_on : 0 ≡ run_refusal d stream cells → (own : Device) → own ≡ d → (steps : ℕ) → steps ≡ min allowance (length stream / 3)
      → (a : Ran) (t : Target) → Goes (chip_of own) (run_refusal own) stream steps (target (entered (chip_of own)) 0 words cells) a t
      → (words' cells' : List ℕ) → words' ≡ t.words → cells' ≡ t.cells → Runs d stream allowance words cells a words' cells'
  run_goes_on z own same steps s a t g words' cells' p q = run_goes 0 steps z refl s a t (rw same at g) words' cells' p q

-- ---- two answers that are told alike are one

pub ran_unique : (a b : Result code.Ran Stopped) → ran_told a ≡ ran_told b → a ≡ b
ran_unique (Ok x) (Ok y) e = λ i. Ok (record { steps = (e i).steps; words = (e i).words })
ran_unique (Ok x) (Err t) e = absurd (let z : 0 ≡ number_of t.refusal = ap (λ r. r.number) e in omega (arith, number_of_positive t.refusal))
ran_unique (Err s) (Ok y) e = absurd (let z : number_of s.refusal ≡ 0 = ap (λ r. r.number) e in omega (arith, number_of_positive s.refusal))
ran_unique (Err s) (Err t) e = λ i. Err (record { refusal = number_of_unique s.refusal t.refusal (ap (λ r. r.number) e) i; steps = (e i).steps })
