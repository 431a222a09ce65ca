-- A run equals that many single steps: what the call for a run promises is what that many calls for a single step promise.
use Rattle.std.specs.Prelude.{ℕ, zero, suc, ◌+◌, ◌/◌, ◌≤◌, ◌<◌, min, ◌≡◌, true, List, [], ◌∷◌, ◌++◌, set, take, drop}
use Rattle.std.proofs.Common.{add_assoc, zero-add, suc-add, add-one, arith, ap, ◌∙◌, append_assoc, length-append, length-take, take-append-drop}
use Rattle.std.proofs.Math.Nat.{add-zero, min-eq_left}
use Rattle.std.proofs.Math.Decide.{dec_lt, ℕ_discrete}
use Rattle.std.proofs.Math.Path.{refl, sym}
use Rattle.std.proofs.Math.ListN.{length}
use borrow.Author.Tests.{lt-ltb, le-ltb}
use Rattle.words.specs.Choice.{pick}
use Rattle.words.specs.LawsChoice.{pick_map}
use Rattle.device.specs.declared.Device.{Device}
use Rattle.device.specs.Record.{device_ok}
use Rattle.device.specs.LawsRecord.{rules_lem}
use Rattle.target.specs.Chip.{Chip, chip_of}
use Rattle.target.specs.Effects.{word_read}
use Rattle.target.specs.Model.{Effect, done, stops, code_at, payload_at, Run, turn, after}
use Rattle.target.specs.Step.{Decoded, Do, Refused, Target, place, decoded, effect, step_effect, sound_cells, sound_latches, stepped, unread, Steps}
use Rattle.target.specs.Run.{Ran, entered, run_refusal, model_of, ran, answered, Runs}
use Rattle.target.specs.LawsChip.{sound_chip, burning}
use Rattle.target.specs.LawsStep.{target, steps_so, stepped_on}
use Rattle.target.specs.LawsModel.{stands, turn_done, turn_refused, turn_stays, after_zero, after_suc, run_takes}
use Rattle.target.specs.LawsRun.{before_sound}
use Rattle.target.specs.declared.Order.{Order}
use Rattle.target.specs.declared.Order.TheVariants.{LoadConfiguration, LoadData, Read, Increment, ResetAddress, Begin, BulkErase, RowErase}
use Rattle.target.specs.declared.Registers.{Registers}
use Rattle.target.specs.Calls.{read_count, Calls, none, next, SameCalls}
use Rattle.target.specs.LawsSound.{latch_blank, decoded_fits, latches_stay, cells_stay, refused_stays, Reads, decoded_counts, step_reads}

-- ---- a target with words in front of those that it has

abbrev pub behind : List ℕ → Target → Target
behind front t = target t.registers (length front + t.read) (front ++ t.words) t.cells

abbrev pub lifted : List ℕ → Effect Target → Effect Target
lifted front e = stops e.number (behind front e.target)

set_behind : (front l : List ℕ) (i w : ℕ) → set (front ++ l) (length front + i) w ≡ front ++ set l i w
set_behind [] l i w = ap (λ k. set l k w) (zero-add i)
set_behind (x ∷ front) l i w = ap (λ k. set (x ∷ (front ++ l)) k w) (suc-add (length front) i) ∙ ap (λ t. x ∷ t) (set_behind front l i w)

-- an order does not see them
module _ (chip : Chip) (front : List ℕ) (t : Target) where
  read_behind : Dec (t.read < length t.words) → effect chip Read (behind front t) ≡ lifted front (effect chip Read t)
  unfolding effect pick
  read_behind (yes h) =
      let room : length front + t.read < length (front ++ t.words) = rw (length-append front t.words) (omega arith) in
      rw (lt-ltb t.read (length t.words) h, lt-ltb (length front + t.read) (length (front ++ t.words)) room)
      (λ i. done (target t.registers (add_assoc (length front) t.read 1 i) (set_behind front t.words t.read (word_read chip (place t) t.cells) i) t.cells))
  read_behind (no h) =
      let none : length (front ++ t.words) ≤ length front + t.read = rw (length-append front t.words) (omega arith) in
      rw (le-ltb t.read (length t.words) (omega arith), le-ltb (length front + t.read) (length (front ++ t.words)) none)

  order_behind : (o : Order) → effect chip o (behind front t) ≡ lifted front (effect chip o t)
  unfolding effect
  order_behind (LoadConfiguration w) = refl
  order_behind (LoadData w) = refl
  order_behind Read = read_behind (dec_lt t.read (length t.words))
  order_behind Increment = refl
  order_behind ResetAddress = refl
  order_behind Begin = refl
  order_behind BulkErase = sym (pick_map (lifted front) _ _ _)
  order_behind RowErase = refl

  step_behind : (s : Decoded) → step_effect chip s (behind front t) ≡ lifted front (step_effect chip s t)
  unfolding step_effect
  step_behind (Do o) = order_behind o
  step_behind (Refused n) = refl

-- the step of a run that has read some words is the call for that step on the words from the next place on
pub single_step : (d : Device) → device_ok d ≡ true → (code payload : ℕ) (r : Registers) (c got left : List ℕ) → sound_cells (chip_of d) c ≡ true → sound_latches (chip_of d) r.latches ≡ true
    → (model_of d).step code payload (behind got (target r 0 left c)) ≡ lifted got (stepped d code payload (unread r c left))
single_step d ok code payload r c got left s l =
    step_behind (chip_of d) got (target r 0 left c) (decoded code payload) ∙ ap (lifted got) (sym (stepped_on d r code payload left c ok s l))

-- ---- turn by turn

-- after k turns, none refused, a run stands where that many calls lead
record Called (d : Device) (stream cells words : List ℕ) (k : ℕ) (r : Registers) (c got left : List ℕ) : Type 0 where
  pub calls : Calls d stream cells words k r c got left
  pub sound_cells_lem : sound_cells (chip_of d) c ≡ true
  pub sound_latches_lem : sound_latches (chip_of d) r.latches ≡ true

module _ (d : Device) (ok : device_ok d ≡ true) (stream cells words : List ℕ) where
  abbrev entered_run : Run Target
  entered_run = stands (unread (entered (chip_of d)) cells words) 0 0

  called_none : sound_cells (chip_of d) cells ≡ true → Called d stream cells words 0 (entered (chip_of d)) cells [] words
  called_none s = record { calls = none; sound_cells_lem = s; sound_latches_lem = (unfold entered in latch_blank (chip_of d) (sound_chip d (rules_lem d ok))) }

  module _ (k : ℕ) (r : Registers) (c got left : List ℕ) (so : Called d stream cells words k r c got left) where
    -- what the next call does
    abbrev call : Effect Target
    call = stepped d (code_at stream k) (payload_at stream k) (unread r c left)

    -- its step, and how many words that reads
    abbrev here : Decoded
    here = decoded (code_at stream k) (payload_at stream k)

    abbrev count : ℕ
    count = read_count (code_at stream k)

    is_step : call ≡ step_effect (chip_of d) here (target r 0 left c)
    is_step = stepped_on d r (code_at stream k) (payload_at stream k) left c ok so.sound_cells_lem so.sound_latches_lem

    in_run : (model_of d).step (code_at stream k) (payload_at stream k) (behind got (target r 0 left c)) ≡ lifted got call
    in_run = single_step d ok (code_at stream k) (payload_at stream k) r c got left so.sound_cells_lem so.sound_latches_lem

    called_more : call.number ≡ 0
        → Called d stream cells words (suc k) call.target.registers call.target.cells (got ++ take count call.target.words) (drop count call.target.words)
    called_more z =
        record {
          calls = next so.calls (record { answers = sym z; registers = refl; words_read = refl; cells_left = refl });
          sound_cells_lem = rw is_step (cells_stay (chip_of d) (burning d) (target r 0 left c) here so.sound_cells_lem);
          sound_latches_lem = rw is_step (latches_stay (chip_of d) (sound_chip d (rules_lem d ok)) (target r 0 left c) here (decoded_fits (code_at stream k) (payload_at stream k)) so.sound_latches_lem);
        }

    -- the words that it read go to those that have been read
    called_reads : call.number ≡ 0 → Reads (target r 0 left c) call.target count
    called_reads z =
        rw is_step
        (step_reads (chip_of d) (target r 0 left c) (omega arith) here count (decoded_counts (code_at stream k) (payload_at stream k))
        (sym (ap (λ e. e.number) is_step) ∙ z))

    moved_on : call.number ≡ 0 → behind got call.target
        ≡ behind (got ++ take count call.target.words) (target call.target.registers 0 (drop count call.target.words) call.target.cells)
    moved_on z = λ i. target call.target.registers (sum i) (whole i) call.target.cells
      where
        v : Reads (target r 0 left c) call.target count
        v = called_reads z

        sum : length got + call.target.read ≡ length (got ++ take count call.target.words) + 0
        sum =
            let m : call.target.read ≡ 0 + count = v.more in
            let w : call.target.read ≤ length left = v.within in
            let l : length call.target.words ≡ length left = v.long in
            let t : length (take count call.target.words) ≡ count = length-take count call.target.words ∙ min-eq_left (omega arith) in
            let s : length (got ++ take count call.target.words) ≡ length got + length (take count call.target.words) = length-append got _ in
            omega arith

        whole : got ++ call.target.words ≡ (got ++ take count call.target.words) ++ drop count call.target.words
        whole = ap (λ l. got ++ l) (sym (take-append-drop count call.target.words)) ∙ sym (append_assoc got _ _)

    call_refused : (call.number ≡ 0 → ⊥) → call ≡ stops call.number (target r 0 left c)
    call_refused h =
        is_step
        ∙ (refused_stays (chip_of d) (target r 0 left c) here (λ e. h (ap (λ x. x.number) is_step ∙ e))
        ∙ ap (λ x. stops x.number (target r 0 left c)) (sym is_step))

  -- after n turns a run goes on where n calls lead, or was stopped by the step whose call is refused so
  data Outcome (n : ℕ) : Type 0 where
    going : (r : Registers) (c got left : List ℕ) → Called d stream cells words n r c got left
        → after (model_of d) stream entered_run n ≡ stands (behind got (target r 0 left c)) n 0 → Outcome n
    stopped : (k : ℕ) (r : Registers) (c got left : List ℕ) → Called d stream cells words k r c got left
        → (number : ℕ) → (number ≡ 0 → ⊥) → stepped d (code_at stream k) (payload_at stream k) (unread r c left) ≡ stops number (target r 0 left c)
        → after (model_of d) stream entered_run n ≡ stands (behind got (target r 0 left c)) k number → Outcome n

  one_turn : (n : ℕ) → Outcome n → Outcome (suc n)
  one_turn n (going r c got left so e) = by (ℕ_discrete (call n r c got left so).number 0)
    where
      turns : after (model_of d) stream entered_run (suc n) ≡ turn (model_of d) stream (stands (behind got (target r 0 left c)) n 0)
      turns = after_suc (model_of d) stream entered_run n ∙ ap (turn (model_of d) stream) e

      by : Dec ((call n r c got left so).number ≡ 0) → Outcome (suc n)
      by (yes z) =
          going _ _ _ _ (called_more n r c got left so z)
          (turns
          ∙ (turn_done (model_of d) stream (behind got (target r 0 left c)) (behind got (call n r c got left so).target) n
          (in_run n r c got left so ∙ ap (λ m. stops m (behind got (call n r c got left so).target)) z)
          ∙ (λ i. stands (moved_on n r c got left so z i) (add-one n i) 0)))
      by (no h) =
          stopped n r c got left so (call n r c got left so).number h (call_refused n r c got left so h)
          (turns
          ∙ turn_refused (model_of d) stream (behind got (target r 0 left c)) (behind got (target r 0 left c)) n (call n r c got left so).number
          (in_run n r c got left so ∙ ap (lifted got) (call_refused n r c got left so h)) h)
  one_turn n (stopped k r c got left so number h f e) =
      stopped k r c got left so number h f
      (after_suc (model_of d) stream entered_run n ∙ (ap (turn (model_of d) stream) e ∙ turn_stays (model_of d) stream (stands (behind got (target r 0 left c)) k number) h))

  outcome : sound_cells (chip_of d) cells ≡ true → (n : ℕ) → Outcome n
  outcome s zero = going (entered (chip_of d)) cells [] words (called_none s) (after_zero (model_of d) stream entered_run ∙ (unfold unread in refl))
  outcome s (suc n) = one_turn n (outcome s n)

-- ---- the call for a run

-- a run that nothing stops before its first step equals that many single steps
pub run_is_calls : (d : Device) (stream : List ℕ) (allowance : ℕ) (words cells : List ℕ) (a : Ran) (words' cells' : List ℕ) → run_refusal d stream cells ≡ 0
    → Runs d stream allowance words cells a words' cells' → SameCalls d stream allowance words cells a words' cells'
unfolding answered
run_is_calls d stream allowance words cells a words' cells' z runs = by (outcome d sound.0 stream cells words sound.1 (min allowance (length stream / 3)))
  where
    sound : (device_ok d ≡ true) × (sound_cells (chip_of d) cells ≡ true)
    sound = before_sound d stream cells z

    takes : ran d stream allowance cells words ≡ after (model_of d) stream (stands (unread (entered (chip_of d)) cells words) 0 0) (min allowance (length stream / 3))
    takes = unfold ran in run_takes (model_of d) stream allowance (min allowance (length stream / 3)) cells words z refl

    by : Outcome d sound.0 stream cells words (min allowance (length stream / 3)) → SameCalls d stream allowance words cells a words' cells'
    by (going r c got left so e) =
        rw (runs.answers, runs.words_read, runs.cells_left, takes, e)
        (record {
          registers = r;
          got = got;
          left = left;
          calls = so.calls;
          buffer = refl;
          all = λ q. (refl, (unfold pick in add-zero (length got)));
          stopped = λ q. absurd (q refl);
        })
    by (stopped k r c got left so number h f e) =
        rw (runs.answers, runs.words_read, runs.cells_left, takes, e)
        (record {
          registers = r;
          got = got;
          left = left;
          calls = so.calls;
          buffer = refl;
          all = λ q. absurd (h q);
          stopped = λ q. steps_so d r (code_at stream k) (payload_at stream k) left c (stops number (target r 0 left c)) f;
        })

-- ---- the calls are determined

-- calls for one step on what is the same leave the same
same_steps : {d : Device} {code payload m n : ℕ} {r s r₁ s₁ : Registers} {c e c₁ e₁ left rest left₁ rest₁ : List ℕ} → r ≡ s → c ≡ e → left ≡ rest
    → Steps d r code payload left c m r₁ left₁ c₁ → Steps d s code payload rest e n s₁ rest₁ e₁ → (r₁ ≡ s₁) × (c₁ ≡ e₁) × (left₁ ≡ rest₁)
same_steps {d} {code} {payload} {r = r} {s} {c = c} {e} {left = left} {rest} p q l a b =
    let whole : stepped d code payload (unread r c left) ≡ stepped d code payload (unread s e rest) = (λ i. stepped d code payload (unread (p i) (q i) (l i))) in (
      a.registers ∙ (ap (λ x. x.target.registers) whole ∙ sym b.registers),
      a.cells_left ∙ (ap (λ x. x.target.cells) whole ∙ sym b.cells_left),
      a.words_read ∙ (ap (λ x. x.target.words) whole ∙ sym b.words_read),
    )

-- whichever way that many calls are made, they lead to the same
pub calls_determined : {d : Device} {stream cells words : List ℕ} (n : ℕ) {r s : Registers} {c e got gave left rest : List ℕ}
    → Calls d stream cells words n r c got left → Calls d stream cells words n s e gave rest → (r ≡ s) × (c ≡ e) × (got ≡ gave) × (left ≡ rest)
calls_determined zero none none = (refl, refl, refl, refl)
calls_determined {stream = stream} (suc n) (next x p) (next y q) =
    let v = calls_determined n x y in
    let w = same_steps v.0 v.1 v.3 p q in
    (w.0, w.1, (λ i. v.2 i ++ take (read_count (code_at stream n)) (w.2 i)), ap (drop (read_count (code_at stream n))) w.2)
