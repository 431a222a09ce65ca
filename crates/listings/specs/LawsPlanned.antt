-- Laws of a planned stream: what is printed of a planner's answer, and that a buffer of the most bytes has room for each of the three.
use Rattle.std.specs.Prelude.{ℕ, Result, Ok, Err, IfOk, ◌+◌, ◌*◌, ◌≤◌, ◌<◌, ◌≡◌, true, List, take}
use Rattle.std.proofs.Math.Decide.{ℕ_discrete}
use Rattle.std.proofs.Common.{arith, sym, ◌∙◌}
use Rattle.std.proofs.Math.Path.{ap}
use Rattle.std.proofs.Math.ListN.{length}
use Rattle.std.proofs.Math.Seq.{length-sets}
use borrow.Author.Tests.{eq-eqb, ne_eqb, le-leb}
use Rattle.words.specs.Choice.{pick}
use Rattle.words.specs.LawsChoice.{pick_true, pick_false}
use Rattle.device.specs.declared.Device.{Device}
use Rattle.device.specs.Record.{device_up_to, device_ok}
use Rattle.target.specs.declared.Order.{Order}
use Rattle.target.specs.Stream.{bytes_of}
use Rattle.target.specs.LawsStream.{length_bytes}
use Rattle.plan.specs.Steps.{read_back_steps}
use Rattle.plan.specs.Answers.{Planned, read_back_number, planned_told, planned, planned_out, Plans}
use Rattle.plan.specs.LawsPlanBounds.{read_back_steps_lem}
use Rattle.plan.specs.LawsDemands.{plan_bytes}
use Rattle.print.specs.Print.{refused_text}
use Rattle.refusal.specs.declared.Refusal.{Refusal}
use Rattle.refusal.specs.Refusal.{number_of, number_in}
use Rattle.refusal.specs.LawsRefusal.{number_of_positive}
use Rattle.board.specs.LawsBoard.{Holds, refusal_text, answer_text}
use Rattle.board.specs.Open.{most_program, record_of, open_number}
use Rattle.board.specs.LawsOpen.{served_sound, served_most, opened_served}
use Rattle.listings.specs.Streams.{stream_text, readback_text}
use Rattle.listings.specs.LawsStreams.{most_stream}

-- ---- a plan in a buffer that has room for every stream

-- the answer and the buffer tell the refusal or the stream
record Ready (number : ℕ) (steps : List Order) (r : Planned) (out : List ℕ) : Type 0 where
  within : 3 * r.steps ≤ length out
  number_is : r.number ≡ number
  stored : number ≡ 0 → take (3 * r.steps) out ≡ bytes_of steps

module _ (number : ℕ) (steps : List Order) (out : List ℕ) (long : length out ≡ most_stream) (r : Planned) (out' : List ℕ) (p : Plans number steps out r out') (few : 3 * length steps ≤ most_stream) where
  room : 3 * length steps ≤ length out
  room = rw long few

  ready_refused : (number ≡ 0 → ⊥) → Ready number steps r out'
  ready_refused n = record {
    within = rw (ap (λ x. x.steps) (p.answers ∙ is)) (omega arith);
    number_is = ap (λ x. x.number) (p.answers ∙ is);
    stored = λ z. absurd (n z);
  }
    where
      is : planned number steps out ≡ record { number = number; steps = 0 }
      is = unfold planned in pick_false _ _ _ (ne_eqb number 0 n)

  ready_found : number ≡ 0 → Ready number steps r out'
  ready_found z = record { within = rw (count, stays) room; number_is = ap (λ x. x.number) (p.answers ∙ is) ∙ sym z; stored = λ y. stored_is }
    where
      is : planned number steps out ≡ record { number = 0; steps = length steps }
      is = unfold planned pick in rw (eq-eqb number 0 z, le-leb (3 * length steps) (length out) room)

      count : r.steps ≡ length steps
      count = ap (λ x. x.steps) (p.answers ∙ is)

      goes : (planned number steps out).number ≡ 0
      goes = ap (λ x. x.number) is

      stays : length out' ≡ length out
      stays = ap length p.written ∙ (unfold planned_out in ap length (pick_true _ _ _ (eq-eqb _ 0 goes)) ∙ length-sets out 0 (bytes_of steps))

      stored_is : take (3 * r.steps) out' ≡ bytes_of steps
      stored_is =
          let e : 3 * r.steps ≡ length (bytes_of steps) = ap (λ n. 3 * n) count ∙ sym (length_bytes steps) in
          ap (λ n. take n out') e ∙ (ap (take (length (bytes_of steps))) p.written ∙ plan_bytes number steps out goes)

  ready : Ready number steps r out'
  ready = by (ℕ_discrete number 0)
    where
      by : Dec (number ≡ 0) → Ready number steps r out'
      by (yes z) = ready_found z
      by (no n) = ready_refused n

-- a planner's answer in such a buffer is its own refusal, or the steps whose bytes stand there
pub plan_held : (number : ℕ) (steps : List Order) → 3 * length steps ≤ most_stream → (before : List ℕ) → length before ≡ most_stream → (r : Result ℕ Refusal) (out : List ℕ)
    → Plans number steps before (planned_told r) out → (number_in r ≡ number) × IfOk r (λ n. Holds (bytes_of steps) (3 * n) out)
plan_held number steps few before long (Ok n) out p =
    let h : Ready number steps (planned_told (Ok n)) out = ready number steps before long (planned_told (Ok n)) out p few in
    (h.number_is, record { within = h.within; whole = h.stored (sym h.number_is) })
plan_held number steps few before long (Err e) out p = ((ready number steps before long (planned_told (Err e)) out p few).number_is, tt)

-- ---- readback

pub read_back_few : (d : Device) → device_up_to most_program d ≡ true → 3 * length (read_back_steps d) ≤ most_stream
read_back_few d served =
    let e : length (read_back_steps d) ≡ 2 * d.words + 18 = read_back_steps_lem d (served_sound d served) in
    let m : d.words ≤ most_program = served_most d served in
    omega arith

none_refused : (d : Device) → device_ok d ≡ true → read_back_number d ≡ 0
unfolding read_back_number
none_refused d e = pick_true (device_ok d) 0 13 e

-- a device that the programs serve, in a buffer that has room
module _ (d : Device) (served : device_up_to most_program d ≡ true) (before : List ℕ) (long : length before ≡ most_stream) (r : Result ℕ Refusal) (out : List ℕ)
    (p : Plans (read_back_number d) (read_back_steps d) before (planned_told r) out) where
  pub read_back_held : (number_in r ≡ 0) × IfOk r (λ n. Holds (bytes_of (read_back_steps d)) (3 * n) out)
  read_back_held =
      let h = plan_held (read_back_number d) (read_back_steps d) (read_back_few d served) before long r out p in
      (h.0 ∙ none_refused d (served_sound d served), h.1)

-- as it is answered: nothing is refused
module _ (d : Device) (served : device_up_to most_program d ≡ true) (before : List ℕ) (long : length before ≡ most_stream) (out : List ℕ) where
  module _ (n : ℕ) (p : Plans (read_back_number d) (read_back_steps d) before (planned_told (Ok n)) out) where
    pub read_back_within : 3 * n ≤ length out
    read_back_within = (read_back_held d served before long (Ok n) out p).1.within

    pub read_back_printed : stream_text (take (3 * n) out) ≡ stream_text (bytes_of (read_back_steps d))
    read_back_printed = ap stream_text (read_back_held d served before long (Ok n) out p).1.whole

  pub read_back_never : (e : Refusal) → Plans (read_back_number d) (read_back_steps d) before (planned_told (Err e)) out → ⊥
  read_back_never e p = let n : 0 < number_of e = number_of_positive e in omega (arith, (read_back_held d served before long (Err e) out p).0)

module _ (table sheet : List ℕ) where
  pub readback_held : 0 ≡ open_number table sheet → (d : Device) → d ≡ record_of table sheet → (before : List ℕ) → length before ≡ most_stream → (r : Result ℕ Refusal) (out : List ℕ)
      → Plans (read_back_number d) (read_back_steps d) before (planned_told r) out
      → (number_in r ≡ open_number table sheet) × IfOk r (λ n. Holds (bytes_of (read_back_steps (record_of table sheet))) (3 * n) out)
  readback_held z d e before long r out p =
      let served : device_up_to most_program d ≡ true = ap (device_up_to most_program) e ∙ opened_served table sheet (sym z) in
      let h = read_back_held d served before long r out p in
      (h.0 ∙ z, rw e at h.1)

  pub readback_found : (n : ℕ) (out : List ℕ) → 0 ≡ open_number table sheet → Holds (bytes_of (read_back_steps (record_of table sheet))) n out → stream_text (take n out) ≡ readback_text table sheet
  unfolding readback_text
  readback_found n out z h = ap stream_text h.whole ∙ answer_text (open_number table sheet) _ _ z

  pub readback_served : (z : 0 ≡ open_number table sheet) → (d : Device) → d ≡ record_of table sheet → (device_up_to most_program d ≡ true) × (stream_text (bytes_of (read_back_steps d)) ≡ readback_text table sheet)
  unfolding readback_text
  readback_served z d e = (
    ap (device_up_to most_program) e ∙ opened_served table sheet (sym z),
    ap (λ x. stream_text (bytes_of (read_back_steps x))) e ∙ answer_text (open_number table sheet) _ _ z,
  )

  pub readback_refused : (e : Refusal) → number_of e ≡ open_number table sheet → (k : ℕ) → k ≡ number_of e → refused_text k 0 0 ≡ readback_text table sheet
  unfolding readback_text
  readback_refused e p k is = ap (λ n. refused_text n 0 0) is ∙ refusal_text (open_number table sheet) _ e p
