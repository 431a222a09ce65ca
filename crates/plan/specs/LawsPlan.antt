-- The promise of the three planners, and the ways to keep it: a refusal, a buffer that is too short, a stream.
use Rattle.std.specs.Prelude.{ℕ, ◌+◌, ◌*◌, ◌≤◌, ◌<◌, ◌≡◌, List, Result, Ok, Err, leb, eqb}
use Rattle.std.proofs.Common.{arith, ap, ◌∙◌, eq-eqb, ne_eqb, le-leb}
use Rattle.std.proofs.Math.Path.{sym, refl}
use Rattle.std.proofs.Math.ListN.{length}
use Rattle.std.proofs.lemmas.List.Edits.{sets}
use Rattle.std.proofs.lemmas.Bool.{lt-leb}
use Rattle.words.specs.LawsChoice.{pick_true, pick_false}
use Rattle.refusal.specs.Refusal.{number_of, number_in, value_in}
use Rattle.refusal.specs.LawsRefusal.{number_of_positive, answer_unique}
use Rattle.refusal.specs.declared.Refusal.{Refusal}
use Rattle.refusal.specs.declared.Refusal.TheVariants.{NoRoom}
use Rattle.device.specs.declared.Device.{Device}
use Rattle.device.specs.Record.{record_number}
use Rattle.device.specs.LawsRecord.{Rules, rules_of_judged}
use Rattle.target.specs.declared.Order.{Order}
use Rattle.target.specs.Stream.{bytes_of}
use Rattle.plan.specs.declared.orders.Writer.{Writer}
use Rattle.plan.specs.Answers.{Planned, read_back_number, planned_told, planned, planned_out, Plans}
use Rattle.plan.specs.LawsPlanWrote.{Wrote}

module _ (number : ℕ) (steps : List Order) (out : List ℕ) where
  refused_is : (number ≡ 0 → ⊥) → planned number steps out ≡ record { number = number; steps = 0 }
  unfolding planned
  refused_is h = pick_false (eqb number 0) _ _ (ne_eqb number 0 h)

  short_is : number ≡ 0 → length out < 3 * length steps → planned number steps out ≡ record { number = 26; steps = 0 }
  unfolding planned
  short_is e h = pick_true (eqb number 0) _ _ (eq-eqb number 0 e) ∙ pick_false (leb (3 * length steps) (length out)) _ _ (lt-leb _ _ h)

  done_is : number ≡ 0 → 3 * length steps ≤ length out → planned number steps out ≡ record { number = 0; steps = length steps }
  unfolding planned
  done_is e h = pick_true (eqb number 0) _ _ (eq-eqb number 0 e) ∙ pick_true (leb (3 * length steps) (length out)) _ _ (le-leb _ _ h)

  stays : ((planned number steps out).number ≡ 0 → ⊥) → planned_out number steps out ≡ out
  unfolding planned_out
  stays h = pick_false (eqb (planned number steps out).number 0) _ _ (ne_eqb _ 0 h)

  goes : (planned number steps out).number ≡ 0 → planned_out number steps out ≡ sets out 0 (bytes_of steps)
  unfolding planned_out
  goes e = pick_true (eqb (planned number steps out).number 0) _ _ (eq-eqb _ 0 e)

  pub plans_refused : (e : Refusal) → number_of e ≡ number → Plans number steps out (planned_told (Err e)) out
  plans_refused e q =
      let p : 0 < number_of e = number_of_positive e in
      let h : number ≡ 0 → ⊥ = λ z. omega arith in
      let is : planned number steps out ≡ record { number = number; steps = 0 } = refused_is h in
      record { answers = rw q (sym is); written = sym (stays (λ z. h (sym (ap (λ r. r.number) is) ∙ z))) }

  pub plans_short : (need : ℕ) → 0 ≡ number → need ≡ length steps → length out < 3 * need → Plans number steps out (planned_told (Err NoRoom)) out
  plans_short need z c h =
      let is : planned number steps out ≡ record { number = 26; steps = 0 } = short_is (sym z) (omega arith) in
      record { answers = sym is; written = sym (stays (λ q. let t : ◌≡◌ {A = ℕ} 26 0 = sym (ap (λ r. r.number) is) ∙ q in omega arith)) }

  pub plans_done : (need : ℕ) (w w' : Writer) (out' : List ℕ) → 0 ≡ number → need ≡ length steps → 3 * need ≤ length out → w.steps ≡ 0 → w.out.now ≡ out → Wrote steps w w' → out' ≡ w'.out.now
      → Plans number steps out (planned_told (Ok w'.steps)) out'
  plans_done need w w' out' z c h q o v b =
      let is : planned number steps out ≡ record { number = 0; steps = length steps } = done_is (sym z) (omega arith) in
      let t : w'.steps ≡ w.steps + length steps = v.count in
      let k : w'.steps ≡ length steps = omega arith in
      let p : 3 * w.steps ≡ 0 = omega arith in
      let s : out' ≡ sets out 0 (bytes_of steps) = b ∙ (v.bytes ∙ (ap (λ x. sets w.out.now x (bytes_of steps)) p ∙ ap (λ x. sets x 0 (bytes_of steps)) o)) in
      record { answers = rw k (sym is); written = s ∙ sym (goes (ap (λ p. p.number) is)) }

-- ---- what judging a record tells

pub read_back_judged : (d : Device) → record_number d ≡ read_back_number d
unfolding record_number read_back_number
read_back_judged d = refl

pub rules_judged : (d : Device) → 0 ≡ record_number d → Rules d
rules_judged d e = rules_of_judged d (sym e)

-- ---- two answers that are told alike are one

told_number : (r : Result ℕ Refusal) → (planned_told r).number ≡ number_in r
told_number (Ok n) = refl
told_number (Err e) = refl

told_steps : (r : Result ℕ Refusal) → (planned_told r).steps ≡ value_in 0 r
told_steps (Ok n) = refl
told_steps (Err e) = refl

pub planned_unique : (a b : Result ℕ Refusal) → planned_told a ≡ planned_told b → a ≡ b
planned_unique a b e =
    answer_unique 0 a b (sym (told_number a) ∙ (ap (λ (p : Planned). p.number) e ∙ told_number b)) (sym (told_steps a) ∙ (ap (λ (p : Planned). p.steps) e ∙ told_steps b))
