-- Demands 2 and 3 from a call's answer on: if a planner answers 0 with n steps, the first 3n bytes that it leaves recover.
use Rattle.std.specs.Prelude.{ℕ, ◌+◌, ◌*◌, ◌<◌, ◌≡◌, refl, Bool, true, false, List, [], leb, eqb, length, take, get_or}
use Rattle.std.proofs.Common.{sym, ap, subst, ◌∙◌, arith, eqb-true, eq-eqb}
use Rattle.words.specs.Choice.{pick}
use Rattle.device.specs.declared.Device.{Device}
use Rattle.device.specs.Memory.{reading_tail}
use Rattle.target.specs.Chip.{chip_of}
use Rattle.target.specs.Step.{sound_cells}
use Rattle.target.specs.Run.{model_of}
use Rattle.target.specs.Cut.{Recovers}
use Rattle.target.specs.Stream.{bytes_of}
use Rattle.target.specs.LawsStream.{length_bytes}
use Rattle.target.specs.declared.Order.{Order}
use Rattle.plan.specs.Steps.{update_steps, fresh_steps}
use Rattle.aim.specs.Refusal.{update_number, fresh_number}
use Rattle.plan.specs.Answers.{Planned, planned, Plans}
use Rattle.plan.specs.Demands.{programmed}
use Rattle.plan.specs.LawsDemands.{plan_bytes}
use Rattle.plan.specs.LawsUpdate.{update_recovers}
use Rattle.plan.specs.LawsFresh.{fresh_recovers}

-- ---- an answer of 0

module _ (number : ℕ) (s : List Order) (out : List ℕ) (e : (planned number s out).number ≡ 0) where
  pub not_refused : number ≡ 0
  not_refused = by (eqb number 0) refl
    where
      refused : eqb number 0 ≡ false → (planned number s out).number ≡ number
      refused f = unfold planned pick in rw f

      by : (b : Bool) → eqb number 0 ≡ b → number ≡ 0
      by true t = eqb-true number 0 t
      by false f = sym (refused f) ∙ e

  pub steps_counted : (planned number s out).steps ≡ length s
  steps_counted = by (leb (3 * length s) (length out)) refl
    where
      taken : eqb number 0 ≡ true
      taken = eq-eqb number 0 not_refused

      fits : leb (3 * length s) (length out) ≡ true → (planned number s out).steps ≡ length s
      fits q = unfold planned pick in rw (taken, q)

      short : leb (3 * length s) (length out) ≡ false → (planned number s out).number ≡ 26
      short q = unfold planned pick in rw (taken, q)

      by : (b : Bool) → leb (3 * length s) (length out) ≡ b → (planned number s out).steps ≡ length s
      by true q = fits q
      by false q = absurd (let z : ◌≡◌ {A = ℕ} 26 0 = sym (short q) ∙ e in omega arith)

-- the bytes that the answer counts are the stream's
module _ (number : ℕ) (s : List Order) (out : List ℕ) (r : Planned) (out' : List ℕ) (p : Plans number s out r out') (ok : r.number ≡ 0) where
  fine : (planned number s out).number ≡ 0
  fine = sym (ap (λ (x : Planned). x.number) p.answers) ∙ ok

  pub call_number : number ≡ 0
  call_number = not_refused number s out fine

  pub call_bytes : take (3 * r.steps) out' ≡ bytes_of s
  call_bytes =
      let count : 3 * r.steps ≡ length (bytes_of s) = ap (λ (x : Planned). 3 * x.steps) p.answers ∙ (ap (λ n. 3 * n) (steps_counted number s out fine) ∙ sym (length_bytes s)) in
      ap (λ n. take n out') count ∙ (ap (take (length (bytes_of s))) p.written ∙ plan_bytes number s out fine)

-- ---- the two calls

-- an update: the reading was true of the cells before the first run
pub update_call_recovers : (d : Device) (image reading out : List ℕ) (r : Planned) (out' : List ℕ) → Plans (update_number d image reading) (update_steps d image reading) out r out' → r.number ≡ 0
    → (cells : List ℕ) → sound_cells (chip_of d) cells ≡ true → ((i : ℕ) → i < d.words + reading_tail → get_or cells i 0 ≡ get_or reading i 0)
    → Recovers (model_of d) (take (3 * r.steps) out') cells (programmed d image reading cells)
update_call_recovers d image reading out r out' p ok cells s held =
    let bytes : take (3 * r.steps) out' ≡ bytes_of (update_steps d image reading) = call_bytes (update_number d image reading) (update_steps d image reading) out r out' p ok in
    let number : update_number d image reading ≡ 0 = call_number (update_number d image reading) (update_steps d image reading) out r out' p ok in
    subst (λ z. Recovers (model_of d) z cells (programmed d image reading cells)) (sym bytes) (update_recovers d image reading cells number s held)

-- a fresh programming: of any sound cells, protected or not
pub fresh_call_recovers : (d : Device) (image : List ℕ) (id_word : ℕ) (out : List ℕ) (r : Planned) (out' : List ℕ) → Plans (fresh_number d image id_word) (fresh_steps d image) out r out' → r.number ≡ 0
    → (cells : List ℕ) → sound_cells (chip_of d) cells ≡ true → Recovers (model_of d) (take (3 * r.steps) out') cells (programmed d image [] cells)
fresh_call_recovers d image id_word out r out' p ok cells s =
    let bytes : take (3 * r.steps) out' ≡ bytes_of (fresh_steps d image) = call_bytes (fresh_number d image id_word) (fresh_steps d image) out r out' p ok in
    let number : fresh_number d image id_word ≡ 0 = call_number (fresh_number d image id_word) (fresh_steps d image) out r out' p ok in
    subst (λ z. Recovers (model_of d) z cells (programmed d image [] cells)) (sym bytes) (fresh_recovers d image id_word cells number s)
