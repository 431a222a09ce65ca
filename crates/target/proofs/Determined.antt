-- For each public call: two results that its promise allows are equal, the answer and the later content of each buffer.
use mathlib.Core.Path.{◌≡◌}
use mathlib.Core.List.{List}
use Prim.Native.Nat.{ℕ}
use seplogic.Ra.Ura.{Ura}
use base.Logic.{SProp, ent, sep, fst∗, snd∗}
use prog.Memory.{Memory}
use prog.Routine.{Routine}
use types.Logic.{Logic}
use contract.Monad.{Fun, fact, fact_i, fact_use}
use Rattle.words.specs.LawsPromise.{determined}
use Rattle.device.specs.declared.Device.{Device}
use Rattle.target.specs.Step.{Steps}
use Rattle.target.specs.declared.Registers.{Registers}
use Rattle.target.specs.LawsRun.{ran_unique}
use Rattle.refusal.specs.declared.Refusal.{Refusal}
use Rattle.refusal.specs.Refusal.{number_in}
use Rattle.refusal.specs.LawsRefusal.{answer_unique, number_in_unique}
use Rattle.std.specs.Prelude.{Result, refl}
use Rattle.target.specs.contracts.carried.step_on as step_on
use Rattle.target.specs.contracts.Registers.step as step_of_lem
use Rattle.target.proofs.single.step.Reads as step
use Rattle.target.proofs.trial.run.Reads as run

-- words are the fifth parameter, cells the sixth
pub step_determined : (κs : _) (a : _) (r s : _) (x y : _) → step.Post κs a r x → step.Post κs a s y
    → (r ≡ s) × (x.1.1.1.1.0.now ≡ y.1.1.1.1.0.now) × (x.1.1.1.1.1.0.now ≡ y.1.1.1.1.1.0.now)
step_determined κs a r s x y p q =
    (answer_unique a.1.0 r s (determined p.answers q.answers) (determined p.registers q.registers), determined p.words_read q.words_read, determined p.cells_left q.cells_left)

-- cells are the second parameter, words the fifth
pub run_determined : (κs : _) (a : _) (r s : _) (x y : _) → run.Post κs a r x → run.Post κs a s y
    → (r ≡ s) × (x.1.0.now ≡ y.1.0.now) × (x.1.1.1.1.0.now ≡ y.1.1.1.1.0.now)
run_determined κs a r s x y p q =
    (ran_unique r s (determined p.answers q.answers), determined p.cells_left q.cells_left, determined p.words_read q.words_read)

-- ---- the step on registers that are lent. A contract over a lent struct has no reading, so each law speaks of the promise itself: said of two results, it shows that they are equal

both_determined : {M : Type 1} (𝓤 : Ura M) {P Q R : Type 0} → (P → Q → R) → ent 𝓤 (sep 𝓤 (fact 𝓤 P) (fact 𝓤 Q)) (fact 𝓤 R)
both_determined 𝓤 {P} {Q} {R} k = fact_use 𝓤 P (fst∗ 𝓤 (fact 𝓤 P) (fact 𝓤 Q)) (λ p. fact_use 𝓤 Q (snd∗ 𝓤 (fact 𝓤 P) (fact 𝓤 Q)) (λ q. fact_i 𝓤 R _ (k p q)))

same_steps : {d : Device} {h : Registers} {c p : ℕ} {ws cs : List ℕ} {m n : Result Unit Refusal} {r s : Registers} {ws₁ ws₂ cs₁ cs₂ : List ℕ} → Steps d h c p ws cs (number_in m) r ws₁ cs₁ → Steps d h c p ws cs (number_in n) s ws₂ cs₂
    → (m ≡ n) × (r ≡ s) × (ws₁ ≡ ws₂) × (cs₁ ≡ cs₂)
same_steps {m = m} {n = n} p q = (number_in_unique (λ x y. refl) m n (determined p.answers q.answers), determined p.registers q.registers, determined p.words_read q.words_read, determined p.cells_left q.cells_left)

module _ {M : Type 1} {𝓤 : Ura M} (𝓛 : Logic 𝓤) (mem : Memory → SProp 𝓤) (run : Routine → Fun 𝓤) where
  -- registers are the first parameter, words the fifth, cells the sixth
  pub step_on_determined : (κs : _) (a : _) (r s : _) (x y : _) → ent 𝓤 (sep 𝓤 ((step_on.clauses 𝓛 mem run κs a).ensures tt r x) ((step_on.clauses 𝓛 mem run κs a).ensures tt s y))
      (fact 𝓤 ((r ≡ s) × (x.0.now ≡ y.0.now) × (x.1.1.1.1.0.now ≡ y.1.1.1.1.0.now) × (x.1.1.1.1.1.0.now ≡ y.1.1.1.1.1.0.now)))
  step_on_determined κs a r s x y = both_determined 𝓤 same_steps

  pub registers_step_determined : (κs : _) (a : _) (r s : _) (x y : _) → ent 𝓤 (sep 𝓤 ((step_of_lem.clauses 𝓛 mem run κs a).ensures tt r x) ((step_of_lem.clauses 𝓛 mem run κs a).ensures tt s y))
      (fact 𝓤 ((r ≡ s) × (x.0.now ≡ y.0.now) × (x.1.1.1.1.0.now ≡ y.1.1.1.1.0.now) × (x.1.1.1.1.1.0.now ≡ y.1.1.1.1.1.0.now)))
  registers_step_determined κs a r s x y = both_determined 𝓤 same_steps
