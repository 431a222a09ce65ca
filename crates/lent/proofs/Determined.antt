-- For each public call: two results that its promise allows are equal, the answer and the later content of each buffer.
use Rattle.std.specs.Prelude.{◌≡◌, ℕ, List, Result, refl}
use Rattle.words.specs.LawsPromise.{determined}
use Rattle.refusal.specs.declared.Refusal.{Refusal}
use Rattle.refusal.specs.Refusal.{number_in}
use Rattle.refusal.specs.LawsRefusal.{number_in_unique}
use Rattle.device.specs.declared.Device.{Device}
use Rattle.target.specs.Step.{Steps}
use Rattle.target.specs.declared.Registers.{Registers}
use Rattle.lent.proofs.step_on.Reads as step_on
use Rattle.lent.proofs.step_method.Reads as step_method
use Rattle.lent.proofs.text.first_number.Reads as first_number
use Rattle.lent.proofs.text.third_line.Reads as third_line

same_steps : {d : Device} {h : Registers} {c p : ℕ} {ws cs ws₁ ws₂ cs₁ cs₂ : List ℕ} (r s : Registers × Result Unit Refusal) → Steps d h c p ws cs (number_in r.1) r.0 ws₁ cs₁
    → Steps d h c p ws cs (number_in s.1) s.0 ws₂ cs₂
    → (r ≡ s) × (ws₁ ≡ ws₂) × (cs₁ ≡ cs₂)
same_steps r s p q = (
  λ i. (determined p.registers q.registers i, number_in_unique (λ x y. refl) r.1 s.1 (determined p.answers q.answers) i),
  determined p.words_read q.words_read,
  determined p.cells_left q.cells_left,
)

-- words are the fifth parameter, cells the sixth
pub step_on_determined : (κs : _) (a : _) (r s : _) (x y : _) → step_on.Post κs a r x → step_on.Post κs a s y
    → (r ≡ s) × (x.1.1.1.1.0.now ≡ y.1.1.1.1.0.now) × (x.1.1.1.1.1.0.now ≡ y.1.1.1.1.1.0.now)
step_on_determined κs a r s x y p q = same_steps r s p q

pub step_method_determined : (κs : _) (a : _) (r s : _) (x y : _) → step_method.Post κs a r x → step_method.Post κs a s y
    → (r ≡ s) × (x.1.1.1.1.0.now ≡ y.1.1.1.1.0.now) × (x.1.1.1.1.1.0.now ≡ y.1.1.1.1.1.0.now)
step_method_determined κs a r s x y p q = same_steps r s p q

pub first_number_determined : (κs : _) (a : _) (r s : _) (x y : _) → first_number.Post κs a r x → first_number.Post κs a s y → r ≡ s
first_number_determined κs a r s x y p q = determined p q

pub third_line_determined : (κs : _) (a : _) (r s : _) (x y : _) → third_line.Post κs a r x → third_line.Post κs a s y → r ≡ s
third_line_determined κs a r s x y p q = determined p q
