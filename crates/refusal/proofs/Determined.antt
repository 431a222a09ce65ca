-- For each public call: two results that its promise allows are equal.
use Rattle.std.specs.Prelude.{◌≡◌}
use Rattle.std.proofs.Common.{sym, ◌∙◌}
use Rattle.refusal.proofs.Refusal.number.Reads as number
use Rattle.refusal.proofs.number_in.Reads as number_in

pub number_determined : (κs : _) (a : _) (r s : _) (x y : _) → number.Post κs a r x → number.Post κs a s y → r ≡ s
number_determined κs a r s x y p q = p ∙ sym q

pub number_in_determined : (g : _) (κs : _) (w : _) (a : _) (r s : _) (x y : _) → number_in.Post g κs w a r x → number_in.Post g κs w a s y → r ≡ s
number_in_determined g κs w a r s x y p q = p ∙ sym q
