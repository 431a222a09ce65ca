-- For each public call: two results that its promise allows are equal.
use Rattle.std.specs.Prelude.{◌≡◌}
use Rattle.std.proofs.Common.{sym, ◌∙◌}
use Rattle.marks.proofs.find.Reads as find

pub find_determined : (κs : _) (a : _) (r s : _) (x y : _) → find.Post κs a r x → find.Post κs a s y → r ≡ s
find_determined κs a r s x y p q = p.0 ∙ sym q.0
