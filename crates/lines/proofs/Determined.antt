-- For each public call: two results that its promise allows are equal, and so are two readers that `take` may leave.
use mathlib.Core.Path.{◌≡◌}
use Rattle.words.specs.LawsPromise.{determined}
use Rattle.lines.proofs.next_line.Reads as next_line_lem
use Rattle.lines.proofs.line_from.Reads as line_from
use Rattle.lines.proofs.Lines.new.Reads as new
use Rattle.lines.proofs.Lines.take.Reads as take
use Rattle.lines.proofs.Lines.number.Reads as number

pub next_line_determined : (κs : _) (a : _) (r s : _) (x y : _) → next_line_lem.Post κs a r x → next_line_lem.Post κs a s y → r ≡ s
next_line_determined κs a r s x y p q = determined p q

pub line_from_determined : (κs : _) (a : _) (r s : _) (x y : _) → line_from.Post κs a r x → line_from.Post κs a s y → r ≡ s
line_from_determined κs a r s x y p q = determined p q

pub new_determined : (κs : _) (a : _) (r s : _) (x y : _) → new.Post κs a r x → new.Post κs a s y → r ≡ s
new_determined κs a r s x y p q = determined p q

pub number_determined : (κs : _) (a : _) (r s : _) (x y : _) → number.Post κs a r x → number.Post κs a s y → r ≡ s
number_determined κs a r s x y p q = determined p q

pub take_determined : (κs : _) (a : _) (r s : _) (x y : _) → take.Post κs a r x → take.Post κs a s y → (r ≡ s) × (x.0.now ≡ y.0.now)
take_determined κs a r s x y p q = (determined p.answer q.answer, determined p.reader q.reader)
