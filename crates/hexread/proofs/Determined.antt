-- For each public call: two results that its promise allows are equal, the answer and the later content of what was lent.
use mathlib.Core.Path.{◌≡◌}
use Rattle.words.specs.LawsPromise.{determined}
use Rattle.hexread.specs.LawsReader.{told_unique}
use Rattle.hexread.proofs.read.read_hex.Reads as read_hex

pub read_hex_determined : (κs : _) (a : _) (r s : _) (x y : _) → read_hex.Post κs a r x → read_hex.Post κs a s y → (r ≡ s) × (x.1.1.0.now ≡ y.1.1.0.now)
read_hex_determined κs a r s x y p q = (told_unique r s (determined p.answer q.answer), determined p.image_is q.image_is)
