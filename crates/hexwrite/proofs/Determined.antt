-- For the writer: two results that its promise allows are equal, the answer and the later content of the text's buffer.
use mathlib.Core.Path.{◌≡◌}
use Rattle.std.proofs.Common.{ap}
use Rattle.refusal.specs.LawsRefusal.{answer_unique}
use Rattle.words.specs.LawsPromise.{determined}
use Rattle.hexwrite.proofs.write.write_hex.Reads as write_hex

pub write_hex_determined : (κs : _) (a : _) (r s : _) (x y : _) → write_hex.Post κs a r x → write_hex.Post κs a s y → (r ≡ s) × (x.1.1.0.now ≡ y.1.1.0.now)
write_hex_determined κs a r s x y p q =
    let e = determined p.answer q.answer in
    (answer_unique 0 r s (ap (λ w. w.number) e) (ap (λ w. w.length) e), determined p.bytes q.bytes)
