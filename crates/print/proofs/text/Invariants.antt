-- A byte in each turn.
use Rattle.std.specs.Prelude.{◌≡◌, length, drop}
use Rattle.std.proofs.lemmas.List.Edits.{sets}
use Rattle.print.proofs.text.Given as goal

abbrev pub invariant-loop-i : goal.invariant-loop-i
invariant-loop-i l = (sets l.initial.out 0 l.text ≡ sets l.out l.i (drop l.i l.text)) × (length l.out ≡ length l.initial.out)
