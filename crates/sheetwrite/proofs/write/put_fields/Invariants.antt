-- A tab and a word in each turn; what is left to write gets shorter.
use Rattle.std.proofs.Common.{◌≡◌, ◌+◌, ◌-◌, ◌*◌, length}
use Rattle.std.proofs.lemmas.List.Edits.{sets}
use Rattle.sheet.specs.Sheet.{fields}
use Rattle.sheetwrite.proofs.write.put_fields.Given as goal

abbrev pub invariant-loop-k : goal.invariant-loop-k
invariant-loop-k l = sets l.initial.out l.at (fields (length l.words) 0 l.words) ≡ sets l.out (l.at + 5 * l.k) (fields (length l.words - l.k) (0 + l.k) l.words)
