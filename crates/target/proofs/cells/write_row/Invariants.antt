-- A row that is written from its first word on.
use Rattle.std.proofs.Common.{◌*◌, ◌%◌, ◌≡◌, length, get_or}
use Rattle.std.specs.Int.Bits.{bit_and}
use Rattle.words.specs.Lists.{overlay}
use Rattle.target.proofs.cells.write_row.Given as goal

abbrev pub invariant-loop-i : goal.invariant-loop-i
invariant-loop-i l = (length l.cells ≡ length l.initial.cells) ×
    (l.cells ≡ overlay (l.number * l.row) l.i (λ k. bit_and (get_or l.initial.cells k 0) (get_or l.latches (k % l.row) 0)) l.initial.cells)
