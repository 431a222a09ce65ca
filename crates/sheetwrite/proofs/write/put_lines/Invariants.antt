-- A line in each turn; what is left to write gets shorter.
use Rattle.std.proofs.Common.{◌≡◌, ◌+◌, ◌-◌, ◌*◌, ◌/◌, ◌≤◌, length, drop}
use Rattle.std.proofs.lemmas.List.Edits.{sets}
use Rattle.sheet.specs.Sheet.{program_lines}
use Rattle.sheetwrite.proofs.write.put_lines.Given as goal

abbrev pub invariant-loop-k : goal.invariant-loop-k
invariant-loop-k l = record {
  size : l.k-iterator.iter.size ≡ 8;
  count : l.k-iterator.count ≤ length l.words / 8;
  rest : l.k-iterator.iter.rest.now ≡ drop (8 * l.k-iterator.count) l.words;
  left : sets l.initial.out l.at (program_lines (length l.words / 8) 0 l.words) ≡ sets l.out (l.at + 45 * l.k-iterator.count) (program_lines (length l.words / 8 - l.k-iterator.count) l.k-iterator.count l.words);
}
