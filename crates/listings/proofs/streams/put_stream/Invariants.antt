-- A step in each turn; what is left to print gets shorter.
use Rattle.std.proofs.Common.{◌≡◌}
use Rattle.std.specs.Slice.Iter.{chunks_exact_rest, chunks_exact_size}
use Rattle.listings.specs.LawsStreams.{Printing}
use Rattle.listings.proofs.streams.put_stream.Given as goal

abbrev pub invariant-loop-step : goal.invariant-loop-step
invariant-loop-step l = record {
  three : chunks_exact_size l.step-iterator ≡ 3;
  left : Printing l.stream l.initial.out l.out l.at (chunks_exact_rest l.step-iterator);
}
