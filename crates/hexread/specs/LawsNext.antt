-- Laws of reading HEX text by lines that are taken one after another.
use Rattle.std.specs.Prelude.{ℕ, ◌+◌, ◌-◌, ◌≤◌, ◌<◌, ◌≡◌, Bool, Ok, Err, List, take, drop}
use Rattle.std.proofs.Common.{arith, length-drop, length-take-le}
use Rattle.std.proofs.Math.Path.{refl}
use Rattle.std.proofs.Math.ListN.{length}
use Rattle.refusal.specs.Refusal.{number_of}
use Rattle.refusal.specs.LawsRefusal.{number_of_positive}
use Rattle.lines.specs.Lines.{line_at, next_line}
use Rattle.lines.specs.LawsNext.{Taken, next_left}
use Rattle.lines.specs.declared.NextLine.{NextLine}
use Rattle.hexread.specs.Reader.{most_text}
use Rattle.hexread.specs.LawsGive.{reading}
use Rattle.hexread.specs.LawsReader.{Ahead, LinesRead, ahead_on, lines_refused}
use Rattle.hexread.specs.LawsFault.{refusal_of, fault_column}
use Rattle.hexread.specs.declared.fault.Fault.{Fault}
use Rattle.hexread.specs.LawsTaken.{LineTaken}

-- `line` lines are read, and the next one is taken
module _ (words : ℕ) (text image₀ : List ℕ) (at line : ℕ) (ended : Bool) (upper : ℕ) (image : List ℕ) (a : Ahead words text image₀ at (line + 1) ended upper image)
    (left : at < length text) (n : NextLine) (e : n ≡ next_line text at line) where
  pub line_left : Taken text at line n
  line_left = next_left text at line n e left (omega (arith, a))

  pub line_fits : length (take (n.stop - at) (drop at text)) ≤ most_text
  line_fits =
      let t : Taken text at line n = line_left in
      let within : n.stop - at ≤ length (drop at text) = (rw length-drop (omega (arith, t.within))) in
      rw (length-take-le (n.stop - at) (drop at text) within) (omega (arith, t.within, a.short))

  module _ (ended' : Bool) (upper' : ℕ) (image' : List ℕ) where
    pub ahead_next : LineTaken words (take (n.stop - at) (drop at text)) (reading ended upper image 0) (reading ended' upper' image' 0) (Ok tt)
        → length image' ≡ length image → Ahead words text image₀ n.at (n.line + 1) ended' upper' image'
    ahead_next taken l =
        rw (line_left.at_is, line_left.number_is) (ahead_on words text image₀ at (line + 1) ended upper image a left ended' upper' image' 0 (rw (← line_left.line_is) taken.step) l refl)

    module _ (f : Fault) (taken : LineTaken words (take (n.stop - at) (drop at text)) (reading ended upper image 0) (reading ended' upper' image' (number_of (refusal_of f))) (Err f)) where
      here : LineTaken words (line_at text at) (reading ended upper image 0) (reading ended' upper' image' (number_of (refusal_of f))) (Err f)
      here = rw (← line_left.line_is) taken

      pub refused_next : LinesRead words text image₀ (record { number = number_of (refusal_of f); line = n.line; column = fault_column f (take (n.stop - at) (drop at text)) }) image'
      refused_next =
          rw line_left.number_is
          (lines_refused words text image₀ at (line + 1) ended upper image a left ended' upper' image' (number_of (refusal_of f)) here.step
          (λ z. absurd (omega (arith, number_of_positive (refusal_of f), z))) _ (rw line_left.line_is here.column_is))
