-- This family's machine for the crash logic, for any chip: its targets, its orders, and what a cut leaves.
use Rattle.std.specs.Prelude.{ℕ, ◌≡◌, List}
use Rattle.target.specs.Chip.{Chip}
use Rattle.target.specs.Step.{Target, effect, unread}
use Rattle.target.specs.Run.{entered}
use Rattle.target.specs.Cut.{Torn}
use Rattle.target.specs.Crash.{Machine}
use Rattle.target.specs.declared.Order.{Order}

-- entry lends this buffer for words read
abbrev pub board_of : Chip → (words : List ℕ) → Machine (List ℕ)
board_of chip words =
    record {
      State = Target;
      Order = Order;
      step = λ o t. (effect chip o t).target;
      mem = λ t. t.cells;
      entry = λ c. unread (entered chip) c words;
      Takes = λ o t. (effect chip o t).number ≡ 0;
      Tears = λ o t c. Torn t.cells (effect chip o t).target.cells c;
    }
