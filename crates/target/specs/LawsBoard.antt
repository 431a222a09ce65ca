-- This family's orders are spelt in its steps: what holds of any machine's runs and cuts holds of runs on any chip.
use Rattle.std.specs.Prelude.{ℕ, ◌/◌, ◌%◌, ◌≡◌, List, [], ◌∷◌, ◌++◌}
use Rattle.std.proofs.Math.Path.{refl}
use Rattle.std.proofs.Common.{ap, ◌∙◌}
use Rattle.target.specs.Chip.{Chip}
use Rattle.target.specs.Step.{Do, Target, effect, step_effect, decoded, unread}
use Rattle.target.specs.Run.{entered, model_on}
use Rattle.target.specs.Model.{done}
use Rattle.target.specs.Cut.{Torn, Recovers}
use Rattle.target.specs.Crash.{Safe}
use Rattle.target.specs.Board.{board_of}
use Rattle.target.specs.Stream.{code_of, payload_of, step_bytes, bytes_of}
use Rattle.target.specs.LawsStream.{FitsOrder, FitsAll, decoded_order}
use Rattle.target.specs.LawsSpelt.{Spelling, recovers_to}
use Rattle.target.specs.declared.Order.{Order}

pub no_bytes : bytes_of [] ≡ []
unfolding bytes_of
no_bytes = refl

pub three_bytes : (o : Order) (s : List Order) → bytes_of (o ∷ s) ≡ (code_of o ∷ payload_of o % 256 ∷ payload_of o / 256 ∷ []) ++ bytes_of s
unfolding bytes_of step_bytes
three_bytes o s = refl

module _ (chip : Chip) (judges : (stream cells : List ℕ) → ℕ) where
  pub order_does : (o : Order) (t : Target) → FitsOrder o → (effect chip o t).number ≡ 0 → step_effect chip (decoded (code_of o) (payload_of o)) t ≡ done (effect chip o t).target
  order_does o t f e = ap (λ x. step_effect chip x t) (decoded_order o f) ∙ (opened ∙ (λ i. record { number = e i; target = (effect chip o t).target }))
    where
      opened : step_effect chip (Do o) t ≡ effect chip o t
      opened = unfold step_effect in refl

  -- the orders of any chip, whose machine is `board_of`
  abbrev pub spelling : Spelling (model_on chip judges)
  spelling =
      record {
        Order = Order;
        step = λ o t. (effect chip o t).target;
        Takes = λ o t. (effect chip o t).number ≡ 0;
        Tears = λ o t c. Torn t.cells (effect chip o t).target.cells c;
        code = code_of;
        payload = payload_of;
        bytes = bytes_of;
        Fits = FitsAll;
        bytes_none = no_bytes;
        bytes_more = three_bytes;
        fits_rest = λ o s f. f.1;
        does = λ o s t f e. order_does o t f.0 e;
        tears = λ o t c h. h;
      }

  -- a stream that is safe on the board, whatever the buffer, from whatever it may be begun again on, leaves just these cells in the end
  pub chip_recovers_to : (I : List ℕ → Type 0) (A B : List ℕ → Target → Type 0) (s : List Order) (first last : List ℕ)
      → FitsAll s
      → ((words : List ℕ) → Safe (board_of chip words) I (A words) s (B words))
      → ((words c : List ℕ) → I c → A words (unread (entered chip) c words))
      → ((c : List ℕ) → I c → judges (bytes_of s) c ≡ 0)
      → ((words : List ℕ) (t : Target) → B words t → t.cells ≡ last)
      → I first → Recovers (model_on chip judges) (bytes_of s) first last
  chip_recovers_to I A B s first last f safe enters judged ends i = recovers_to (model_on chip judges) spelling I A B s f safe enters first last judged ends i
