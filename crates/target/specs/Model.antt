-- Runs of any model of a target: entry, and then steps in turn, as many as it may take.
use Rattle.std.specs.Prelude.{ℕ, zero, suc, ◌+◌, ◌*◌, ◌/◌, min, List, eqb, length, get_or}
use Rattle.words.specs.Choice.{unless, pick}

-- what a step answers and leaves: its refusal or 0, and the target
pub record Effect (T : Type 0) : Type 0 where
  pub number : ℕ
  pub target : T

-- a step that is done, and one that is refused
abbrev pub done : {T : Type 0} → T → Effect T
done t = record { number = 0; target = t }

abbrev pub stops : {T : Type 0} → ℕ → T → Effect T
stops number t = record { number = number; target = t }

-- what a target is, the cells that it has, entry, what refuses a run before its first step, and what a step of this code and payload does
pub record Model : Type 1 where
  pub Target : Type 0
  pub cells : Target → List ℕ
  pub entry : (cells words : List ℕ) → Target
  pub judges : (stream cells : List ℕ) → ℕ
  pub step : (code payload : ℕ) → Target → Effect Target

-- step k of a stream: code, payload low, payload high
unfoldable pub code_at : List ℕ → ℕ → ℕ
code_at stream k = get_or stream (3 * k) 0

unfoldable pub payload_at : List ℕ → ℕ → ℕ
payload_at stream k = get_or stream (3 * k + 1) 0 + 256 * get_or stream (3 * k + 2) 0

-- where a run stands: its target, the steps completed, and the refusal that stopped it, or 0
pub record Run (T : Type 0) : Type 0 where
  pub target : T
  pub done : ℕ
  pub number : ℕ

-- a run to which a step has done this
unfoldable pub onward : {T : Type 0} → Run T → Effect T → Run T
onward r e = record { target = e.target; done = r.done + pick (eqb e.number 0) 1 0; number = e.number }

-- the next step, if no step was refused
unfoldable pub turn : (M : Model) → List ℕ → Run M.Target → Run M.Target
turn M stream r = unless (eqb r.number 0) r (onward r (M.step (code_at stream r.done) (payload_at stream r.done) r.target))

-- the run after n turns
unfoldable pub after : (M : Model) → List ℕ → Run M.Target → ℕ → Run M.Target
after M stream r zero = r
after M stream r (suc n) = turn M stream (after M stream r n)

-- a run at its entry
unfoldable pub started : (M : Model) → (number : ℕ) → (cells words : List ℕ) → Run M.Target
started M number cells words = record { target = M.entry cells words; done = 0; number = number }

-- it may take so many steps, and the stream has so many
unfoldable pub run_of : (M : Model) → (stream : List ℕ) → (allowance : ℕ) → (cells words : List ℕ) → Run M.Target
run_of M stream allowance cells words = after M stream (started M (M.judges stream cells) cells words) (min allowance (length stream / 3))
