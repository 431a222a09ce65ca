-- A cut at a step, a stream begun again any number of times ('Steps of the target'), and what it is to recover, for any model.
use Rattle.std.specs.Prelude.{ℕ, suc, ◌/◌, ◌≤◌, ◌<◌, ◌≡◌, List, length, get_or}
use Rattle.words.specs.Word.{Between}
use Rattle.target.specs.Model.{Model, after, started, run_of}

-- of the bits that change between two cells, any set has changed and the rest has not
pub record Torn (before after cells : List ℕ) : Type 0 where
  pub long : length cells ≡ length before
  pub bits : (i : ℕ) → Between (get_or before i 0) (get_or after i 0) (get_or cells i 0)

-- the cells after entry and n steps of a stream
unfoldable pub cells_at : (M : Model) → (stream words first : List ℕ) → ℕ → List ℕ
cells_at M stream words first n = M.cells (after M stream (started M 0 first words) n).target

-- a run that is cut: the steps before are done in full, and the step at the cut in part
pub record CutRun (M : Model) (stream words first cells : List ℕ) : Type 0 where
  pub at : ℕ
  pub inside : at < length stream / 3
  pub torn : Torn (cells_at M stream words first at) (cells_at M stream words first (suc at)) cells

-- any number of cut runs, one after another, each from entry and from the stream's start, and each with a buffer of its own for words read
pub data CutRuns (M : Model) (stream first : List ℕ) : List ℕ → Type 0 where
  none : CutRuns M stream first first
  again : {c e : List ℕ} (words : List ℕ) → CutRuns M stream first c → CutRun M stream words c e → CutRuns M stream first e

-- from whatever any number of cut runs leave, no run at all among them, a run that may take all steps is not refused,
-- completes them all, and leaves just these cells, whatever buffers each of the runs has for words read
pub record Recovers (M : Model) (stream first last : List ℕ) : Type 0 where
  pub recovers : (words c : List ℕ) → CutRuns M stream first c → (n : ℕ) → length stream / 3 ≤ n
      → ((run_of M stream n c words).number ≡ 0) × ((run_of M stream n c words).done ≡ length stream / 3) × (M.cells (run_of M stream n c words).target ≡ last)
