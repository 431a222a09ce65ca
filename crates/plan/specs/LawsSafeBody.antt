-- The body of a stream: the rows, the words of configuration space; and what it leaves.
use Rattle.std.specs.Prelude.{ℕ, ◌+◌, ◌-◌, ◌/◌, ◌≡◌, List}
use Rattle.std.proofs.Common.{not-suc-le-zero, arith, ◌∙◌}
use Rattle.std.proofs.Math.Path.{sym}
use Rattle.std.proofs.Math.Bool.{true}
use Rattle.std.proofs.Math.ListN.{get_or}
use Rattle.words.specs.Choice.{pick}
use Rattle.words.specs.Lists.{build}
use Rattle.words.specs.LawsLists.{built}
use Rattle.words.specs.LawsChoice.{pick_true, pick_false}
use Rattle.target.specs.Chip.{Chip}
use Rattle.target.specs.Step.{Target}
use Rattle.target.specs.Crash.{Safe}
use Rattle.target.specs.Board.{board_of}
use Rattle.target.specs.LawsChip.{SoundChip, Burning}
use Rattle.target.specs.LawsCrash.{safe_seq, safe_weaken}
use Rattle.words.specs.LawsTests.{by_test, by_lt}
use Rattle.plan.specs.Steps.{Task, rows_from, config_steps, body_of}
use Rattle.plan.specs.LawsSafe.{SoundTask, Kept, spoken, spoken_past, writes_within}
use Rattle.plan.specs.LawsSafeSteps.{At, Free, Any}
use Rattle.plan.specs.LawsSafeBlocks.{Rows}
use Rattle.plan.specs.LawsSafeRows.{safe_rows}
use Rattle.plan.specs.LawsSafeWords.{Config}
use Rattle.plan.specs.LawsSafeConfig.{safe_config}

-- each cell that is spoken of is as wanted, each other one is the first cells'
unfoldable pub finished : Chip → Task → (first : List ℕ) → List ℕ
finished chip t first = build (chip.words + chip.cells_tail) (λ i. pick (spoken chip t i) (t.word i) (get_or first i 0))

module _ (chip : Chip) (sound : SoundChip chip) (b : Burning chip) (t : Task) (g : SoundTask chip b t) (first : List ℕ) where
  ends : (c : List ℕ) → Config chip b t first chip.reading_tail c → c ≡ finished chip t first
  unfolding finished
  ends c q =
      built c (chip.words + chip.cells_tail) _ q.kept.long
      (λ i h. by_test (spoken chip t i) (λ e. wanted i e ∙ sym (pick_true (spoken chip t i) _ _ e)) (λ e. q.kept.kept i e ∙ sym (pick_false (spoken chip t i) _ _ e)))
    where
      past : (i k : ℕ) → chip.words + k ≡ i → t.writes k ≡ true → get_or c i 0 ≡ t.word i
      past i k e w = rw e at (q.done k (writes_within chip sound b t g k w) w)

      wanted : (i : ℕ) → spoken chip t i ≡ true → get_or c i 0 ≡ t.word i
      wanted i e = by_lt i chip.words (λ h. q.program i h e) (λ h. past i (i - chip.words) (omega arith) (sym (spoken_past chip t i h) ∙ e))

  -- from the counter at 0, whatever the latches hold
  pub safe_body : (words : List ℕ) → Safe (board_of chip words) (Kept chip b t first) (At chip 0 Any (Kept chip b t first)) (body_of chip t) (λ (x : Target). x.cells ≡ finished chip t first)
  unfolding body_of
  safe_body words =
      safe_weaken (board_of chip words) (Kept chip b t first) (At chip 0 Any (Rows chip b t first 0)) _ (Free chip (Config chip b t first chip.reading_tail)) _ _
      (λ x q. record { here = q.here; wide = q.wide; lies = tt; holds = record { kept = q.holds; done = λ i h z. absurd (not-suc-le-zero z) } })
      (λ x q. ends x.cells q.holds)
      (safe_seq (board_of chip words) (Kept chip b t first) _ (Free chip (Rows chip b t first (chip.words / chip.row))) _
      (rows_from chip t.erase_row t.word t.rows (chip.words / chip.row) 0 0) (config_steps chip t.erase_ids t.word t.writes)
      (safe_rows chip sound b t g first words (chip.words / chip.row) 0 0 (omega arith) (omega arith)) (safe_config chip sound b t g first words))
