-- The words of configuration space that a task writes, safe against every cut.
use Prim.Native.Nat.{ℕ, zero, suc, ◌+◌, ◌/◌, ◌%◌, ◌≤◌, ◌<◌}
use Rattle.std.proofs.Common.{add-zero, zero-add, not-suc-le-zero, mod-lt, div-lt_iff_lt-mul, ap, ◌∙◌, inr, get_or-set_same}
use native.Mathlib.Omega.{arith}
use Rattle.std.specs.Prelude.{◌≡◌, refl, ltb, length, set}
use Rattle.std.proofs.Math.Path.{subst}
use Rattle.std.proofs.Math.Bool.{true, false}
use mathlib.Core.List.{List, [], ◌∷◌}
use Rattle.std.proofs.Math.ListN.{get_or}
use Rattle.words.specs.Word.{erased}
use Rattle.words.specs.LawsChoice.{true_not_false, first_fails}
use Rattle.target.specs.Chip.{Chip}
use Rattle.target.specs.Step.{effect}
use Rattle.target.specs.Crash.{Safe}
use Rattle.target.specs.Board.{board_of}
use Rattle.target.specs.LawsChip.{SoundChip, Burning}
use Rattle.target.specs.LawsCrash.{safe_one, safe_stay, safe_seq, safe_pick, safe_weaken}
use Rattle.words.specs.LawsTests.{by_eq}
use Rattle.target.specs.declared.Order.TheVariants.{Begin, RowErase}
use Rattle.aim.specs.Wanted.{some}
use Rattle.plan.specs.Steps.{Task, walk, erasing, word_steps, writes_from, config_steps}
use Rattle.aim.specs.LawsSome.{some_none}
use Rattle.plan.specs.LawsSafe.{SoundTask, Kept, spoken, spoken_word, wiped_word, writes_within}
use Rattle.plan.specs.LawsSafeSteps.{At, Free, Any, length_blank, safe_load, safe_configuration, safe_walk}
use Rattle.plan.specs.LawsSafeBlocks.{Rows}
use Rattle.plan.specs.LawsSafeRows.{safe_erasing}
use Rattle.plan.specs.LawsSafeWords.{Config, word_torn, word_done, ids_torn, ids_done}

module _ (chip : Chip) (sound : SoundChip chip) (b : Burning chip) (t : Task) (g : SoundTask chip b t) (first words : List ℕ) where
  abbrev I : List ℕ → Type 0
  I = Kept chip b t first

  abbrev Co : ℕ → List ℕ → Type 0
  Co = Config chip b t first

  abbrev offset : ℕ → ℕ
  offset k = t.word (chip.words + k)

  -- one word: up to it, load, Begin
  safe_word : (k at : ℕ) → at ≤ k → t.writes k ≡ true
      → Safe (board_of chip words) I (At chip (chip.base + at) Any (Co k)) (word_steps (offset k) at k) (At chip (chip.base + k) Any (Co (k + 1)))
  unfolding word_steps effect
  safe_word k at h chosen =
      let near : k < chip.reading_tail = writes_within chip sound b t g k chosen in
      let room : chip.reading_tail < chip.base = sound.apart in
      safe_seq (board_of chip words) I _ (At chip (chip.base + k) Any (Co k)) _ (walk at k) _
      (safe_walk chip words I (Co k) (λ c q. q.kept) at k chip.base Any h (inr (omega arith, omega arith)))
      (safe_load chip words I (Co k) (λ c q. q.kept) (Begin ∷ []) (chip.base + k) (offset k) Any Loaded loads_it
      (safe_one (board_of chip words) I (At chip (chip.base + k) Loaded (Co k)) (At chip (chip.base + k) Any (Co (k + 1))) Begin (λ x q. refl)
      (λ x q. record { here = q.here; wide = length_blank chip; lies = tt; holds = rw q.here (word_done chip sound b t g first k x.registers.latches x.cells chosen q.lies q.holds) })
      (λ x q c torn. word_torn chip sound b t g first k x.registers.latches x.cells chosen q.lies q.holds c (rw q.here at torn))))
    where
      Loaded : List ℕ → Type 0
      Loaded l = get_or l ((chip.base + k) % chip.group) 0 ≡ offset k

      loads_it : (l : List ℕ) → length l ≡ chip.places → Any l → Loaded (set l ((chip.base + k) % chip.group) (offset k))
      loads_it l e u =
          let y : (chip.base + k) % chip.group < chip.group = mod-lt (chip.base + k) sound.some_latch in
          let z : chip.group ≤ chip.places = sound.carried in
          get_or-set_same l ((chip.base + k) % chip.group) (offset k) 0 (omega arith)

  pass : (k : ℕ) (c : List ℕ) → t.writes k ≡ false → Co k c → Co (k + 1) c
  pass k c n q =
      record {
        kept = q.kept;
        program = q.program;
        done = λ j h z. by_eq j k (λ x. absurd (true_not_false z (ap t.writes x ∙ n))) (λ x. q.done j (omega arith) z);
        can = q.can;
      }

  safe_writes : (n k at : ℕ) → at ≤ k
      → Safe (board_of chip words) I (At chip (chip.base + at) Any (Co k)) (writes_from offset t.writes n k at) (Free chip (Co (k + n)))
  unfolding writes_from
  safe_writes zero k at h = safe_stay (board_of chip words) I (λ x q. record { wide = q.wide; holds = rw (add-zero k) q.holds })
  safe_writes (suc n) k at h =
      let sum : k + 1 + n ≡ k + suc n = omega arith in
      safe_pick (board_of chip words) I (t.writes k) _ _
      (λ e. safe_seq (board_of chip words) I _ (At chip (chip.base + k) Any (Co (k + 1))) _ (word_steps (offset k) at k) _ (safe_word k at h e)
      (subst (λ m. Safe (board_of chip words) I (At chip (chip.base + k) Any (Co (k + 1))) (writes_from offset t.writes n (k + 1) k) (Free chip (Co m))) sum (safe_writes n (k + 1) k (omega arith))))
      (λ e. safe_weaken (board_of chip words) I (At chip (chip.base + at) Any (Co (k + 1))) _ (Free chip (Co (k + 1 + n))) _ (writes_from offset t.writes n (k + 1) at)
      (λ x q. record { here = q.here; wide = q.wide; lies = tt; holds = pass k x.cells e q.holds })
      (λ x q. subst (λ m. Free chip (Co m) x) sum q) (safe_writes n (k + 1) at (omega arith)))

  all_rows : (c : List ℕ) → Rows chip b t first (chip.words / chip.row) c → (i : ℕ) → i < chip.words → spoken chip t i ≡ true → get_or c i 0 ≡ t.word i
  all_rows c q i h z = q.done i h ((div-lt_iff_lt-mul sound.some_row).1 (rw (← sound.whole) at h)) z

  erase_ids_lem : Safe (board_of chip words) I (At chip chip.base Any (Rows chip b t first (chip.words / chip.row))) (erasing t.erase_ids) (At chip chip.base Any (Co 0))
  unfolding effect
  erase_ids_lem =
      safe_erasing chip words I _ _ t.erase_ids
      (λ y. safe_one (board_of chip words) I _ _ RowErase (λ x q. refl)
      (λ x q. record { here = q.here; wide = q.wide; lies = tt; holds = rw q.here (ids_done chip sound b t g first x.cells y q.holds.kept (all_rows x.cells q.holds)) })
      (λ x q c torn. ids_torn chip sound b t g first x.cells y q.holds.kept (all_rows x.cells q.holds) c (rw q.here at torn)))
      (λ n x q.
      record {
        here = q.here;
        wide = q.wide;
        lies = tt;
        holds = record {
          kept = q.holds.kept;
          program = all_rows x.cells q.holds;
          done = λ j h. absurd (not-suc-le-zero h);
          can = λ j z. q.holds.kept.holds (chip.words + j) (spoken_word chip t j ∙ z) (wiped_word chip t j ∙ first_fails t.erase_ids (ltb j chip.ids) n);
        };
      })

  -- all that is written is as wanted
  pub safe_config : Safe (board_of chip words) (Kept chip b t first) (Free chip (Rows chip b t first (chip.words / chip.row))) (config_steps chip t.erase_ids t.word t.writes)
      (Free chip (Config chip b t first chip.reading_tail))
  unfolding config_steps
  safe_config =
      safe_pick (board_of chip words) I (some chip.reading_tail t.writes) _ _
      (λ e. safe_configuration chip words I (Rows chip b t first (chip.words / chip.row)) (λ c q. q.kept) _ erased
      (safe_seq (board_of chip words) I _ (At chip chip.base Any (Co 0)) _ (erasing t.erase_ids) _ erase_ids_lem
      (subst (λ m. Safe (board_of chip words) I (At chip m Any (Co 0)) (writes_from offset t.writes chip.reading_tail 0 0) (Free chip (Co chip.reading_tail))) (add-zero chip.base)
      (rw (zero-add chip.reading_tail) at (safe_writes chip.reading_tail 0 0 (omega arith))))))
      (λ n. safe_stay (board_of chip words) I
      (λ x q.
      record {
        wide = q.wide;
        holds = record {
          kept = q.holds.kept;
          program = all_rows x.cells q.holds;
          done = λ j h z. absurd (true_not_false z (none n j z));
          can = λ j z. absurd (true_not_false z (none n j z));
        };
      }))
    where
      none : some chip.reading_tail t.writes ≡ false → (j : ℕ) → t.writes j ≡ true → t.writes j ≡ false
      none n j z = some_none chip.reading_tail t.writes n j (writes_within chip sound b t g j z)
