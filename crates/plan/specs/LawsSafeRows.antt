-- The program rows of a task, safe against every cut.
use Prim.Native.Nat.{ℕ, zero, suc, ◌+◌, ◌-◌, ◌*◌, ◌/◌, ◌≤◌, ◌<◌}
use Rattle.std.proofs.Common.{add-zero, mul_assoc, not-suc-le-zero, ◌∙◌, inl}
use Rattle.std.proofs.Math.Nat.{zero-add}
use native.Mathlib.Omega.{arith}
use Rattle.std.specs.Prelude.{◌≡◌, refl, Bool, true, false}
use Rattle.std.proofs.Math.Path.{sym, ap, subst}
use mathlib.Core.List.{List, [], ◌∷◌, ◌++◌}
use Rattle.std.proofs.Math.Arith.{digits_div, digits_lt}
use Rattle.words.specs.LawsChoice.{true_not_false}
use Rattle.target.specs.Chip.{Chip}
use Rattle.target.specs.Step.{Target, place, effect}
use Rattle.target.specs.Crash.{Safe}
use Rattle.target.specs.Board.{board_of}
use Rattle.target.specs.LawsChip.{SoundChip, Burning}
use Rattle.target.specs.LawsCrash.{safe_one, safe_stay, safe_first, safe_seq, safe_pick, safe_weaken}
use Rattle.words.specs.LawsTests.{by_eq}
use Rattle.target.specs.declared.Order.{Order}
use Rattle.target.specs.declared.Order.TheVariants.{Increment, Begin, RowErase}
use Rattle.plan.specs.Steps.{Task, walk, loads, set_steps, erasing, row_steps, rows_from}
use Rattle.plan.specs.LawsSafe.{SoundTask, Kept, spoken_program}
use Rattle.plan.specs.LawsSafeSteps.{At, Free, Any, Filled, length_blank, safe_increment, safe_walk, safe_loads}
use Rattle.plan.specs.LawsSafeBlocks.{Rows, Ready, ready_as_it_is, row_done, erase_torn, erase_done, write_torn, write_done}

-- Row Erase where it is asked for
pub safe_erasing : (chip : Chip) (words : List ℕ) (I : List ℕ → Type 0) (A B : Target → Type 0) (b : Bool)
    → (b ≡ true → Safe (board_of chip words) I A (RowErase ∷ []) B) → (b ≡ false → (x : Target) → A x → B x) → Safe (board_of chip words) I A (erasing b) B
unfolding erasing
safe_erasing chip words I A B true f g = f refl
safe_erasing chip words I A B false f g = safe_stay (board_of chip words) I (g refl)

module _ (chip : Chip) (sound : SoundChip chip) (b : Burning chip) (t : Task) (g : SoundTask chip b t) (first words : List ℕ) where
  abbrev count : ℕ
  count = chip.words / chip.row

  -- ---- places

  row_start : (k : ℕ) → k * chip.sets * chip.group ≡ k * chip.row
  row_start k = mul_assoc k chip.sets chip.group ∙ ap (λ n. k * n) (sym sound.split)

  row_in : (k i : ℕ) → k < count → i < chip.row → k * chip.row + i < chip.words
  row_in k i h q = let e : k * chip.row + i < count * chip.row = digits_lt h q in let w : count * chip.row ≡ chip.words = sound.whole in omega arith

  set_in : (k j i : ℕ) → k < count → j < chip.sets → i < chip.group → (k * chip.sets + j) * chip.group + i < chip.words
  set_in k j i h q r =
      let e : (k * chip.sets + j) * chip.group + i < count * chip.sets * chip.group = digits_lt (digits_lt h q) r in
      let f : count * chip.sets * chip.group ≡ count * chip.row = row_start count in
      let w : count * chip.row ≡ chip.words = sound.whole in
      omega arith

  row_end : (k : ℕ) → (k * chip.sets + (chip.sets - 1)) * chip.group + (chip.group - 1) ≡ k * chip.row + (chip.row - 1)
  row_end k =
      let u : 0 < chip.sets = sound.some_set in
      let v : 0 < chip.group = sound.some_latch in
      let r : 0 < chip.row = sound.some_row in
      let e : suc (k * chip.sets + (chip.sets - 1)) ≡ suc k * chip.sets = omega arith in
      let f : suc (k * chip.sets + (chip.sets - 1)) * chip.group ≡ suc k * chip.row = ap (λ n. n * chip.group) e ∙ row_start (suc k) in
      omega arith

  -- ---- one row

  abbrev I : List ℕ → Type 0
  I = Kept chip b t first

  abbrev Ro : ℕ → List ℕ → Type 0
  Ro = Rows chip b t first

  abbrev Re : ℕ → ℕ → List ℕ → Type 0
  Re = Ready chip b t first

  module _ (k : ℕ) (h : k < count) (chosen : t.rows k ≡ true) where
    erase_row_lem : Safe (board_of chip words) I (At chip (k * chip.row) Any (Ro k)) (erasing (t.erase_row k)) (At chip (k * chip.row) Any (Re k 0))
    unfolding effect
    erase_row_lem =
        safe_erasing chip words I _ _ (t.erase_row k)
        (λ y. safe_one (board_of chip words) I _ _ RowErase (λ x q. refl)
        (λ x q. record { here = q.here; wide = q.wide; lies = tt; holds = erase_done chip sound b t g first (place x) k x.cells (low x q) (row x q) chosen y q.holds })
        (λ x q c torn. erase_torn chip sound b t g first (place x) k x.cells (low x q) (row x q) chosen y q.holds c torn))
        (λ n x q. record { here = q.here; wide = q.wide; lies = tt; holds = ready_as_it_is chip sound b t g first k chosen n x.cells q.holds })
      where
        low : (x : Target) → At chip (k * chip.row) Any (Ro k) x → place x < chip.words
        low x q = let e : place x ≡ k * chip.row = q.here in let z : k * chip.row + 0 < chip.words = row_in k 0 h sound.some_row in omega arith

        row : (x : Target) → At chip (k * chip.row) Any (Ro k) x → place x / chip.row ≡ k
        row x q = ap (λ n. n / chip.row) (q.here ∙ sym (add-zero (k * chip.row))) ∙ digits_div k sound.some_row

    abbrev last : ℕ → ℕ
    last j = (k * chip.sets + j) * chip.group + (chip.group - 1)

    abbrev Full : ℕ → List ℕ → Type 0
    Full j = Filled (λ i. t.word ((k * chip.sets + j) * chip.group + i)) chip.group

    -- one latch set: its loads, and then Begin
    load_set : (j a : ℕ) → j < chip.sets → a ≡ (k * chip.sets + j) * chip.group
        → Safe (board_of chip words) I (At chip a Any (Re k j)) (loads t.word a chip.group) (At chip (last j) (Full j) (Re k j))
    load_set j a q e =
        let v : 0 < chip.group = sound.some_latch in
        let z : (k * chip.sets + j) * chip.group + (chip.group - 1) < chip.words = set_in k j (chip.group - 1) h q (omega arith) in
        let y : chip.words ≤ chip.base = sound.below in
        let n : suc (chip.group - 1) ≡ chip.group = omega arith in
        safe_weaken (board_of chip words) I (At chip a (Filled (λ i. t.word ((k * chip.sets + j) * chip.group + i)) 0) (Re k j)) _ _ _ (loads t.word a chip.group)
        (λ x r. record { here = r.here; wide = r.wide; lies = λ i p. absurd (not-suc-le-zero p); holds = r.holds }) (λ x r. r)
        (subst (λ m. Safe (board_of chip words) I (At chip a (Filled (λ i. t.word ((k * chip.sets + j) * chip.group + i)) 0) (Re k j)) (loads t.word a m) (At chip (last j) (Full j) (Re k j))) n
        (safe_loads chip words I (Re k j) (λ c r. r.rows.kept) t.word (k * chip.sets + j) sound.carried (omega arith) (chip.group - 1) 0 a (omega arith) (omega arith)))

    safe_set : {C : Target → Type 0} (j a : ℕ) (s : List Order) → j < chip.sets → a ≡ (k * chip.sets + j) * chip.group
        → Safe (board_of chip words) I (At chip (last j) Any (Re k (j + 1))) s C
        → Safe (board_of chip words) I (At chip a Any (Re k j)) (loads t.word a chip.group ++ (Begin ∷ s)) C
    unfolding effect
    safe_set j a s q e f =
        safe_seq (board_of chip words) I _ (At chip (last j) (Full j) (Re k j)) _ (loads t.word a chip.group) (Begin ∷ s) (load_set j a q e)
        (safe_first (board_of chip words) I (At chip (last j) Any (Re k (j + 1))) Begin s (λ x r. refl)
        (λ x r.
        record {
          here = r.here;
          wide = length_blank chip;
          lies = tt;
          holds = write_done chip sound b t g first (place x) k j x.registers.latches x.cells (low x r) (mine x r) q chosen r.lies r.holds;
        })
        (λ x r c torn. write_torn chip sound b t g first (place x) k j x.registers.latches x.cells (low x r) (mine x r) q chosen r.lies r.holds c torn) f)
      where
        short : chip.group - 1 < chip.group
        short = let v : 0 < chip.group = sound.some_latch in omega arith

        low : (x : Target) → At chip (last j) (Full j) (Re k j) x → place x < chip.words
        low x r = rw r.here (set_in k j (chip.group - 1) h q short)

        mine : (x : Target) → At chip (last j) (Full j) (Re k j) x → place x / chip.group ≡ k * chip.sets + j
        mine x r = rw r.here (digits_div (k * chip.sets + j) short)

    safe_sets : (n j a : ℕ) → j + suc n ≡ chip.sets → a ≡ (k * chip.sets + j) * chip.group
        → Safe (board_of chip words) I (At chip a Any (Re k j)) (set_steps chip t.word a (suc n)) (At chip (k * chip.row + (chip.row - 1)) Any (Ro (k + 1)))
    unfolding set_steps
    safe_sets zero j a q e =
        let all : j + 1 ≡ chip.sets = omega arith in
        let at_end : j ≡ chip.sets - 1 = omega arith in
        safe_set j a [] (omega arith) e
        (safe_stay (board_of chip words) I
        (λ x r.
        record {
          here = r.here ∙ (ap (λ n. (k * chip.sets + n) * chip.group + (chip.group - 1)) at_end ∙ row_end k);
          wide = r.wide;
          lies = tt;
          holds = row_done chip sound b t g first k x.cells (subst (λ n. Re k n x.cells) all r.holds);
        }))
    safe_sets (suc n) j a q e =
        let v : 0 < chip.group = sound.some_latch in
        let z : (k * chip.sets + (j + 1)) * chip.group + 0 < chip.words = set_in k (j + 1) 0 h (omega arith) v in
        let y : chip.words ≤ chip.base = sound.below in
        let next : last j + 1 ≡ a + chip.group = omega arith in
        safe_set j a (Increment ∷ set_steps chip t.word (a + chip.group) (suc n)) (omega arith) e
        (safe_increment chip words I (Re k (j + 1)) (λ c r. r.rows.kept) (set_steps chip t.word (a + chip.group) (suc n)) (last j) Any (inl (omega arith))
        (subst (λ m. Safe (board_of chip words) I (At chip m Any (Re k (j + 1))) (set_steps chip t.word (a + chip.group) (suc n)) (At chip (k * chip.row + (chip.row - 1)) Any (Ro (k + 1))))
        (sym next) (safe_sets n (j + 1) (a + chip.group) (omega arith) (omega arith))))

    safe_row : (at : ℕ) → at ≤ k * chip.row
        → Safe (board_of chip words) I (At chip at Any (Ro k)) (row_steps chip (t.erase_row k) t.word at (k * chip.row))
        (At chip (k * chip.row + (chip.row - 1)) Any (Ro (k + 1)))
    unfolding row_steps
    safe_row at p =
        let z : k * chip.row + 0 < chip.words = row_in k 0 h sound.some_row in
        let y : chip.words ≤ chip.base = sound.below in
        let u : 0 < chip.sets = sound.some_set in
        let n : suc (chip.sets - 1) ≡ chip.sets = omega arith in
        let start : k * chip.row ≡ (k * chip.sets + 0) * chip.group = sym (row_start k) ∙ ap (λ m. m * chip.group) (sym (add-zero (k * chip.sets))) in
        safe_seq (board_of chip words) I _ (At chip (k * chip.row) Any (Ro k)) _ (walk at (k * chip.row)) _
        (rw (zero-add at, zero-add (k * chip.row)) at (safe_walk chip words I (Ro k) (λ c r. r.kept) at (k * chip.row) 0 Any p (inl (omega arith))))
        (safe_seq (board_of chip words) I _ (At chip (k * chip.row) Any (Re k 0)) _ (erasing (t.erase_row k)) _ erase_row_lem
        (subst (λ m. Safe (board_of chip words) I (At chip (k * chip.row) Any (Re k 0)) (set_steps chip t.word (k * chip.row) m) (At chip (k * chip.row + (chip.row - 1)) Any (Ro (k + 1)))) n
        (safe_sets (chip.sets - 1) 0 (k * chip.row) (omega arith) start)))

  -- ---- all rows

  -- a row that is not written is done
  skip : (k : ℕ) (c : List ℕ) → t.rows k ≡ false → Ro k c → Ro (k + 1) c
  skip k c n q =
      record {
        kept = q.kept;
        done = λ i h x z.
            by_eq (i / chip.row) k (λ y. absurd (true_not_false z (spoken_program chip t i h ∙ (ap t.rows y ∙ n)))) (λ y. q.done i h (omega arith) z);
      }

  pub safe_rows : (n k at : ℕ) → k + n ≡ chip.words / chip.row → at ≤ k * chip.row
      → Safe (board_of chip words) (Kept chip b t first) (At chip at Any (Rows chip b t first k)) (rows_from chip t.erase_row t.word t.rows n k at)
      (Free chip (Rows chip b t first (chip.words / chip.row)))
  unfolding rows_from
  safe_rows zero k at h p = safe_stay (board_of chip words) I (λ x q. record { wide = q.wide; holds = subst (λ m. Ro m x.cells) (sym (add-zero k) ∙ h) q.holds })
  safe_rows (suc n) k at h p =
      let r : 0 < chip.row = sound.some_row in
      safe_pick (board_of chip words) I (t.rows k) _ _
      (λ e. safe_seq (board_of chip words) I _ (At chip (k * chip.row + (chip.row - 1)) Any (Ro (k + 1))) _ (row_steps chip (t.erase_row k) t.word at (k * chip.row)) _
      (safe_row k (omega arith) e at p) (safe_rows n (k + 1) (k * chip.row + (chip.row - 1)) (omega arith) (omega arith)))
      (λ e. safe_weaken (board_of chip words) I (At chip at Any (Ro (k + 1))) _ _ _ (rows_from chip t.erase_row t.word t.rows n (k + 1) at)
      (λ x q. record { here = q.here; wide = q.wide; lies = tt; holds = skip k x.cells e q.holds }) (λ x q. q) (safe_rows n (k + 1) at (omega arith) (omega arith)))
