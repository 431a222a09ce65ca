-- Row Erase and Begin at a program row that a task writes: what they leave of the cells, whole or torn.
use Rattle.std.specs.Prelude.{ℕ, ◌+◌, ◌*◌, ◌/◌, ◌%◌, ◌<◌, ◌≡◌, Bool, true, false, List, get_or}
use Rattle.std.proofs.Common.{div-add-mod', mod-lt, mul_comm, arith, sym, ap, ◌∙◌}
use Rattle.std.proofs.Math.Nat.{div-div-eq-div-mul}
use Rattle.std.proofs.Math.Arith.{digits_div}
use Rattle.words.specs.Word.{erased}
use Rattle.words.specs.LawsChoice.{true_not_false}
use Rattle.target.specs.Chip.{Chip}
use Rattle.target.specs.Effects.{locked, edit, row_erased, begin_written, burnt, latch_of}
use Rattle.target.specs.Cut.{Torn}
use Rattle.target.specs.LawsChip.{SoundChip, Burning}
use Rattle.target.specs.LawsEdit.{edit_hit, edit_kept}
use Rattle.words.specs.LawsTests.{by_test, by_eq, fails}
use Rattle.target.specs.LawsTorn.{torn_edit}
use Rattle.target.specs.LawsBlocks.{Block, row_hits, row_hit, begin_hits, begin_hit, burnt_program}
use Rattle.plan.specs.Steps.{Task}
use Rattle.plan.specs.LawsSafe.{SoundTask, Kept, spoken, wiped, spoken_program, wiped_program, hit_inside, same_lock, kept_program}
use Rattle.plan.specs.LawsSafeSteps.{Filled}

-- a write makes words of words
pub burnt_fits : (chip : Chip) (b : Burning chip) (a : ℕ) (latches c : List ℕ) → ((i : ℕ) → get_or c i 0 < 0x4000) → (i : ℕ) → burnt chip a latches c i < 0x4000
unfolding burnt
burnt_fits chip b a latches c fits i = b.burn_fits i (get_or c i 0) (latch_of chip a latches i) (fits i)

-- ---- progress

-- the rows before row k are as wanted
pub record Rows (chip : Chip) (b : Burning chip) (t : Task) (first : List ℕ) (k : ℕ) (c : List ℕ) : Type 0 where
  pub kept : Kept chip b t first c
  pub done : (i : ℕ) → i < chip.words → i / chip.row < k → spoken chip t i ≡ true → get_or c i 0 ≡ t.word i

-- and so are j latch sets of row k; all of row k can still take its words, unless the board is protected
pub record Ready (chip : Chip) (b : Burning chip) (t : Task) (first : List ℕ) (k j : ℕ) (c : List ℕ) : Type 0 where
  pub rows : Rows chip b t first k c
  pub part : (i : ℕ) → i < chip.words → i / chip.row ≡ k → i / chip.group < k * chip.sets + j → spoken chip t i ≡ true → get_or c i 0 ≡ t.word i
  pub ready : locked chip c ≡ false → (i : ℕ) → i < chip.words → i / chip.row ≡ k → b.Can i (get_or c i 0) (t.word i)

module _ (chip : Chip) (sound : SoundChip chip) (b : Burning chip) (t : Task) (g : SoundTask chip b t) (first : List ℕ) where
  row_of : (i : ℕ) → i / chip.row ≡ i / chip.group / chip.sets
  row_of i = ap (λ n. i / n) (sound.split ∙ mul_comm chip.sets chip.group) ∙ sym (div-div-eq-div-mul i chip.group chip.sets)

  set_of : (k i : ℕ) → i / chip.row ≡ k → k * chip.sets + i / chip.group % chip.sets ≡ i / chip.group
  set_of k i e = ap (λ n. n * chip.sets + i / chip.group % chip.sets) (sym e ∙ row_of i) ∙ div-add-mod' (i / chip.group) chip.sets

  speaks : (k i : ℕ) → t.rows k ≡ true → i < chip.words → i / chip.row ≡ k → spoken chip t i ≡ true
  speaks k i e h x = spoken_program chip t i h ∙ (ap t.rows x ∙ e)

  -- no set of a row is done yet
  no_part : (k : ℕ) (c : List ℕ) (i : ℕ) → i < chip.words → i / chip.row ≡ k → i / chip.group < k * chip.sets + 0 → spoken chip t i ≡ true → get_or c i 0 ≡ t.word i
  no_part k c i h x q z = let y : k * chip.sets + i / chip.group % chip.sets ≡ i / chip.group = set_of k i x in absurd (omega arith)

  -- a row that is not erased is ready as it is
  pub ready_as_it_is : (k : ℕ) → t.rows k ≡ true → t.erase_row k ≡ false → (c : List ℕ) → Rows chip b t first k c → Ready chip b t first k 0 c
  ready_as_it_is k e n c q =
      record {
        rows = q;
        part = no_part k c;
        ready = λ bare i h x. q.kept.holds i (speaks k i e h x) (wiped_program chip t i h ∙ (ap t.erase_row x ∙ n));
      }

  -- all sets of a row are done
  pub row_done : (k : ℕ) (c : List ℕ) → Ready chip b t first k chip.sets c → Rows chip b t first (k + 1) c
  row_done k c q =
      record {
        kept = q.rows.kept;
        done = λ i h x z.
            by_eq (i / chip.row) k
            (λ y. q.part i h y
            (let e : k * chip.sets + i / chip.group % chip.sets ≡ i / chip.group = set_of k i y in
            let f : i / chip.group % chip.sets < chip.sets = mod-lt (i / chip.group) sound.some_set in
            omega arith) z)
            (λ y. q.rows.done i h (omega arith) z);
      }

  -- ---- Row Erase

  module _ (a k : ℕ) (c : List ℕ) (low : a < chip.words) (here : a / chip.row ≡ k) (chosen : t.rows k ≡ true) (erases : t.erase_row k ≡ true) (q : Rows chip b t first k c) where
    abbrev erase : ℕ → Bool
    erase = row_erased chip a c

    e_hits : (i : ℕ) → erase i ≡ true → Block chip chip.row a c i
    e_hits i e = row_hits chip sound c i a low e

    e_talks : (i : ℕ) → erase i ≡ true → spoken chip t i ≡ true
    e_talks i e = speaks k i chosen (e_hits i e).program ((e_hits i e).same ∙ here)

    e_wiped : (i : ℕ) → i < chip.words → i / chip.row ≡ k → wiped chip t i ≡ true
    e_wiped i h x = wiped_program chip t i h ∙ (ap t.erase_row x ∙ erases)

    e_makes : (i : ℕ) → erase i ≡ true → wiped chip t i ≡ false → erased ≡ t.word i
    e_makes i e z = absurd (true_not_false (e_wiped i (e_hits i e).program ((e_hits i e).same ∙ here)) z)

    e_small : (i : ℕ) → erased < 0x4000
    e_small i = omega arith

    e_low : (i : ℕ) → erase i ≡ true → (locked chip c ≡ false) × (i < chip.words)
    e_low i e = ((e_hits i e).bare, (e_hits i e).program)

    pub erase_torn : (w : List ℕ) → Torn c (edit (row_erased chip a c) (λ i. erased) c) w → Kept chip b t first w
    erase_torn w torn = kept_program chip sound b t g first erase (λ i. erased) c q.kept e_small e_talks e_makes w torn e_low

    pub erase_done : Ready chip b t first k 0 (edit (row_erased chip a c) (λ i. erased) c)
    erase_done =
        record {
          rows = record {
            kept = erase_torn left (torn_edit erase (λ i. erased) c);
            done = λ i h x z.
                edit_kept erase (λ i. erased) c i (fails (erase i) (λ e. let u : i / chip.row ≡ a / chip.row = (e_hits i e).same in absurd (omega arith))) ∙ q.done i h x z;
          };
          part = no_part k left;
          ready = λ n i h x.
              rw (gone i h x (sym same ∙ n)) (b.can_erased i (t.word i) (g.able i (speaks k i chosen h x) (e_wiped i h x)));
        }
      where
        left : List ℕ
        left = edit erase (λ i. erased) c

        same : locked chip left ≡ locked chip c
        same = same_lock chip sound b t g first erase (λ i. erased) c q.kept e_small e_talks e_makes left (torn_edit erase (λ i. erased) c) e_low

        gone : (i : ℕ) → i < chip.words → i / chip.row ≡ k → locked chip c ≡ false → get_or left i 0 ≡ erased
        gone i h x n =
            let hits : erase i ≡ true = row_hit chip a c i low (record { bare = n; program = h; same = x ∙ sym here }) in
            edit_hit erase (λ i. erased) c i (hit_inside chip sound b t g first erase (λ i. erased) c q.kept e_small e_talks e_makes i hits) hits

  -- ---- Begin, with the words of latch set j of row k in the latches

  module _ (a k j : ℕ) (latches c : List ℕ) (low : a < chip.words) (here : a / chip.group ≡ k * chip.sets + j) (in_row : j < chip.sets) (chosen : t.rows k ≡ true)
      (full : Filled (λ i. t.word ((k * chip.sets + j) * chip.group + i)) chip.group latches) (q : Ready chip b t first k j c) where
    abbrev write : ℕ → Bool
    write = begin_written chip a c

    abbrev word : ℕ → ℕ
    word = burnt chip a latches c

    w_hits : (i : ℕ) → write i ≡ true → Block chip chip.group a c i
    w_hits i e = begin_hits chip sound c i a low e

    w_row : (i : ℕ) → write i ≡ true → i / chip.row ≡ k
    w_row i e = row_of i ∙ (ap (λ n. n / chip.sets) ((w_hits i e).same ∙ here) ∙ digits_div k in_row)

    w_talks : (i : ℕ) → write i ≡ true → spoken chip t i ≡ true
    w_talks i e = speaks k i chosen (w_hits i e).program (w_row i e)

    -- the latch of a cell of this set holds its word
    w_latch : (i : ℕ) → i / chip.group ≡ k * chip.sets + j → get_or latches (i % chip.group) 0 ≡ t.word i
    w_latch i e = full (i % chip.group) (mod-lt i sound.some_latch) ∙ ap t.word (ap (λ n. n * chip.group + i % chip.group) (sym e) ∙ div-add-mod' i chip.group)

    w_makes : (i : ℕ) → write i ≡ true → word i ≡ t.word i
    w_makes i e =
        burnt_program chip a c i low latches
        ∙ (ap (chip.burn i (get_or c i 0)) (w_latch i ((w_hits i e).same ∙ here))
        ∙ b.can_makes i (get_or c i 0) (t.word i) (q.ready (w_hits i e).bare i (w_hits i e).program (w_row i e)))

    w_small : (i : ℕ) → word i < 0x4000
    w_small i = burnt_fits chip b a latches c q.rows.kept.fits i

    w_low : (i : ℕ) → write i ≡ true → (locked chip c ≡ false) × (i < chip.words)
    w_low i e = ((w_hits i e).bare, (w_hits i e).program)

    pub write_torn : (w : List ℕ) → Torn c (edit (begin_written chip a c) (burnt chip a latches c) c) w → Kept chip b t first w
    write_torn w torn = kept_program chip sound b t g first write word c q.rows.kept w_small w_talks (λ i e z. w_makes i e) w torn w_low

    pub write_done : Ready chip b t first k (j + 1) (edit (begin_written chip a c) (burnt chip a latches c) c)
    write_done =
        record {
          rows = record {
            kept = after;
            done = λ i h x z. edit_kept write word c i (fails (write i) (λ e. let u : i / chip.row ≡ k = w_row i e in absurd (omega arith))) ∙ q.rows.done i h x z;
          };
          part = λ i h x u z.
              by_test (write i) (λ e. new i e)
              (λ e. by_test (locked chip c) (λ n. after.lock (same ∙ n) i h z)
              (λ n. edit_kept write word c i e ∙ q.part i h x
              (by_eq (i / chip.group) (k * chip.sets + j)
              (λ f. absurd (true_not_false (begin_hit chip a c i low (record { bare = n; program = h; same = f ∙ sym here })) e))
              (λ f. omega arith)) z));
          ready = λ n i h x.
              by_test (write i) (λ e. rw (new i e) (b.can_same i (t.word i)))
              (λ e. rw (edit_kept write word c i e) (q.ready (sym same ∙ n) i h x));
        }
      where
        left : List ℕ
        left = edit write word c

        after : Kept chip b t first left
        after = write_torn left (torn_edit write word c)

        same : locked chip left ≡ locked chip c
        same = same_lock chip sound b t g first write word c q.rows.kept w_small w_talks (λ i e z. w_makes i e) left (torn_edit write word c) w_low

        new : (i : ℕ) → write i ≡ true → get_or left i 0 ≡ t.word i
        new i e = edit_hit write word c i (hit_inside chip sound b t g first write word c q.rows.kept w_small w_talks (λ i e z. w_makes i e) i e) e ∙ w_makes i e
