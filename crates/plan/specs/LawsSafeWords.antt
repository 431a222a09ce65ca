-- Begin at a word of configuration space that a task writes, and Row Erase of the user IDs: what they leave of the cells, whole or torn.
use Rattle.std.specs.Prelude.{ℕ, ◌+◌, ◌-◌, ◌%◌, ◌≤◌, ◌<◌, ◌≡◌, refl, Bool, true, false, List, ltb, get_or}
use Rattle.std.proofs.Common.{not-suc-le-zero, arith, sym, ap, subst, ◌∙◌, lt-ltb, le-ltb}
use Rattle.words.specs.Word.{erased}
use Rattle.words.specs.LawsChoice.{true_not_false, second_fails}
use Rattle.target.specs.Chip.{Chip}
use Rattle.target.specs.Effects.{edit, row_erased, begin_written, burnt}
use Rattle.target.specs.Cut.{Torn}
use Rattle.target.specs.LawsChip.{SoundChip, Burning}
use Rattle.target.specs.LawsEdit.{edit_hit, edit_kept}
use Rattle.words.specs.LawsTests.{by_lt, by_eq, fails}
use Rattle.target.specs.LawsTorn.{torn_edit}
use Rattle.target.specs.LawsBlocks.{ids_hits, ids_hit, word_hits, word_hit, burnt_config}
use Rattle.plan.specs.Steps.{Task}
use Rattle.plan.specs.LawsSafe.{SoundTask, Kept, spoken, wiped, spoken_past, spoken_word, wiped_past, wiped_word, writes_within, writes_writable, hit_inside, kept_past}
use Rattle.plan.specs.LawsSafeBlocks.{burnt_fits}

-- the program words are as wanted, the words of configuration space before word k too, and all that are written can take their words
pub record Config (chip : Chip) (b : Burning chip) (t : Task) (first : List ℕ) (k : ℕ) (c : List ℕ) : Type 0 where
  pub kept : Kept chip b t first c
  pub program : (i : ℕ) → i < chip.words → spoken chip t i ≡ true → get_or c i 0 ≡ t.word i
  pub done : (j : ℕ) → j < k → t.writes j ≡ true → get_or c (chip.words + j) 0 ≡ t.word (chip.words + j)
  pub can : (j : ℕ) → t.writes j ≡ true → b.Can (chip.words + j) (get_or c (chip.words + j) 0) (t.word (chip.words + j))

module _ (chip : Chip) (sound : SoundChip chip) (b : Burning chip) (t : Task) (g : SoundTask chip b t) (first : List ℕ) where
  -- ---- Begin at word k of configuration space, with its word in the counter's latch

  module _ (k : ℕ) (latches c : List ℕ) (chosen : t.writes k ≡ true) (loaded : get_or latches ((chip.base + k) % chip.group) 0 ≡ t.word (chip.words + k)) (q : Config chip b t first k c) where
    abbrev write : ℕ → Bool
    write = begin_written chip (chip.base + k) c

    abbrev word : ℕ → ℕ
    word = burnt chip (chip.base + k) latches c

    near : k < chip.reading_tail
    near = writes_within chip sound b t g k chosen

    hits : (i : ℕ) → write i ≡ true → i ≡ chip.words + k
    hits i e = word_hits chip sound c i k near e

    hits_it : write (chip.words + k) ≡ true
    hits_it = word_hit chip sound c (chip.words + k) k near (writes_writable chip sound b t g k chosen) refl

    makes_it : word (chip.words + k) ≡ t.word (chip.words + k)
    makes_it =
        burnt_config chip sound c (chip.words + k) k near latches
        ∙ (ap (chip.burn (chip.words + k) (get_or c (chip.words + k) 0)) loaded
        ∙ b.can_makes (chip.words + k) (get_or c (chip.words + k) 0) (t.word (chip.words + k)) (q.can k chosen))

    w_small : (i : ℕ) → word i < 0x4000
    w_small i = burnt_fits chip b (chip.base + k) latches c q.kept.fits i

    w_talks : (i : ℕ) → write i ≡ true → spoken chip t i ≡ true
    w_talks i e = ap (spoken chip t) (hits i e) ∙ (spoken_word chip t k ∙ chosen)

    w_makes : (i : ℕ) → write i ≡ true → wiped chip t i ≡ false → word i ≡ t.word i
    w_makes i e z = subst (λ n. word n ≡ t.word n) (sym (hits i e)) makes_it

    pub word_torn : (w : List ℕ) → Torn c (edit (begin_written chip (chip.base + k) c) (burnt chip (chip.base + k) latches c) c) w → Kept chip b t first w
    word_torn w torn =
        kept_past chip sound b t g first write word c q.kept w_small w_talks w_makes w torn (λ i e. let z : i ≡ chip.words + k = hits i e in omega arith) q.program

    abbrev left : List ℕ
    left = edit write word c

    new : get_or left (chip.words + k) 0 ≡ t.word (chip.words + k)
    new = edit_hit write word c (chip.words + k) (hit_inside chip sound b t g first write word c q.kept w_small w_talks w_makes (chip.words + k) hits_it) hits_it ∙ makes_it

    old : (i : ℕ) → (i ≡ chip.words + k → ⊥) → get_or left i 0 ≡ get_or c i 0
    old i n = edit_kept write word c i (fails (write i) (λ e. n (hits i e)))

    pub word_done : Config chip b t first (k + 1) (edit (begin_written chip (chip.base + k) c) (burnt chip (chip.base + k) latches c) c)
    word_done =
        record {
          kept = word_torn left (torn_edit write word c);
          program = λ i h z. old i (λ e. absurd (omega arith)) ∙ q.program i h z;
          done = λ j h z. by_eq j k (λ x. rw x new) (λ x. old (chip.words + j) (λ e. x (omega arith)) ∙ q.done j (omega arith) z);
          can = λ j z.
              by_eq j k (λ x. rw (x, new) (b.can_same (chip.words + k) (t.word (chip.words + k))))
              (λ x. rw (old (chip.words + j) (λ e. x (omega arith))) (q.can j z));
        }

  -- ---- Row Erase of the user IDs

  abbrev Program : List ℕ → Type 0
  Program c = (i : ℕ) → i < chip.words → spoken chip t i ≡ true → get_or c i 0 ≡ t.word i

  module _ (c : List ℕ) (erases : t.erase_ids ≡ true) (kept : Kept chip b t first c) (program : Program c) where
    abbrev erase : ℕ → Bool
    erase = row_erased chip chip.base c

    e_wiped : (i : ℕ) → erase i ≡ true → wiped chip t i ≡ true
    e_wiped i e =
        let z : i < chip.words + chip.ids = (ids_hits chip sound c i e).1 in
        let y : chip.words ≤ i = (ids_hits chip sound c i e).0 in
        wiped_past chip t i y ∙ rw erases (lt-ltb (i - chip.words) chip.ids (omega arith))

    e_talks : (i : ℕ) → erase i ≡ true → spoken chip t i ≡ true
    e_talks i e =
        let z : i < chip.words + chip.ids = (ids_hits chip sound c i e).1 in
        let y : chip.words ≤ i = (ids_hits chip sound c i e).0 in
        spoken_past chip t i y ∙ g.all_ids erases (i - chip.words) (omega arith)

    e_makes : (i : ℕ) → erase i ≡ true → wiped chip t i ≡ false → erased ≡ t.word i
    e_makes i e z = absurd (true_not_false (e_wiped i e) z)

    e_small : (i : ℕ) → erased < 0x4000
    e_small i = omega arith

    pub ids_torn : (w : List ℕ) → Torn c (edit (row_erased chip chip.base c) (λ i. erased) c) w → Kept chip b t first w
    ids_torn w torn = kept_past chip sound b t g first erase (λ i. erased) c kept e_small e_talks e_makes w torn (λ i e. (ids_hits chip sound c i e).0) program

    pub ids_done : Config chip b t first 0 (edit (row_erased chip chip.base c) (λ i. erased) c)
    ids_done =
        record {
          kept = after;
          program = λ i h z.
              edit_kept erase (λ i. erased) c i (fails (erase i) (λ e. let y : chip.words ≤ i = (ids_hits chip sound c i e).0 in absurd (omega arith))) ∙ program i h z;
          done = λ j h. absurd (not-suc-le-zero h);
          can = λ j z.
              by_lt j chip.ids (λ h. gone j h)
              (λ h. after.holds (chip.words + j) (spoken_word chip t j ∙ z) (wiped_word chip t j ∙ second_fails t.erase_ids (ltb j chip.ids) (le-ltb j chip.ids h)));
        }
      where
        after : Kept chip b t first (edit erase (λ i. erased) c)
        after = ids_torn (edit erase (λ i. erased) c) (torn_edit erase (λ i. erased) c)

        gone : (j : ℕ) → j < chip.ids → b.Can (chip.words + j) (get_or (edit erase (λ i. erased) c) (chip.words + j) 0) (t.word (chip.words + j))
        gone j h =
            let hit : erase (chip.words + j) ≡ true = ids_hit chip sound c (chip.words + j) (g.covers erases) (omega arith) (omega arith) in
            rw (edit_hit erase (λ i. erased) c (chip.words + j) (hit_inside chip sound b t g first erase (λ i. erased) c kept e_small e_talks e_makes (chip.words + j) hit) hit)
            (b.can_erased (chip.words + j) (t.word (chip.words + j)) (g.able (chip.words + j) (e_talks (chip.words + j) hit) (e_wiped (chip.words + j) hit)))
