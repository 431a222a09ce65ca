-- The read-back stream on the model: it leaves the cells, and answers the reading, program words 0 while protected.
use Rattle.std.specs.Prelude.{ℕ, zero, suc, ◌+◌, ◌-◌, ◌≤◌, ◌<◌, ◌≡◌, true, ◌&&◌, List, ◌∷◌, ◌++◌, ltb, length, get_or, set}
use Rattle.std.proofs.Common.{add-zero, zero-add, add-one, arith, sym, ◌∙◌, length-set, lt-ltb, le-ltb}
use Rattle.std.proofs.Math.Path.{refl, ap, subst}
use Rattle.std.proofs.lemmas.List.Edits.{sets}
use Rattle.std.proofs.Math.Seq.{length-sets}
use Rattle.words.specs.Choice.{pick}
use Rattle.words.specs.Word.{erased}
use Rattle.words.specs.Lists.{build}
use Rattle.words.specs.Address.{successor}
use Rattle.words.specs.LawsChoice.{pick_true, pick_same}
use Rattle.words.specs.LawsLists.{length_build, build_ext, sets_append}
use Rattle.words.specs.LawsAddress.{successor_program, successor_config}
use Rattle.device.specs.declared.Device.{Device}
use Rattle.device.specs.Record.{device_ok}
use Rattle.device.specs.Memory.{reading_tail, protected}
use Rattle.device.specs.LawsRecord.{rules_lem}
use Rattle.target.specs.Chip.{Chip, chip_of}
use Rattle.target.specs.Effects.{blank, in_program, locked, word_read}
use Rattle.target.specs.Model.{done, stops, run_of}
use Rattle.target.specs.Step.{Target, effect, unread, sound_cells}
use Rattle.target.specs.Run.{entered, model_on, run_refusal, ran}
use Rattle.target.specs.Crash.{runs, Goes}
use Rattle.target.specs.Board.{board_of}
use Rattle.target.specs.Stream.{bytes_of}
use Rattle.target.specs.LawsChip.{SoundChip, sound_chip}
use Rattle.target.specs.LawsCrash.{runs_append, goes_append}
use Rattle.target.specs.LawsStream.{FitsAll, fits_append}
use Rattle.target.specs.LawsModel.{stands}
use Rattle.target.specs.LawsSpelt.{run_whole}
use Rattle.target.specs.LawsBoard.{spelling}
use Rattle.target.specs.declared.Order.TheVariants.{LoadConfiguration, Read, Increment, ResetAddress}
use Rattle.plan.specs.Steps.{reads, read_steps, read_back_steps}
use Rattle.plan.specs.Demands.{reading_of}
use Rattle.plan.specs.LawsProgrammed.{unrefused}

-- a target of its parts
abbrev pub at : (counter : ℕ) → (latches : List ℕ) → (read : ℕ) → (words cells : List ℕ) → Target
at a l m w c = record { registers = record { counter = record { 0 = a }; latches = l }; cells = c; words = w; read = m }

-- the words at n addresses from a on
abbrev words_at : Chip → List ℕ → (a n : ℕ) → List ℕ
words_at chip cells a n = build n (λ j. word_read chip (a + j) cells)

-- what a read-back answers of a chip's cells
unfoldable pub reading_on : Chip → (cells : List ℕ) → List ℕ
reading_on chip cells = build (chip.words + chip.reading_tail) (λ i. pick (ltb i chip.words && locked chip cells) 0 (get_or cells i 0))

-- ---- words read one after another

module _ (chip : Chip) (buffer l c : List ℕ) where
  -- n words from a on are read, into the words from place m on
  pub record Reads (n a m : ℕ) (w : List ℕ) : Type 0 where
    pub goes : Goes (board_of chip buffer) (reads n) (at a l m w c)
    pub ends : runs (board_of chip buffer) (reads n) (at a l m w c) ≡ at (a + (n - 1)) l (m + n) (sets w m (words_at chip c a n)) c

module _ (chip : Chip) (buffer l c : List ℕ) where
  one_read : (a m : ℕ) (w : List ℕ) → m < length w → effect chip Read (at a l m w c) ≡ done (at a l (m + 1) (set w m (word_read chip a c)) c)
  unfolding effect
  one_read a m w h = pick_true (ltb m (length w)) (done (at a l (m + 1) (set w m (word_read chip a c)) c)) (stops 35 (at a l m w c)) (lt-ltb m (length w) h)

  one_increment : (a b m : ℕ) (w : List ℕ) → successor chip.base a ≡ b → effect chip Increment (at a l m w c) ≡ done (at b l m w c)
  unfolding effect
  one_increment a b m w e = λ i. done (at (e i) l m w c)

  reads_none : (a m : ℕ) (w : List ℕ) → Reads chip buffer l c 0 a m w
  unfolding reads build
  reads_none a m w = record { goes = tt; ends = λ i. at (sym (add-zero a) i) l (sym (add-zero m) i) w c }

  reads_last : (a m : ℕ) (w : List ℕ) → m < length w → Reads chip buffer l c 1 a m w
  unfolding reads build
  reads_last a m w h =
      record {
        goes = (ap (λ e. e.number) (one_read a m w h), tt);
        ends = ap (λ e. e.target) (one_read a m w h) ∙ (λ i. at (sym (add-zero a) i) l (m + 1) (set w m (word_read chip (sym (add-zero a) i) c)) c);
      }

  reads_more : (n a m : ℕ) (w : List ℕ) → successor chip.base a ≡ a + 1 → m < length w → Reads chip buffer l c (suc n) (a + 1) (m + 1) (set w m (word_read chip a c))
      → Reads chip buffer l c (suc (suc n)) a m w
  unfolding reads
  reads_more n a m w up h rest =
      record {
        goes = (ap (λ e. e.number) first, (quiet (effect chip Read (at a l m w c)).target, subst (Goes (board_of chip buffer) (reads (suc n))) (sym two) rest.goes));
        ends = ap (runs (board_of chip buffer) (reads (suc n))) two ∙ (rest.ends ∙ (λ i. at (counter i) l (count i) (words i) c));
      }
    where
      first : effect chip Read (at a l m w c) ≡ done (at a l (m + 1) (set w m (word_read chip a c)) c)
      first = one_read a m w h

      quiet : (t : Target) → (effect chip Increment t).number ≡ 0
      quiet t = unfold effect in refl

      two : (effect chip Increment (effect chip Read (at a l m w c)).target).target ≡ at (a + 1) l (m + 1) (set w m (word_read chip a c)) c
      two = ap (λ e. (effect chip Increment e.target).target) first ∙ ap (λ e. e.target) (one_increment a (a + 1) (m + 1) (set w m (word_read chip a c)) up)

      counter : a + 1 + (suc n - 1) ≡ a + (suc (suc n) - 1)
      counter = omega arith

      count : m + 1 + suc n ≡ m + suc (suc n)
      count = omega arith

      next : (j : ℕ) → a + 1 + j ≡ a + suc j
      next j = omega arith

      rest_words : words_at chip c (a + 1) (suc n) ≡ build (suc n) (λ j. word_read chip (a + suc j) c)
      rest_words = build_ext (suc n) _ _ (λ j q. ap (λ x. word_read chip x c) (next j))

      words : sets (set w m (word_read chip a c)) (m + 1) (words_at chip c (a + 1) (suc n)) ≡ sets w m (words_at chip c a (suc (suc n)))
      words = (λ i. sets (set w m (word_read chip (sym (add-zero a) i) c)) (add-one m i) (rest_words i)) ∙ opened
        where
          opened : sets (set w m (word_read chip (a + 0) c)) (suc m) (build (suc n) (λ j. word_read chip (a + suc j) c)) ≡ sets w m (words_at chip c a (suc (suc n)))
          opened = unfold build in refl

  -- where each Increment goes up by one
  pub reads_all : (n a m : ℕ) (w : List ℕ) → ((x : ℕ) → a ≤ x → x + 1 < a + n → successor chip.base x ≡ x + 1) → m + n ≤ length w → Reads chip buffer l c n a m w
  reads_all zero a m w up h = reads_none a m w
  reads_all (suc zero) a m w up h = reads_last a m w (omega arith)
  reads_all (suc (suc n)) a m w up h =
      reads_more n a m w (up a (omega arith) (omega arith)) (omega arith)
      (reads_all (suc n) (a + 1) (m + 1) (set w m (word_read chip a c)) (λ x p q. up x (omega arith) (omega arith)) (rw (length-set w m (word_read chip a c)) (omega arith)))

-- ---- what is read

build_append : (n m : ℕ) (f : ℕ → ℕ) → build n f ++ build m (λ j. f (n + j)) ≡ build (n + m) f
unfolding build
build_append zero m f = build_ext m _ _ (λ j q. ap f (zero-add j)) ∙ ap (λ k. build k f) (sym (zero-add m))
build_append (suc n) m f =
    ap (λ t. build (suc n) f ++ t) (build_ext m _ _ (λ j q. ap f (sum j)))
    ∙ (ap (λ t. f 0 ∷ t) (build_append n m (λ j. f (suc j))) ∙ ap (λ k. build k f) (sym (sum m)))
  where
    sum : (j : ℕ) → suc n + j ≡ suc (n + j)
    sum j = omega arith

module _ (chip : Chip) (s : SoundChip chip) (cells : List ℕ) where
  -- program words at their own addresses, and then the words from the base on
  reading_is : words_at chip cells 0 chip.words ++ words_at chip cells chip.base chip.reading_tail ≡ reading_on chip cells
  reading_is = (λ i. program i ++ config i) ∙ (build_append chip.words chip.reading_tail word ∙ opened)
    where
      word : ℕ → ℕ
      word i = pick (ltb i chip.words && locked chip cells) 0 (get_or cells i 0)

      opened : build (chip.words + chip.reading_tail) word ≡ reading_on chip cells
      opened = unfold reading_on in refl

      read_is : (a : ℕ) → word_read chip a cells ≡ pick (ltb a chip.words && locked chip cells) 0 (get_or cells (chip.cell a) 0)
      read_is a = unfold word_read in_program in refl

      program : words_at chip cells 0 chip.words ≡ build chip.words word
      program = build_ext chip.words _ _ each
        where
          each : (j : ℕ) → j < chip.words → word_read chip (0 + j) cells ≡ word j
          each j q = ap (λ a. word_read chip a cells) (zero-add j) ∙ (read_is j ∙ (λ i. pick (ltb j chip.words && locked chip cells) 0 (get_or cells (s.cell_program j q i) 0)))

      config : words_at chip cells chip.base chip.reading_tail ≡ build chip.reading_tail (λ j. word (chip.words + j))
      config = build_ext chip.reading_tail _ _ each
        where
          each : (j : ℕ) → j < chip.reading_tail → word_read chip (chip.base + j) cells ≡ word (chip.words + j)
          each j q =
              read_is (chip.base + j)
              ∙ (λ i. pick (same i && locked chip cells) 0 (get_or cells (s.cell_config j q i) 0))
            where
              same : ltb (chip.base + j) chip.words ≡ ltb (chip.words + j) chip.words
              same = le-ltb (chip.base + j) chip.words (omega (arith, s.below)) ∙ sym (le-ltb (chip.words + j) chip.words (omega arith))

-- ---- the whole stream on any chip

fits_reads : (n : ℕ) → FitsAll (reads n)
unfolding reads
fits_reads zero = tt
fits_reads (suc zero) = (tt, tt)
fits_reads (suc (suc n)) = (tt, (tt, fits_reads (suc n)))

fits_read : (chip : Chip) → FitsAll (read_steps chip)
unfolding read_steps
fits_read chip = (tt, fits_append (reads chip.words) (LoadConfiguration erased ∷ reads chip.reading_tail) (fits_reads chip.words) (omega arith, fits_reads chip.reading_tail))

module _ (chip : Chip) (s : SoundChip chip) (cells words : List ℕ) (fits : chip.words + chip.reading_tail ≤ length words) where
  -- what is left: at the last word of the reading, with the reading in front of the words
  abbrev pub read_back : Target
  read_back = at (chip.base + (chip.reading_tail - 1)) (set (blank chip) 0 erased) (chip.words + chip.reading_tail) (sets words 0 (reading_on chip cells)) cells

  program : Reads chip words (blank chip) cells chip.words 0 0 words
  program = reads_all chip words (blank chip) cells chip.words 0 0 words (λ x p q. successor_program chip.base x (let b : chip.words ≤ chip.base = s.below in omega arith)) (omega arith)

  abbrev midway : List ℕ
  midway = sets words 0 (words_at chip cells 0 chip.words)

  config : Reads chip words (set (blank chip) 0 erased) cells chip.reading_tail chip.base chip.words midway
  config =
      reads_all chip words (set (blank chip) 0 erased) cells chip.reading_tail chip.base chip.words midway
      (λ x p q. successor_config chip.base x p (let b : chip.reading_tail < chip.base = s.apart in omega arith)) (rw (length-sets words 0 (words_at chip cells 0 chip.words)) fits)

  joined : sets midway chip.words (words_at chip cells chip.base chip.reading_tail) ≡ sets words 0 (reading_on chip cells)
  joined =
      ap (λ n. sets midway n (words_at chip cells chip.base chip.reading_tail)) place
      ∙ (sets_append words 0 (words_at chip cells 0 chip.words) (words_at chip cells chip.base chip.reading_tail) ∙ ap (sets words 0) (reading_is chip s cells))
    where
      place : chip.words ≡ 0 + length (words_at chip cells 0 chip.words)
      place = sym (zero-add (length (words_at chip cells 0 chip.words)) ∙ length_build chip.words _)

  reset : (effect chip ResetAddress (unread (entered chip) cells words)).target ≡ at 0 (blank chip) 0 words cells
  unfolding effect unread entered
  reset = λ i. at 0 (pick_same chip.reset_blanks (blank chip) i) 0 words cells

  to_config : (t : Target) → t ≡ at (0 + (chip.words - 1)) (blank chip) (0 + chip.words) midway cells
      → (effect chip (LoadConfiguration erased) t).target ≡ at chip.base (set (blank chip) 0 erased) chip.words midway cells
  unfolding effect
  to_config t e = ap (λ t. (effect chip (LoadConfiguration erased) t).target) e ∙ (λ i. at chip.base (set (blank chip) 0 erased) (zero-add chip.words i) midway cells)

  goes_quietly : (t : Target) → ((effect chip ResetAddress t).number ≡ 0) × ((effect chip (LoadConfiguration erased) t).number ≡ 0)
  unfolding effect
  goes_quietly t = (refl, refl)

  config_follows : (effect chip (LoadConfiguration erased) (runs (board_of chip words) (reads chip.words) (at 0 (blank chip) 0 words cells))).target
      ≡ at chip.base (set (blank chip) 0 erased) chip.words midway cells
  config_follows = to_config (runs (board_of chip words) (reads chip.words) (at 0 (blank chip) 0 words cells)) program.ends

  whole_goes : Goes (board_of chip words) (read_steps chip) (unread (entered chip) cells words)
  unfolding read_steps
  whole_goes = (
    (goes_quietly (unread (entered chip) cells words)).0,
    subst (Goes (board_of chip words) (reads chip.words ++ LoadConfiguration erased ∷ reads chip.reading_tail)) (sym reset)
        (goes_append (board_of chip words) (reads chip.words) (LoadConfiguration erased ∷ reads chip.reading_tail) (at 0 (blank chip) 0 words cells) program.goes (
          (goes_quietly (runs (board_of chip words) (reads chip.words) (at 0 (blank chip) 0 words cells))).1,
          subst (Goes (board_of chip words) (reads chip.reading_tail)) (sym config_follows) config.goes,
        )),
  )

  whole_ends : runs (board_of chip words) (read_steps chip) (unread (entered chip) cells words) ≡ read_back
  unfolding read_steps
  whole_ends =
      ap (runs (board_of chip words) (reads chip.words ++ LoadConfiguration erased ∷ reads chip.reading_tail)) reset
      ∙ (runs_append (board_of chip words) (reads chip.words) (LoadConfiguration erased ∷ reads chip.reading_tail) (at 0 (blank chip) 0 words cells)
      ∙ (ap (runs (board_of chip words) (reads chip.reading_tail)) config_follows
      ∙ (config.ends ∙ (λ i. at (chip.base + (chip.reading_tail - 1)) (set (blank chip) 0 erased) (chip.words + chip.reading_tail) (joined i) cells))))

  -- a run of it that may take all steps, and that nothing refuses before the first
  pub chip_read_back : (judges : (stream cells : List ℕ) → ℕ) → judges (bytes_of (read_steps chip)) cells ≡ 0 → (n : ℕ) → length (read_steps chip) ≤ n
      → run_of (model_on chip judges) (bytes_of (read_steps chip)) n cells words ≡ stands read_back (length (read_steps chip)) 0
  chip_read_back judges j n h =
      run_whole (model_on chip judges) (spelling chip judges) words (read_steps chip) cells (fits_read chip) whole_goes n h j
      ∙ (λ i. stands (whole_ends i) (length (read_steps chip)) 0)

-- ---- this family

module _ (d : Device) (cells words : List ℕ) (ok : device_ok d ≡ true) (sound : sound_cells (chip_of d) cells ≡ true) (fits : d.words + reading_tail ≤ length words) where
  reading_same : reading_on (chip_of d) cells ≡ reading_of d cells
  unfolding reading_on reading_of locked protected
  reading_same = refl

  -- not refused, every step done, the cells as they were, and of the words the reading in front and the others as before
  pub read_back_answers : (n : ℕ) → length (read_back_steps d) ≤ n
      → ran d (bytes_of (read_back_steps d)) n cells words
      ≡ stands (at ((chip_of d).base + (reading_tail - 1)) (set (blank (chip_of d)) 0 erased) (d.words + reading_tail) (sets words 0 (reading_of d cells)) cells) (length (read_back_steps d)) 0
  unfolding ran read_back_steps
  read_back_answers n h =
      chip_read_back (chip_of d) (sound_chip d (rules_lem d ok)) cells words fits (run_refusal d) (unrefused d ok (read_back_steps d) cells sound) n h
      ∙ (λ i. stands (at ((chip_of d).base + (reading_tail - 1)) (set (blank (chip_of d)) 0 erased) (d.words + reading_tail) (sets words 0 (reading_same i)) cells) (length (read_back_steps d)) 0)
