-- Laws of a run: the cells of a reading, what a run leaves of them, and its text.
use Rattle.std.specs.Prelude.{ℕ, Result, Ok, Err, zero, suc, ◌+◌, ◌-◌, ◌≤◌, ◌<◌, ◌≡◌, refl, true, List, [], ◌∷◌, ◌++◌, eqb}
use Rattle.std.proofs.Math.Nat.{zero-add}
use Rattle.std.proofs.Common.{suc-add, not-suc-le-zero, le_of_suc-le-suc, arith, ◌∙◌, length-append, length-drop, length-take-le, get_or-take, get_or-append-add, eq-eqb, ne_eqb}
use Rattle.std.proofs.Math.Decide.{dec_lt}
use Rattle.std.proofs.Math.Path.{sym, ap}
use Rattle.std.proofs.Math.ListN.{length, get_or, take, drop, replicate, get_or-append}
use Rattle.std.proofs.lemmas.List.{length-replicate}
use Rattle.std.proofs.Math.Seq.{take-append-add, take-append-le}
use Rattle.words.specs.Word.{erased}
use Rattle.words.specs.LawsChoice.{pick_true, pick_false}
use Rattle.words.specs.LawsWord.{words_long, words_each, words_of_lem}
use Rattle.device.specs.declared.Device.{Device}
use Rattle.device.specs.Record.{device_up_to}
use Rattle.device.specs.Memory.{cells_tail, reading_tail, reading_ok}
use Rattle.sheet.specs.Sheet.{sheet_with}
use Rattle.sheetwrite.specs.LawsWrite.{length_with}
use Rattle.target.specs.declared.Ran as code
use Rattle.target.specs.declared.Stopped.{Stopped}
use Rattle.refusal.specs.Refusal.{number_of}
use Rattle.refusal.specs.LawsRefusal.{number_of_positive}
use Rattle.board.specs.Sheet.{printed_sheet}
use Rattle.board.specs.LawsWritten.{printed_whole}
use Rattle.target.specs.Chip.{chip_of}
use Rattle.target.specs.Model.{Run}
use Rattle.target.specs.Step.{Target, decoded, unread, sound_cells}
use Rattle.target.specs.Run.{model_of, ran, ran_told, answered, Runs}
use Rattle.target.specs.LawsChip.{burning}
use Rattle.target.specs.LawsModel.{run_few, run_keeps}
use Rattle.target.specs.LawsRun.{cells_long}
use Rattle.target.specs.LawsSound.{cells_stay}
use Rattle.print.specs.Print.{refused_text}
use Rattle.print.specs.LawsLines.{either_short}
use Rattle.board.specs.Open.{most_program}
use Rattle.board.specs.LawsOpen.{served_most, served_sheet}
use Rattle.trials.specs.Trial.{most_steps, cells_of, played, played_text}

-- ---- the cells of a reading

-- a part of erased cells, and what comes after one
blank_part : (n m : ℕ) → n ≤ m → take n (replicate m erased) ≡ replicate n erased
blank_part zero m h = refl
blank_part (suc n) zero h = absurd (not-suc-le-zero h)
blank_part (suc n) (suc m) h = ap (λ l. erased ∷ l) (blank_part n m (le_of_suc-le-suc h))

blank_rest : (n m : ℕ) → drop n (replicate (n + m) erased) ≡ replicate m erased
blank_rest zero m = ap (λ k. replicate k erased) (zero-add m)
blank_rest (suc n) m = ap (λ k. drop (suc n) (replicate k erased)) (suc-add n m) ∙ blank_rest n m

-- the most cells that the target of a board has
abbrev pub most_cells : ℕ
most_cells = most_program + cells_tail

-- a reading over erased cells
module _ (d : Device) (served : device_up_to most_program d ≡ true) (reading : List ℕ) (ok : reading_ok d.words reading ≡ true) where
  reading_long : length reading ≡ d.words + reading_tail
  reading_long = unfold reading_ok in words_long (d.words + reading_tail) reading ok

  few : d.words ≤ most_program
  few = served_most d served

  pub copy_room : length reading ≤ length (replicate most_cells erased)
  copy_room = rw (length-replicate {A = ℕ} most_cells erased, reading_long) (omega (arith, few))

  -- a reading copied to their front
  module _ (put : List ℕ) (e : put ≡ reading) where
    room : length (put ++ drop (length reading) (replicate most_cells erased)) ≡ most_cells
    room =
        let more : length reading ≤ most_cells = rw reading_long (omega (arith, few)) in
        rw (e, length-append, length-drop, length-replicate {A = ℕ}) (omega arith)

    pub cells_room : d.words + cells_tail ≤ length (put ++ drop (length reading) (replicate most_cells erased))
    cells_room = rw room (omega (arith, few))

    pub cells_part : length (take (d.words + cells_tail) (put ++ drop (length reading) (replicate most_cells erased))) ≡ d.words + cells_tail
    cells_part = length-take-le (d.words + cells_tail) (put ++ drop (length reading) (replicate most_cells erased)) cells_room

    pub cells_are : take (d.words + cells_tail) (put ++ drop (length reading) (replicate most_cells erased)) ≡ cells_of reading
    unfolding cells_of
    cells_are =
        let all : most_cells ≡ length reading + (most_program + 2 - d.words) = rw reading_long (omega (arith, few)) in
        let two : 2 ≤ most_program + 2 - d.words = omega (arith, few) in
        let more : d.words + cells_tail ≡ length reading + 2 = rw reading_long (omega arith) in
        let rest : drop (length reading) (replicate most_cells erased) ≡ replicate (most_program + 2 - d.words) erased = ap (λ k. drop (length reading) (replicate k erased)) all
        ∙ blank_rest (length reading) (most_program + 2 - d.words) in
        rw (e, rest, more)
        (take-append-add reading (replicate (most_program + 2 - d.words) erased) 2 ∙ ap (λ l. reading ++ l) (blank_part 2 (most_program + 2 - d.words) two))

-- a reading and two calibration words are sound cells
pub cells_sound : (d : Device) (reading : List ℕ) → reading_ok d.words reading ≡ true → (cells : List ℕ) → cells ≡ cells_of reading → sound_cells (chip_of d) cells ≡ true
unfolding sound_cells cells_of
cells_sound d reading ok cells e = words_of_lem (d.words + cells_tail) cells long (λ i h. each i (dec_lt i (d.words + reading_tail)))
  where
    nine : length reading ≡ d.words + reading_tail
    nine = unfold reading_ok in words_long (d.words + reading_tail) reading ok

    long : length cells ≡ d.words + cells_tail
    long = ap length e ∙ (length-append reading (erased ∷ erased ∷ []) ∙ (rw nine (omega arith)))

    small : (i : ℕ) → get_or reading i 0 < 0x4000
    small = words_each (d.words + reading_tail) reading (unfold reading_ok in ok)

    two : (i : ℕ) → get_or (erased ∷ erased ∷ []) i 0 < 0x4000
    two zero = omega arith
    two (suc zero) = omega arith
    two (suc (suc i)) = omega arith

    each : (i : ℕ) → Dec (i < d.words + reading_tail) → get_or cells i 0 < 0x4000
    each i (yes h) =
        let s : get_or reading i 0 < 0x4000 = small i in
        let same : get_or cells i 0 ≡ get_or reading i 0 =
        ap (λ l. get_or l i 0) e ∙ get_or-append reading (erased ∷ erased ∷ []) 0 i (rw nine h) in
        omega arith
    each i (no h) =
        let k : ℕ = i - (d.words + reading_tail) in
        let place : i ≡ length reading + k = rw nine (omega arith) in
        let s : get_or (erased ∷ erased ∷ []) k 0 < 0x4000 = two k in
        let same : get_or cells i 0 ≡ get_or (erased ∷ erased ∷ []) k 0 =
        ap (λ l. get_or l i 0) e ∙ (ap (λ n. get_or (reading ++ erased ∷ erased ∷ []) n 0) place ∙ get_or-append-add reading (erased ∷ erased ∷ []) k 0) in
        omega arith

-- ---- what a run leaves

module _ (d : Device) (stream : List ℕ) (allowance : ℕ) (cells words : List ℕ) where
  ran_sound : sound_cells (chip_of d) cells ≡ true → sound_cells (chip_of d) (ran d stream allowance cells words).target.cells ≡ true
  unfolding ran unread
  ran_sound e =
      run_keeps (model_of d) stream (λ t. sound_cells (chip_of d) t.cells ≡ true)
      (λ code payload t. cells_stay (chip_of d) (burning d) t (decoded code payload)) allowance cells words e

  ran_few : (ran d stream allowance cells words).done ≤ allowance
  unfolding ran
  ran_few = run_few (model_of d) stream allowance cells words

-- ---- the text of a run

-- what the call of the run answered on the cells of a reading, with room for a word at each step
module _ (d : Device) (served : device_up_to most_program d ≡ true) (reading : List ℕ) (ok : reading_ok d.words reading ≡ true) (stream cells : List ℕ) (k : cells ≡ cells_of reading)
    (a : Result code.Ran Stopped) (words' cells' : List ℕ) (g : Runs d stream most_steps (replicate most_steps 0) cells (ran_told a) words' cells') where
  ran_is : ran d stream most_steps cells (replicate most_steps 0) ≡ played d reading stream
  unfolding played
  ran_is = ap (λ l. ran d stream most_steps l (replicate most_steps 0)) k

  number_is : (ran_told a).number ≡ (played d reading stream).number
  unfolding answered
  number_is = ap (λ x. x.number) g.answers ∙ ap (λ x. x.number) ran_is

  steps_are : (ran_told a).steps ≡ (played d reading stream).done
  unfolding answered
  steps_are = ap (λ x. x.steps) g.answers ∙ ap (λ x. x.done) ran_is

  -- no more steps than were allowed
  pub steps_few : (ran_told a).steps ≤ most_steps
  unfolding answered
  steps_few = rw g.answers (ran_few d stream most_steps cells (replicate most_steps 0))

  cells'_sound : sound_cells (chip_of d) cells' ≡ true
  cells'_sound = ap (sound_cells (chip_of d)) g.cells_left ∙ ran_sound d stream most_steps cells (replicate most_steps 0) (cells_sound d reading ok cells k)

  -- the cells stand at the front of a longer list
  module _ (rest : List ℕ) where
    count : length cells' ≡ d.words + cells_tail
    count = cells_long (chip_of d) cells' cells'_sound

    pub run_room : d.words + reading_tail ≤ length (cells' ++ rest)
    run_room = rw (length-append cells' rest) (omega (arith, count))

    pub run_part : length (take (d.words + reading_tail) (cells' ++ rest)) ≡ d.words + reading_tail
    run_part = length-take-le (d.words + reading_tail) (cells' ++ rest) run_room

    front : take (d.words + reading_tail) (cells' ++ rest) ≡ take (d.words + reading_tail) cells'
    front = take-append-le (d.words + reading_tail) cells' rest (omega (arith, count))

    front_sound : reading_ok d.words (take (d.words + reading_tail) (cells' ++ rest)) ≡ true
    unfolding reading_ok
    front_sound =
        words_of_lem (d.words + reading_tail) (take (d.words + reading_tail) (cells' ++ rest)) run_part
        (λ i h. let s : get_or cells' i 0 < 0x4000 = (unfold sound_cells in words_each (d.words + cells_tail) cells' cells'_sound i) in rw (front, get_or-take (d.words + reading_tail) cells' i 0 h) s)

module _ (d : Device) (served : device_up_to most_program d ≡ true) (reading : List ℕ) (ok : reading_ok d.words reading ≡ true) (stream cells : List ℕ) (k : cells ≡ cells_of reading)
    (words' cells' : List ℕ) (id : ℕ) where
  pub run_stopped : (s : Stopped) → Runs d stream most_steps (replicate most_steps 0) cells (ran_told (Err s)) words' cells' → (line : ℕ) → line ≡ s.steps + 1 → (n : ℕ) → n ≡ number_of s.refusal
      → refused_text n line 1 ≡ played_text id d (played d reading stream)
  unfolding played_text
  run_stopped s g line e n is =
      let number : number_of s.refusal ≡ (played d reading stream).number = number_is d served reading ok stream cells k (Err s) words' cells' g in
      let steps : s.steps ≡ (played d reading stream).done = steps_are d served reading ok stream cells k (Err s) words' cells' g in
      (λ i. refused_text (is i) (e i) 1) ∙ ((λ i. refused_text (number i) (steps i + 1) 1)
      ∙ sym (pick_false (eqb (played d reading stream).number 0) _ _ (ne_eqb (played d reading stream).number 0 (λ z. let p : 0 < number_of s.refusal = number_of_positive s.refusal in omega (arith, number ∙ z)))))

  pub run_whole : (r : code.Ran) → Runs d stream most_steps (replicate most_steps 0) cells (ran_told (Ok r)) words' cells' → id < 0x4000 → (rest : List ℕ)
      → printed_sheet d id (take (d.words + reading_tail) (cells' ++ rest)) ≡ played_text id d (played d reading stream)
  unfolding played_text
  run_whole r g small rest =
      let number : 0 ≡ (played d reading stream).number = number_is d served reading ok stream cells k (Ok r) words' cells' g in
      let left : cells' ≡ (played d reading stream).target.cells = g.cells_left ∙ ap (λ x. x.target.cells) (ran_is d served reading ok stream cells k (Ok r) words' cells' g) in
      printed_whole d id _ served (front_sound d served reading ok stream cells k (Ok r) words' cells' g rest) small
      ∙ (ap (sheet_with id d) (front d served reading ok stream cells k (Ok r) words' cells' g rest ∙ ap (take (d.words + reading_tail)) left)
      ∙ sym (pick_true (eqb (played d reading stream).number 0) _ _ (eq-eqb (played d reading stream).number 0 (sym number))))

pub played_short : (id : ℕ) (d : Device) → device_up_to most_program d ≡ true → (r : Run Target) → length (played_text id d r) ≤ 46135
unfolding played_text
played_short id d served r = either_short 46135 (omega arith) r.number (r.done + 1) 1 _ (λ z. rw (length_with id d (take (d.words + reading_tail) r.target.cells)) (served_sheet d served))
