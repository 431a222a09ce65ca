-- The rehearsal: the text that update or fresh prints, handed to trial, comes to the text that wanted prints; and on a board it leaves that sheet.
use Rattle.std.specs.Prelude.{ℕ, ◌+◌, ◌*◌, ◌/◌, ◌≤◌, ◌<◌, ◌≡◌, true, false, eqb, length, get_or, take, replicate}
use native.Mathlib.Omega.{arith}
use Rattle.std.proofs.Math.Path.{refl}
use Rattle.std.proofs.Common.{sym, ap, subst, ◌∙◌, eq-eqb}
use mathlib.Core.List.{List, []}
use Rattle.words.specs.LawsChoice.{pick_true}
use Rattle.device.specs.declared.Device.{Device}
use Rattle.device.specs.Memory.{reading_tail, device_id, programmable}
use Rattle.device.specs.LawsMemory.{reading_each}
use Rattle.sheet.specs.FirstLine.{first_line}
use Rattle.sheet.specs.Sheet.{sheet_with}
use Rattle.sheet.specs.LawsFirstLine.{id_small}
use Rattle.target.specs.declared.Order.{Order}
use Rattle.target.specs.Chip.{chip_of}
use Rattle.target.specs.Step.{sound_cells}
use Rattle.target.specs.Run.{model_of, ran}
use Rattle.target.specs.Cut
use Rattle.target.specs.Stream.{bytes_of}
use Rattle.target.specs.LawsStream.{FitsAll, length_bytes}
use Rattle.aim.specs.Wanted.{wanted}
use Rattle.plan.specs.Steps.{task_of, update_task, update_steps, fresh_task, fresh_steps}
use Rattle.aim.specs.Refusal.{update_number, fresh_number}
use Rattle.plan.specs.Demands.{programmed}
use Rattle.aim.specs.LawsWanted.{known_fits, wanted_fits}
use Rattle.plan.specs.LawsFits.{fits_body}
use Rattle.aim.specs.LawsAccepted.{Accepted, accepted, AcceptedFresh, accepted_fresh}
use Rattle.plan.specs.LawsUpdate.{update_recovers}
use Rattle.plan.specs.LawsFresh.{fresh_recovers}
use Rattle.board.specs.Open.{record_of, board_number, board_reading}
use Rattle.board.specs.LawsBoard.{board_served}
use Rattle.listings.specs.Streams.{stream_text, hex_of, plan_text, update_text, fresh_text}
use Rattle.listings.specs.Wanteds.{left_text, wanted_text, wanted_fresh_text}
use Rattle.listings.specs.LawsPlans.{update_few, fresh_few}
use Rattle.trials.specs.Trial.{most_steps, bad_line, stream_of, cells_of, played, played_text, trial_text}
use Rattle.rehearsed.specs.Rehearsed.{is_refusal, Leaves}
use Rattle.rehearsed.proofs.LawsTold.{stream_told, sheet_told, judged, Unrefused, judged_text, unrefused, judged_alike}
use Rattle.rehearsed.specs.LawsPrinted.{printed_sound, printed_read}
use Rattle.rehearsed.specs.LawsFront.{front_word, programmed_sound, programmed_front, reading_sound, first_sound, first_front}

-- ---- a printed stream on a board

-- it leaves what its orders leave
printed_leaves : (id : ℕ) (d : Device) (s : List Order) → FitsAll s → (cells last sheet : List ℕ) → sound_cells (chip_of d) last ≡ true → Cut.Recovers (model_of d) (bytes_of s) cells last
    → sheet_with id d (take (d.words + reading_tail) last) ≡ sheet → Leaves id d (stream_text (bytes_of s)) cells sheet
printed_leaves id d s f cells last sheet sound r e =
    record { last = last; last_sound = sound; recovers = subst (λ b. Cut.Recovers (model_of d) b cells last) (sym (printed_read s f)) r; sheet_is = e }

-- and trial prints that sheet, if it is no longer than what trial plays
trial_leaves : (table sheet : List ℕ) → board_number table sheet ≡ 0 → (text : List ℕ) → bad_line text ≡ 0 → length (stream_of text) / 3 ≤ most_steps
    → (left : List ℕ) → Leaves (first_line sheet).id (record_of table sheet) text (cells_of (board_reading table sheet)) left → trial_text table sheet text ≡ left
unfolding trial_text played_text played ran
trial_leaves table sheet z text sound few left l =
    let w = l.recovers.recovers (replicate most_steps 0) (cells_of (board_reading table sheet)) Cut.none most_steps few in
    pick_true (eqb (board_number table sheet) 0) _ _ (eq-eqb (board_number table sheet) 0 z)
    ∙ (pick_true (eqb (bad_line text) 0) _ _ (eq-eqb (bad_line text) 0 sound)
    ∙ (pick_true _ _ _ (eq-eqb _ 0 w.0) ∙ (ap (λ c. sheet_with (first_line sheet).id (record_of table sheet) (take ((record_of table sheet).words + reading_tail) c)) w.2 ∙ l.sheet_is)))

trial_printed : (table sheet : List ℕ) → board_number table sheet ≡ 0 → (s : List Order) → FitsAll s → 3 * length s ≤ 55362
    → (left : List ℕ) → Leaves (first_line sheet).id (record_of table sheet) (stream_text (bytes_of s)) (cells_of (board_reading table sheet)) left → trial_text table sheet (stream_text (bytes_of s)) ≡ left
trial_printed table sheet z s f few left l = trial_leaves table sheet z (stream_text (bytes_of s)) (printed_sound s f (omega arith)) short left l
  where
    short : length (stream_of (stream_text (bytes_of s))) / 3 ≤ most_steps
    short = let e : length (stream_of (stream_text (bytes_of s))) ≡ 3 * length s = ap length (printed_read s f) ∙ length_bytes s in omega arith

-- ---- every load of either stream has a word of 14 bits

module _ (d : Device) (image reading : List ℕ) (a : Accepted d image reading) where
  update_word : (i : ℕ) → wanted d image reading i < 0x4000
  update_word = wanted_fits d image reading a.image_sound (known_fits reading (reading_each d.words reading a.reading_sound))

  update_fits : FitsAll (update_steps d image reading)
  unfolding update_steps
  update_fits = (tt, fits_body (chip_of d) (update_task d image reading) fit)
    where
      word_is : (i : ℕ) → (update_task d image reading).word i ≡ wanted d image reading i
      word_is i = unfold update_task task_of in refl

      fit : (i : ℕ) → (update_task d image reading).word i < 0x4000
      fit i = rw (word_is i) (update_word i)

module _ (d : Device) (image : List ℕ) (a : AcceptedFresh d image) where
  fresh_word : (i : ℕ) → wanted d image [] i < 0x4000
  fresh_word = wanted_fits d image [] a.image_sound (known_fits [] (λ i. omega arith))

  fresh_fits : FitsAll (fresh_steps d image)
  unfolding fresh_steps
  fresh_fits = (omega arith, (tt, (tt, fits_body (chip_of d) (fresh_task d image) fit)))
    where
      word_is : (i : ℕ) → (fresh_task d image).word i ≡ wanted d image [] i
      word_is i = unfold fresh_task task_of in refl

      fit : (i : ℕ) → (fresh_task d image).word i < 0x4000
      fit i = rw (word_is i) (fresh_word i)

-- ---- the programs' texts, by their three judges

module _ (table sheet hex : List ℕ) where
  abbrev d : Device
  d = record_of table sheet

  abbrev line1 : ℕ
  line1 = (first_line sheet).id

  abbrev reading : List ℕ
  reading = board_reading table sheet

  abbrev image : List ℕ
  image = (hex_of table sheet hex).image

  abbrev updates : ℕ
  updates = update_number d image reading

  abbrev freshes : ℕ
  freshes = fresh_number d image (get_or reading (d.words + device_id) 0)

  -- a text that is printed where none refuses
  abbrev told : (plan : ℕ) → (text : List ℕ) → List ℕ
  told plan text = judged (board_number table sheet) (hex_of table sheet hex).number (hex_of table sheet hex).line (hex_of table sheet hex).column plan text

  abbrev Good : (plan : ℕ) → Type 0
  Good plan = Unrefused (board_number table sheet) (hex_of table sheet hex).number plan

  update_is : update_text table sheet hex ≡ told updates (stream_text (bytes_of (update_steps d image reading)))
  unfolding update_text plan_text judged
  update_is = refl

  wanted_is : wanted_text table sheet hex ≡ told updates (sheet_with line1 d (programmed d image reading reading))
  unfolding wanted_text left_text judged
  wanted_is = refl

  fresh_is : fresh_text table sheet hex ≡ told freshes (stream_text (bytes_of (fresh_steps d image)))
  unfolding fresh_text plan_text judged
  fresh_is = refl

  wanted_fresh_is : wanted_fresh_text table sheet hex ≡ told freshes (sheet_with line1 d (programmed d image [] reading))
  unfolding wanted_fresh_text left_text judged
  wanted_fresh_is = refl

  update_good : is_refusal (update_text table sheet hex) ≡ false → Good updates
  update_good e = unrefused _ _ _ _ _ _ (ap is_refusal (sym update_is) ∙ e)

  fresh_good : is_refusal (fresh_text table sheet hex) ≡ false → Good freshes
  fresh_good e = unrefused _ _ _ _ _ _ (ap is_refusal (sym fresh_is) ∙ e)

  -- a board whose update is a stream is not refused
  pub update_board : is_refusal (update_text table sheet hex) ≡ false → board_number table sheet ≡ 0
  update_board e = (update_good e).board_is

  -- ---- what is printed, where none refuses

  module _ (u : Good updates) where
    update_stream : update_text table sheet hex ≡ stream_text (bytes_of (update_steps d image reading))
    update_stream = update_is ∙ judged_text _ _ _ _ _ _ u

    wanted_sheet : wanted_text table sheet hex ≡ sheet_with line1 d (programmed d image reading reading)
    wanted_sheet = wanted_is ∙ judged_text _ _ _ _ _ _ u

    update_left : (cells : List ℕ) → sound_cells (chip_of d) cells ≡ true → take (d.words + reading_tail) cells ≡ reading
        → Leaves line1 d (stream_text (bytes_of (update_steps d image reading))) cells (wanted_text table sheet hex)
    update_left cells sound true_of =
        let a : Accepted d image reading = accepted d image reading u.plan_is in
        let held : (i : ℕ) → i < d.words + reading_tail → get_or cells i 0 ≡ get_or reading i 0 = λ i h. sym (front_word d cells sound i h) ∙ ap (λ l. get_or l i 0) true_of in
        printed_leaves line1 d (update_steps d image reading) (update_fits d image reading a) cells (programmed d image reading cells) (wanted_text table sheet hex)
        (programmed_sound d cells sound image reading (update_word d image reading a)) (update_recovers d image reading cells u.plan_is sound held)
        (ap (sheet_with line1 d) (programmed_front d cells sound reading a.reading_sound (λ i h p. held i h) image reading) ∙ sym wanted_sheet)

  module _ (u : Good freshes) where
    fresh_stream : fresh_text table sheet hex ≡ stream_text (bytes_of (fresh_steps d image))
    fresh_stream = fresh_is ∙ judged_text _ _ _ _ _ _ u

    wanted_fresh_sheet : wanted_fresh_text table sheet hex ≡ sheet_with line1 d (programmed d image [] reading)
    wanted_fresh_sheet = wanted_fresh_is ∙ judged_text _ _ _ _ _ _ u

    fresh_left : (cells : List ℕ) → sound_cells (chip_of d) cells ≡ true → ((i : ℕ) → i < d.words + reading_tail → programmable d.words i ≡ false → get_or cells i 0 ≡ get_or reading i 0)
        → Leaves line1 d (stream_text (bytes_of (fresh_steps d image))) cells (wanted_fresh_text table sheet hex)
    fresh_left cells sound held =
        let a : AcceptedFresh d image = accepted_fresh d image (get_or reading (d.words + device_id) 0) u.plan_is in
        printed_leaves line1 d (fresh_steps d image) (fresh_fits d image a) cells (programmed d image [] cells) (wanted_fresh_text table sheet hex)
        (programmed_sound d cells sound image [] (fresh_word d image a)) (fresh_recovers d image (get_or reading (d.words + device_id) 0) cells u.plan_is sound)
        (ap (sheet_with line1 d) (programmed_front d cells sound reading (reading_sound table sheet u.board_is) held image []) ∙ sym wanted_fresh_sheet)

-- ---- the theorems

-- if update prints a stream and not a refusal, trial of the same table and sheet with that very text prints what wanted prints
pub rehearsed : (table sheet hex : List ℕ) → is_refusal (update_text table sheet hex) ≡ false → trial_text table sheet (update_text table sheet hex) ≡ wanted_text table sheet hex
rehearsed table sheet hex printed =
    ap (trial_text table sheet) (update_stream table sheet hex u)
    ∙ trial_printed table sheet u.board_is (update_steps (d table sheet hex) (image table sheet hex) (reading table sheet hex)) (update_fits _ _ _ a) (update_few _ (board_served table sheet u.board_is) _ _)
    (wanted_text table sheet hex) (update_left table sheet hex u _ (first_sound table sheet u.board_is) (first_front table sheet u.board_is))
  where
    u : Good table sheet hex (updates table sheet hex)
    u = update_good table sheet hex printed

    a : Accepted (d table sheet hex) (image table sheet hex) (reading table sheet hex)
    a = accepted _ _ _ u.plan_is

-- the same for a fresh programming
pub rehearsed_fresh : (table sheet hex : List ℕ) → is_refusal (fresh_text table sheet hex) ≡ false → trial_text table sheet (fresh_text table sheet hex) ≡ wanted_fresh_text table sheet hex
rehearsed_fresh table sheet hex printed =
    ap (trial_text table sheet) (fresh_stream table sheet hex u)
    ∙ trial_printed table sheet u.board_is (fresh_steps (d table sheet hex) (image table sheet hex)) (fresh_fits _ _ a) (fresh_few _ (board_served table sheet u.board_is) _)
    (wanted_fresh_text table sheet hex) (fresh_left table sheet hex u _ sound held)
  where
    u : Good table sheet hex (freshes table sheet hex)
    u = fresh_good table sheet hex printed

    a : AcceptedFresh (d table sheet hex) (image table sheet hex)
    a = accepted_fresh _ _ _ u.plan_is

    sound : sound_cells (chip_of (record_of table sheet)) (cells_of (board_reading table sheet)) ≡ true
    sound = first_sound table sheet u.board_is

    held : (i : ℕ) → i < (record_of table sheet).words + reading_tail → programmable (record_of table sheet).words i ≡ false
        → get_or (cells_of (board_reading table sheet)) i 0 ≡ get_or (board_reading table sheet) i 0
    held i h p = sym (front_word (record_of table sheet) _ sound i h) ∙ ap (λ l. get_or l i 0) (first_front table sheet u.board_is)

-- on a board of which the sheet was true, the text that update prints leaves the sheet that wanted prints, wherever and however often it is cut
pub update_leaves : (table sheet hex : List ℕ) → is_refusal (update_text table sheet hex) ≡ false
    → (cells : List ℕ) → sound_cells (chip_of (record_of table sheet)) cells ≡ true → take ((record_of table sheet).words + reading_tail) cells ≡ board_reading table sheet
    → Leaves (first_line sheet).id (record_of table sheet) (update_text table sheet hex) cells (wanted_text table sheet hex)
update_leaves table sheet hex printed cells sound true_of =
    subst (λ t. Leaves (first_line sheet).id (record_of table sheet) t cells (wanted_text table sheet hex)) (sym (update_stream table sheet hex u)) (update_left table sheet hex u cells sound true_of)
  where
    u : Good table sheet hex (updates table sheet hex)
    u = update_good table sheet hex printed

-- on any board whose words 8004h to 8006h are the sheet's, the text that fresh prints leaves the sheet that wanted_fresh prints
pub fresh_leaves : (table sheet hex : List ℕ) → is_refusal (fresh_text table sheet hex) ≡ false
    → (cells : List ℕ) → sound_cells (chip_of (record_of table sheet)) cells ≡ true
    → ((i : ℕ) → i < (record_of table sheet).words + reading_tail → programmable (record_of table sheet).words i ≡ false → get_or cells i 0 ≡ get_or (board_reading table sheet) i 0)
    → Leaves (first_line sheet).id (record_of table sheet) (fresh_text table sheet hex) cells (wanted_fresh_text table sheet hex)
fresh_leaves table sheet hex printed cells sound held =
    subst (λ t. Leaves (first_line sheet).id (record_of table sheet) t cells (wanted_fresh_text table sheet hex)) (sym (fresh_stream table sheet hex u)) (fresh_left table sheet hex u cells sound held)
  where
    u : Good table sheet hex (freshes table sheet hex)
    u = fresh_good table sheet hex printed

-- ---- wanted refuses just what update refuses, with the same line and column

module _ (table sheet hex : List ℕ) where
  same_refusal : (plan : ℕ) (text other x y : List ℕ) → x ≡ told table sheet hex plan text → y ≡ told table sheet hex plan other
      → (Good table sheet hex plan → is_refusal text ≡ false) → is_refusal x ≡ true → y ≡ x
  same_refusal plan text other x y p q own e =
      q
      ∙ (judged_alike (board_number table sheet) (hex_of table sheet hex).number (hex_of table sheet hex).line (hex_of table sheet hex).column plan text other own (ap is_refusal (sym p) ∙ e)
      ∙ sym p)

  left : (plan : ℕ) (words : List ℕ) → Good table sheet hex plan → is_refusal (sheet_with (first_line sheet).id (record_of table sheet) words) ≡ false
  left plan words u = sheet_told (first_line sheet).id (record_of table sheet) (id_small sheet) words

  pub refused_alike : is_refusal (update_text table sheet hex) ≡ true → wanted_text table sheet hex ≡ update_text table sheet hex
  refused_alike e =
      same_refusal _ _ _ _ _ (update_is table sheet hex) (wanted_is table sheet hex) (λ u. stream_told (update_steps (d table sheet hex) (image table sheet hex) (reading table sheet hex))) e

  pub wanted_refuses_only : is_refusal (wanted_text table sheet hex) ≡ true → update_text table sheet hex ≡ wanted_text table sheet hex
  wanted_refuses_only e = same_refusal _ _ _ _ _ (wanted_is table sheet hex) (update_is table sheet hex) (left _ _) e

  -- and so for a fresh programming
  pub fresh_refused_alike : is_refusal (fresh_text table sheet hex) ≡ true → wanted_fresh_text table sheet hex ≡ fresh_text table sheet hex
  fresh_refused_alike e = same_refusal _ _ _ _ _ (fresh_is table sheet hex) (wanted_fresh_is table sheet hex) (λ u. stream_told (fresh_steps (d table sheet hex) (image table sheet hex))) e

  pub wanted_fresh_refuses_only : is_refusal (wanted_fresh_text table sheet hex) ≡ true → fresh_text table sheet hex ≡ wanted_fresh_text table sheet hex
  wanted_fresh_refuses_only e = same_refusal _ _ _ _ _ (wanted_fresh_is table sheet hex) (fresh_is table sheet hex) (left _ _) e
