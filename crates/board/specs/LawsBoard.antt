-- Laws of an opened board: what the code's parts come to, what a caller has of a board that is not refused, and which text comes of one that is.
use Rattle.std.specs.Prelude.{ℕ, ◌+◌, ◌≤◌, ◌<◌, ◌≡◌, refl, true, List, ◌++◌, eqb, length, replicate}
use Rattle.std.proofs.Common.{zero-add, arith, ◌∙◌, length-take-le, take_at, eq-eqb, ne_eqb}
use Rattle.std.proofs.Math.Decide.{ℕ_discrete}
use Rattle.std.proofs.Math.Path.{sym, ap}
use Rattle.std.proofs.Math.ListN.{take, drop}
use Rattle.std.proofs.lemmas.List.{length-replicate}
use Rattle.std.proofs.Math.Seq.{sets, length-sets}
use Rattle.std.proofs.lemmas.List.Edits.{sets-eq}
use Rattle.words.specs.Choice.{pick}
use Rattle.words.specs.LawsChoice.{pick_true, pick_false}
use Rattle.device.specs.declared.Device.{Device}
use Rattle.device.specs.Record.{device_up_to, device_ok}
use Rattle.device.specs.Memory.{reading_tail, reading_ok}
use Rattle.table.specs.Table.{name_ok}
use Rattle.sheet.specs.Sheet.{sheet_ok, words_in, sheet_number, read_number, read_buffer}
use Rattle.sheet.specs.LawsSheet.{length_words, read_sound, taken}
use Rattle.refusal.specs.declared.Refusal.{Refusal}
use Rattle.refusal.specs.Refusal.{number_of}
use Rattle.refusal.specs.LawsRefusal.{number_of_positive}
use Rattle.table.specs.declared.Found.{Found as Place}
use Rattle.print.specs.Print.{refused_text}
use Rattle.board.specs.LawsFront.{front_number, front_stored, front_stays}
use Rattle.board.specs.Open.{most_program, record_of, name_of, place_of, open_number, board_number, board_reading, opened_reading}
use Rattle.board.specs.LawsOpen.{served_most, opened_sound, opened_named, opened_served, name_is}

-- the most words that the reading of a board has
abbrev pub most_reading : ℕ
most_reading = most_program + reading_tail

-- a buffer of so many words has room for the reading of a device that the programs serve
module _ (d : Device) (served : device_up_to most_program d ≡ true) (v : ℕ) where
  pub served_room : d.words + reading_tail ≤ length (replicate most_reading v)
  served_room = let few : d.words ≤ most_program = served_most d served in rw (length-replicate {A = ℕ} most_reading v) (omega arith)

  pub served_long : length (take (d.words + reading_tail) (replicate most_reading v)) ≡ d.words + reading_tail
  served_long = length-take-le (d.words + reading_tail) (replicate most_reading v) served_room

module _ (table sheet : List ℕ) where
  -- ---- the number

  pub board_refused : (open_number table sheet ≡ 0 → ⊥) → board_number table sheet ≡ open_number table sheet
  unfolding board_number pick
  board_refused n = rw (ne_eqb (open_number table sheet) 0 n)

  pub board_found : open_number table sheet ≡ 0 → board_number table sheet ≡ sheet_number (record_of table sheet) (name_of table sheet) sheet
  unfolding board_number pick
  board_found z = rw (eq-eqb (open_number table sheet) 0 z)

  -- a board that is not refused has a record
  pub record_there : board_number table sheet ≡ 0 → open_number table sheet ≡ 0
  record_there z = by (ℕ_discrete (open_number table sheet) 0)
    where
      by : Dec (open_number table sheet ≡ 0) → open_number table sheet ≡ 0
      by (yes e) = e
      by (no n) = sym (board_refused n) ∙ z

  pub board_sound : board_number table sheet ≡ 0 → device_ok (record_of table sheet) ≡ true
  board_sound z = opened_sound table sheet (record_there z)

  pub board_served : board_number table sheet ≡ 0 → device_up_to most_program (record_of table sheet) ≡ true
  board_served z = opened_served table sheet (record_there z)

  -- and its sheet is a sheet
  sheet_there : board_number table sheet ≡ 0 → sheet_ok (record_of table sheet) sheet ≡ true
  sheet_there z = (taken (record_of table sheet) (name_of table sheet) sheet (sym (board_found (record_there z)) ∙ z)).ok

  pub board_named : board_number table sheet ≡ 0 → name_ok (name_of table sheet) ≡ true
  board_named z = opened_named table sheet (record_there z)

  -- ---- what the code's parts come to

  pub board_unopened : (e : Refusal) → number_of e ≡ open_number table sheet → number_of e ≡ board_number table sheet
  board_unopened e p = p ∙ sym (board_refused (λ z. let n : 0 < number_of e = number_of_positive e in omega (arith, p ∙ z)))

  -- a refusal leaves the buffer
  pub board_kept : (e : Refusal) → number_of e ≡ board_number table sheet → (before : List ℕ) → before ≡ opened_reading table sheet before
  unfolding opened_reading
  board_kept e p before = sym (pick_false _ _ _ (ne_eqb (board_number table sheet) 0 (λ z. let n : 0 < number_of e = number_of_positive e in omega (arith, p ∙ z))))

  -- the sheet is read into the first words of the buffer
  module _ (z : 0 ≡ open_number table sheet) (f : Place) (is : f ≡ place_of table sheet) (before : List ℕ) (long : length before ≡ most_reading) where
    keeps : device_ok f.device ≡ true
    keeps = ap (λ x. device_ok x.device) is ∙ opened_sound table sheet (sym z)

    named : (name : List ℕ) → name ≡ take f.name_len (drop f.name_at table) → name ≡ name_of table sheet
    named name e = e ∙ name_is table sheet f is

    name_sound : (name : List ℕ) → name ≡ take f.name_len (drop f.name_at table) → name_ok name ≡ true
    name_sound name e = ap name_ok (named name e) ∙ opened_named table sheet (sym z)

    pub read_room : f.device.words + reading_tail ≤ length before
    read_room =
        let most : f.device.words ≤ most_program = served_most f.device (ap (λ x. device_up_to most_program x.device) is ∙ opened_served table sheet (sym z)) in
        omega arith

    module _ (name : List ℕ) (cut : name ≡ take f.name_len (drop f.name_at table)) (number : ℕ) (e : number ≡ read_number f.device name sheet (take (f.device.words + reading_tail) before)) where
      pub read_number_is : number ≡ board_number table sheet
      read_number_is =
          front_number f.device keeps name (name_sound name cut) sheet before read_room number e
          ∙ ((λ i. sheet_number (is i).device (named name cut i) sheet) ∙ sym (board_found (sym z)))

      module _ (after : List ℕ) (w : after ≡ read_buffer f.device name sheet (take (f.device.words + reading_tail) before) ++ drop (f.device.words + reading_tail) before) where
        pub read_stored : number ≡ 0 → after ≡ opened_reading table sheet before
        unfolding opened_reading board_reading
        read_stored y =
            front_stored f.device keeps name (name_sound name cut) sheet before read_room number e after w y
            ∙ (ap (λ x. sets before 0 (words_in x.device.words sheet)) is ∙ sym (pick_true _ _ _ (eq-eqb (board_number table sheet) 0 (sym read_number_is ∙ y))))

        pub read_kept : (number ≡ 0 → ⊥) → after ≡ opened_reading table sheet before
        unfolding opened_reading
        read_kept n =
            front_stays f.device keeps name (name_sound name cut) sheet before read_room number e after w n
            ∙ sym (pick_false _ _ _ (ne_eqb (board_number table sheet) 0 (λ y. n (read_number_is ∙ y))))

-- ---- what a caller has of a board that is not refused, in a buffer of the most words

pub record Board (table sheet : List ℕ) (d : Device) (reading : List ℕ) : Type 0 where
  pub record_is : d ≡ record_of table sheet
  pub sound : device_ok d ≡ true
  pub served : device_up_to most_program d ≡ true
  pub most : d.words ≤ most_program
  pub within : d.words + reading_tail ≤ length reading
  pub long : length (take (d.words + reading_tail) reading) ≡ d.words + reading_tail
  pub front : take (d.words + reading_tail) reading ≡ board_reading table sheet
  pub good : reading_ok d.words (take (d.words + reading_tail) reading) ≡ true

module _ (table sheet : List ℕ) (number : ℕ) (e : number ≡ board_number table sheet) where
  module _ (z : number ≡ 0) (d : Device) (is : d ≡ record_of table sheet) (before : List ℕ) (size : length before ≡ most_reading) (reading : List ℕ)
      (f : reading ≡ opened_reading table sheet before) where
    zero_is : board_number table sheet ≡ 0
    zero_is = sym e ∙ z

    board_in : Board table sheet d reading
    board_in = record {
      record_is = is;
      sound = ap device_ok is ∙ board_sound table sheet zero_is;
      served = serves;
      most = few;
      within = room;
      long = length-take-le (d.words + reading_tail) reading room;
      front = same;
      good = ap (reading_ok d.words) same ∙ words_good;
    }
      where
        serves : device_up_to most_program d ≡ true
        serves = ap (device_up_to most_program) is ∙ board_served table sheet zero_is

        few : d.words ≤ most_program
        few = served_most d serves

        stored : reading ≡ sets before 0 (board_reading table sheet)
        stored = f ∙ (unfold opened_reading in pick_true _ _ _ (eq-eqb (board_number table sheet) 0 zero_is))

        stays : length reading ≡ most_reading
        stays = ap length stored ∙ (length-sets before 0 (board_reading table sheet) ∙ size)

        room : d.words + reading_tail ≤ length reading
        room = rw stays (omega (arith, few))

        these : board_reading table sheet ≡ words_in d.words sheet
        these = unfold board_reading in ap (λ x. words_in x.words sheet) (sym is)

        count : length (board_reading table sheet) ≡ d.words + reading_tail
        count = ap length these ∙ length_words d.words sheet

        placed : sets before 0 (board_reading table sheet) ≡ board_reading table sheet ++ drop (0 + length (board_reading table sheet)) before
        placed = sets-eq (board_reading table sheet) before 0 (rw (zero-add, count, size) (omega (arith, few)))

        same : take (d.words + reading_tail) reading ≡ board_reading table sheet
        same = ap (take (d.words + reading_tail)) (stored ∙ placed) ∙ take_at (board_reading table sheet) _ (d.words + reading_tail) count

        words_good : reading_ok d.words (board_reading table sheet) ≡ true
        words_good = ap (reading_ok d.words) these ∙ read_sound d sheet (ap (λ x. sheet_ok x sheet) is ∙ sheet_there table sheet zero_is)

  -- ---- a text that begins with the board

  -- the refusal, told of its number
  pub board_told : (told : ℕ → List ℕ) (text : List ℕ) → (number ≡ 0 → ⊥) → told number ≡ pick (eqb (board_number table sheet) 0) text (told (board_number table sheet))
  board_told told text n = ap told e ∙ sym (pick_false _ _ _ (ne_eqb (board_number table sheet) 0 (λ z. n (e ∙ z))))

  -- what comes otherwise
  pub board_text : (text other : List ℕ) → number ≡ 0 → text ≡ pick (eqb (board_number table sheet) 0) text other
  board_text text other z = sym (pick_true _ _ _ (eq-eqb (board_number table sheet) 0 (sym e ∙ z)))

-- ---- what a program prints that answers a text or a refusal

-- a text that was written into a buffer stands in so many bytes at its start
pub record Holds (text : List ℕ) (n : ℕ) (out : List ℕ) : Type 0 where
  pub within : n ≤ length out
  pub whole : take n out ≡ text

-- a refusal is printed by its number
pub refusal_text : (n : ℕ) (text : List ℕ) (e : Refusal) → number_of e ≡ n → refused_text (number_of e) 0 0 ≡ pick (eqb n 0) text (refused_text n 0 0)
refusal_text n text e p =
    ap (λ k. refused_text k 0 0) p
    ∙ sym (pick_false _ _ _ (ne_eqb n 0 (λ z. let m : 0 < number_of e = number_of_positive e in omega (arith, p ∙ z))))

-- and an answer by its text
pub answer_text : (n : ℕ) (text other : List ℕ) → 0 ≡ n → text ≡ pick (eqb n 0) text other
answer_text n text other z = sym (pick_true _ _ _ (eq-eqb n 0 (sym z)))

-- ---- a board in a local buffer of the most words

pub board_opened : (table sheet : List ℕ) (number : ℕ) → number ≡ board_number table sheet → number ≡ 0 → (d : Device) → d ≡ record_of table sheet
    → (reading : List ℕ) → reading ≡ opened_reading table sheet (replicate most_reading 0) → Board table sheet d reading
board_opened table sheet number e z d is reading f = board_in table sheet number e z d is (replicate most_reading 0) (length-replicate {A = ℕ} most_reading 0) reading f

-- as it is answered
pub board_answered : (table sheet : List ℕ) → 0 ≡ board_number table sheet → (f : Place) → f ≡ place_of table sheet
    → (reading : List ℕ) → reading ≡ opened_reading table sheet (replicate most_reading 0) → Board table sheet f.device reading
board_answered table sheet z f is = board_opened table sheet 0 z refl f.device (ap (λ x. x.device) is)

-- another local buffer of the most words has room for a reading too
module _ (table sheet : List ℕ) (d : Device) (reading : List ℕ) (b : Board table sheet d reading) (v : ℕ) where
  pub other_room : d.words + reading_tail ≤ length (replicate most_reading v)
  other_room = served_room d b.served v

  pub other_long : length (take (d.words + reading_tail) (replicate most_reading v)) ≡ d.words + reading_tail
  other_long = served_long d b.served v
