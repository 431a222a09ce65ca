-- Laws of the programs update, fresh, wanted and wanted_fresh, as one program that is told which planner it asks, and whether it prints the stream or the sheet that is left.
use Rattle.std.specs.Prelude.{ℕ, Result, Ok, Err, IsOk, IfOk, ◌+◌, ◌*◌, ◌/◌, ◌≤◌, ◌<◌, ◌≡◌, Bool, List, [], ◌++◌, eqb, leb, length, get_or, take}
use Rattle.std.proofs.Common.{mul-le-mul_left, arith, ◌∙◌, length-append, take_at}
use Rattle.std.proofs.Math.Path.{refl, sym, ap}
use Rattle.std.proofs.Math.Bool.{true, false}
use Rattle.std.proofs.Math.ListN.{length-replicate}
use borrow.Author.Tests.{eq-eqb, eqb-true, ne_eqb, le-leb, lt-leb}
use Rattle.words.specs.Choice.{pick}
use Rattle.words.specs.LawsChoice.{pick_true, pick_false}
use Rattle.device.specs.declared.Device.{Device}
use Rattle.device.specs.Memory.{reading_tail}
use Rattle.device.specs.Record.{device_up_to, device_ok}
use Rattle.device.specs.LawsRecord.{Rules, rules_lem, row, whole_rows}
use Rattle.device.specs.LawsMemory.{image_long}
use Rattle.hexread.specs.Reader.{Outcome, blank_image, refused_at, text_read, read_told, read_answer, HexRead}
use Rattle.hexread.specs.declared.Misread.{Misread}
use Rattle.hexread.specs.LawsImage.{read_image_ok}
use Rattle.target.specs.declared.Order.{Order}
use Rattle.target.specs.Stream.{bytes_of}
use Rattle.plan.specs.Steps.{update_steps, fresh_steps}
use Rattle.aim.specs.Refusal.{update_number, fresh_number}
use Rattle.plan.specs.Answers.{planned_told, Plans}
use Rattle.plan.specs.Demands.{programmed}
use Rattle.plan.specs.LawsPlanBounds.{update_bound, fresh_bound}
use Rattle.refusal.specs.declared.Refusal.{Refusal}
use Rattle.refusal.specs.declared.Refusal.TheVariants.{TextTooLong}
use Rattle.refusal.specs.Refusal.{number_of, number_in}
use Rattle.refusal.specs.LawsRefusal.{number_of_positive}
use Rattle.sheet.specs.Sheet.{sheet_with}
use Rattle.sheet.specs.FirstLine.{first_line, id_told}
use Rattle.sheet.specs.LawsFirstLine.{first_small}
use Rattle.print.specs.Print.{refused_text}
use Rattle.board.specs.Open.{most_program, record_of, open_number, board_number, board_reading}
use Rattle.board.specs.LawsOpen.{served_sound, served_most}
use Rattle.listings.specs.Streams.{stream_text, hex_of, plan_text, update_text, fresh_text}
use Rattle.listings.specs.Wanteds.{left_text, wanted_text, wanted_fresh_text}
use Rattle.listings.specs.LawsStreams.{most_stream}
use Rattle.listings.specs.declared.plans.Planner.{Planner}
use Rattle.listings.specs.declared.plans.Planner.TheVariants.{Update, Fresh}
use Rattle.listings.specs.declared.plans.Printed.{Printed}
use Rattle.listings.specs.declared.plans.Printed.TheVariants.{Stream, Sheet}
use Rattle.listings.specs.LawsPlanned.{plan_held}
use Rattle.board.specs.LawsBoard.{Board, Holds, record_there, refusal_text, answer_text}

-- ---- either planner

abbrev pub is_fresh : Planner → Bool
is_fresh Update = false
is_fresh Fresh = true

abbrev pub is_sheet : Printed → Bool
is_sheet Stream = false
is_sheet Sheet = true

-- its refusal, its steps, and what it knows of the board
unfoldable pub plan_number : (fresh : Bool) → Device → (image reading : List ℕ) → ℕ
plan_number fresh d image reading = pick fresh (fresh_number d image (get_or reading (d.words + 6) 0)) (update_number d image reading)

unfoldable pub plan_steps : (fresh : Bool) → Device → (image reading : List ℕ) → List Order
plan_steps fresh d image reading = pick fresh (fresh_steps d image) (update_steps d image reading)

unfoldable pub known_to : (fresh : Bool) → (reading : List ℕ) → List ℕ
known_to fresh reading = pick fresh [] reading

-- the text of its plan: the sheet that is left, or the stream
unfoldable pub end_text : (fresh left : Bool) (id : ℕ) → Device → (image reading : List ℕ) → List ℕ
end_text fresh left id d image reading =
    pick left (left_text (plan_number fresh d image reading) id d (programmed d image (known_to fresh reading) reading))
    (plan_text (plan_number fresh d image reading) (bytes_of (plan_steps fresh d image reading)))

-- the text for what the HEX file came to
unfoldable given_text : (fresh left : Bool) (id : ℕ) → Device → (reading : List ℕ) → Outcome → List ℕ
given_text fresh left id d reading given = pick (eqb given.number 0) (end_text fresh left id d given.image reading) (refused_text given.number given.line given.column)

unfoldable pub program_text : (fresh left : Bool) → (table sheet hex : List ℕ) → List ℕ
program_text fresh left table sheet hex =
    pick left (pick fresh (wanted_fresh_text table sheet hex) (wanted_text table sheet hex))
    (pick fresh (fresh_text table sheet hex) (update_text table sheet hex))

module _ (table sheet hex : List ℕ) where
  pub update_is : program_text false false table sheet hex ≡ update_text table sheet hex
  unfolding program_text pick
  update_is = refl

  pub fresh_is : program_text true false table sheet hex ≡ fresh_text table sheet hex
  unfolding program_text pick
  fresh_is = refl

  pub wanted_is : program_text false true table sheet hex ≡ wanted_text table sheet hex
  unfolding program_text pick
  wanted_is = refl

  pub wanted_fresh_is : program_text true true table sheet hex ≡ wanted_fresh_text table sheet hex
  unfolding program_text pick
  wanted_fresh_is = refl

-- ---- what the HEX file came to

module _ (fresh left : Bool) (id : ℕ) (d : Device) (reading : List ℕ) (given : Outcome) where
  given_refused : (given.number ≡ 0 → ⊥) → refused_text given.number given.line given.column ≡ given_text fresh left id d reading given
  unfolding given_text
  given_refused n = sym (pick_false (eqb given.number 0) _ _ (ne_eqb given.number 0 n))

  given_found : given.number ≡ 0 → end_text fresh left id d given.image reading ≡ given_text fresh left id d reading given
  unfolding given_text
  given_found z = sym (pick_true (eqb given.number 0) _ _ (eq-eqb given.number 0 z))

-- what a reader leaves does not depend on what the image held before
read_any : (d : Device) (hex image : List ℕ) → device_ok d ≡ true → length image ≡ d.words + reading_tail → text_read d hex image ≡ text_read d hex (blank_image d.words)
unfolding text_read pick
read_any d hex image sound long =
    let blank : length (blank_image d.words) ≡ d.words + reading_tail = unfold blank_image in length-replicate (d.words + reading_tail) _ in
    rw (sound, eq-eqb (length image) (d.words + reading_tail) long, eq-eqb (length (blank_image d.words)) (d.words + reading_tail) blank)

-- ---- the board, and then the HEX file

module _ (fresh left : Bool) (table sheet hex : List ℕ) where
  -- the text for a board that is not refused
  whole : List ℕ
  whole = given_text fresh left (first_line sheet).id (record_of table sheet) (board_reading table sheet) (hex_of table sheet hex)

  program_board : program_text fresh left table sheet hex ≡ pick (eqb (board_number table sheet) 0) whole (refused_text (board_number table sheet) 0 0)
  unfolding whole
  program_board = by fresh left
    where
      by : (f l : Bool) → program_text f l table sheet hex
          ≡ pick (eqb (board_number table sheet) 0) (given_text f l (first_line sheet).id (record_of table sheet) (board_reading table sheet) (hex_of table sheet hex)) (refused_text (board_number table sheet) 0 0)
      by true true = unfold program_text wanted_fresh_text given_text end_text plan_number known_to pick in refl
      by false true = unfold program_text wanted_text given_text end_text plan_number known_to pick in refl
      by true false = unfold program_text fresh_text given_text end_text plan_number plan_steps pick in refl
      by false false = unfold program_text update_text given_text end_text plan_number plan_steps pick in refl

  program_refused : (e : Refusal) → number_of e ≡ board_number table sheet → refused_text (number_of e) 0 0 ≡ program_text fresh left table sheet hex
  program_refused e p = refusal_text (board_number table sheet) whole e p ∙ sym program_board

  module _ (z : 0 ≡ board_number table sheet) where
    program_whole : whole ≡ program_text fresh left table sheet hex
    program_whole = answer_text (board_number table sheet) whole _ z ∙ sym program_board

    program_long : 65536 < length hex → refused_text 1 0 0 ≡ program_text fresh left table sheet hex
    unfolding whole
    program_long h =
        let long : hex_of table sheet hex ≡ refused_at (record_of table sheet).words 1 0 0 = unfold hex_of in pick_false (leb (length hex) 65536) _ _ (lt-leb (length hex) 65536 h) in
        let told : refused_text 1 0 0 ≡ given_text fresh left (first_line sheet).id (record_of table sheet) (board_reading table sheet) (refused_at (record_of table sheet).words 1 0 0) =
        unfold given_text refused_at pick in refl in
        told ∙ (ap (given_text fresh left (first_line sheet).id (record_of table sheet) (board_reading table sheet)) (sym long) ∙ program_whole)

    program_hex : ((hex_of table sheet hex).number ≡ 0 → ⊥) → refused_text (hex_of table sheet hex).number (hex_of table sheet hex).line (hex_of table sheet hex).column ≡ program_text fresh left table sheet hex
    unfolding whole
    program_hex n = given_refused fresh left (first_line sheet).id (record_of table sheet) (board_reading table sheet) (hex_of table sheet hex) n ∙ program_whole

    program_found : (hex_of table sheet hex).number ≡ 0
        → end_text fresh left (first_line sheet).id (record_of table sheet) (hex_of table sheet hex).image (board_reading table sheet) ≡ program_text fresh left table sheet hex
    unfolding whole
    program_found y = given_found fresh left (first_line sheet).id (record_of table sheet) (board_reading table sheet) (hex_of table sheet hex) y ∙ program_whole

-- ---- what the files of a program come to

-- a refusal of the board or of the HEX file is what each program prints
pub record Refused (table sheet hex : List ℕ) (m : Misread) : Type 0 where
  pub text : (fresh left : Bool) → refused_text (number_of m.refusal) m.line m.column ≡ program_text fresh left table sheet hex

-- line 1 of a board that is not refused is read
second_held : (a b : Bool) (n : ℕ) → pick a (pick b n 14) 15 ≡ 0 → b ≡ true
unfolding pick
second_held true true n e = refl
second_held true false n e = absurd (omega (arith, e))
second_held false b n e = absurd (omega (arith, e))

line_there : (table sheet : List ℕ) → 0 ≡ board_number table sheet → (first_line sheet).number ≡ 0
unfolding open_number
line_there table sheet z = eqb-true (first_line sheet).number 0 (second_held _ _ _ (record_there table sheet (sym z)))

pub id_there : (table sheet : List ℕ) → 0 ≡ board_number table sheet → (r : Result ℕ Refusal) → id_told r ≡ first_line sheet → IsOk r
id_there table sheet z (Ok id) e = refl
id_there table sheet z (Err f) e = let n : 0 < number_of f = number_of_positive f in absurd (omega (arith, ap (λ x. x.number) e ∙ line_there table sheet z))

-- a board, the ID on its line 1, its reading, and the image of the HEX file, the two at the front of their buffers
pub record Given (table sheet hex : List ℕ) (d : Device) (id : ℕ) (reading image : List ℕ) : Type 0 where
  pub board : Board table sheet d reading
  pub opened : 0 ≡ board_number table sheet
  pub id_is : id ≡ (first_line sheet).id
  pub read : (hex_of table sheet hex).number ≡ 0
  pub front : take (d.words + reading_tail) image ≡ (hex_of table sheet hex).image
  pub within : d.words + reading_tail ≤ length image

module _ (table sheet hex : List ℕ) where
  pub refused_board : (e : Refusal) → number_of e ≡ board_number table sheet → (m : Misread) → m ≡ record { refusal = e; line = 0; column = 0 } → Refused table sheet hex m
  refused_board e p m is = rw is (record { text = λ fresh left. program_refused fresh left table sheet hex e p })

  pub refused_long : 0 ≡ board_number table sheet → 65536 < length hex → (m : Misread) → m ≡ record { refusal = TextTooLong; line = 0; column = 0 } → Refused table sheet hex m
  refused_long z h m is = rw is (record { text = λ fresh left. program_long fresh left table sheet hex z h })

  module _ (z : 0 ≡ board_number table sheet) (d : Device) (reading : List ℕ) (b : Board table sheet d reading) (h : length hex ≤ 65536) (image : List ℕ) (long : length image ≡ d.words + reading_tail)
      (r : Result (Unit {0}) Misread) (image' : List ℕ) (p : HexRead d hex image (read_told r) image') where
    given : text_read d hex image ≡ hex_of table sheet hex
    unfolding hex_of
    given =
        read_any d hex image b.sound long
        ∙ (ap (λ x. text_read x hex (blank_image x.words)) b.record_is ∙ sym (pick_true (leb (length hex) 65536) _ _ (le-leb (length hex) 65536 h)))

    told : read_told r ≡ record { number = (hex_of table sheet hex).number; line = (hex_of table sheet hex).line; column = (hex_of table sheet hex).column }
    unfolding read_answer
    told = p.answer ∙ ap (λ (x : Outcome). record { number = x.number; line = x.line; column = x.column }) given

    image_found : image' ≡ (hex_of table sheet hex).image
    image_found = p.image_is ∙ ap (λ x. x.image) given

  module _ (z : 0 ≡ board_number table sheet) (d : Device) (reading : List ℕ) (b : Board table sheet d reading) (h : length hex ≤ 65536) (image : List ℕ) (long : length image ≡ d.words + reading_tail)
      (image' : List ℕ) where
    pub refused_hex : (m : Misread) → HexRead d hex image (read_told (Err m)) image' → Refused table sheet hex m
    refused_hex m p =
        let same = told z d reading b h image long (Err m) image' p in
        record {
          text = λ fresh left.
              (λ i. refused_text (same i).number (same i).line (same i).column)
              ∙ program_hex fresh left table sheet hex z (λ y. let n : 0 < number_of m.refusal = number_of_positive m.refusal in omega (arith, ap (λ x. x.number) same ∙ y));
        }

    pub given_all : HexRead d hex image (read_told (Ok tt)) image' → (id : ℕ) → id ≡ (first_line sheet).id → (rest : List ℕ) → Given table sheet hex d id reading (image' ++ rest)
    given_all p id e rest =
        record {
          board = b;
          opened = z;
          id_is = e;
          read = zero_is;
          front = take_at image' rest (d.words + reading_tail) count ∙ image_found z d reading b h image long (Ok tt) image' p;
          within = rw (length-append image' rest) (omega (arith, count));
        }
      where
        zero_is : (hex_of table sheet hex).number ≡ 0
        zero_is = sym (ap (λ x. x.number) (told z d reading b h image long (Ok tt) image' p))

        count : length image' ≡ d.words + reading_tail
        count =
            ap length p.image_is
            ∙ image_long d.words (text_read d hex image).image (read_image_ok d hex image (ap (λ x. x.number) (given z d reading b h image long (Ok tt) image' p) ∙ zero_is))

  module _ (d : Device) (id : ℕ) (reading image : List ℕ) (g : Given table sheet hex d id reading image) where
    pub given_small : id < 0x4000
    given_small = rw g.id_is (first_small sheet (first_line sheet) refl)

    pub given_text_is : (fresh left : Bool) → end_text fresh left id d (take (d.words + reading_tail) image) (take (d.words + reading_tail) reading) ≡ program_text fresh left table sheet hex
    given_text_is fresh left =
        (λ i. end_text fresh left (g.id_is i) (g.board.record_is i) (g.front i) (g.board.front i)) ∙ program_found fresh left table sheet hex g.opened g.read

-- ---- each planner has room

program_few : (d : Device) (served : device_up_to most_program d ≡ true) (n : ℕ) → n ≤ 2 * d.words + 2 * (d.words / d.row) + 22 → 3 * n ≤ most_stream
program_few d served n h =
    let keeps : Rules d = rules_lem d (served_sound d served) in
    let rows : d.words / d.row * d.row ≡ d.words = whole_rows d keeps in
    let least : 8 ≤ d.row = (row d.row keeps.row_is).low in
    let eight : d.words / d.row * 8 ≤ d.words / d.row * d.row = mul-le-mul_left (d.words / d.row) least in
    let most : d.words ≤ most_program = served_most d served in
    omega arith

pub fresh_few : (d : Device) → device_up_to most_program d ≡ true → (image : List ℕ) → 3 * length (fresh_steps d image) ≤ most_stream
fresh_few d served image = program_few d served (length (fresh_steps d image)) (fresh_bound d image (served_sound d served))

pub update_few : (d : Device) → device_up_to most_program d ≡ true → (image reading : List ℕ) → 3 * length (update_steps d image reading) ≤ most_stream
update_few d served image reading = program_few d served (length (update_steps d image reading)) (update_bound d image reading (served_sound d served))

pub plan_few : (fresh : Bool) (d : Device) → device_up_to most_program d ≡ true → (image reading : List ℕ) → 3 * length (plan_steps fresh d image reading) ≤ most_stream
unfolding plan_steps pick
plan_few true d served image reading = fresh_few d served image
plan_few false d served image reading = update_few d served image reading

-- ---- what a planner answers

module _ (planner : Planner) (d : Device) (served : device_up_to most_program d ≡ true) (image reading before : List ℕ) (long : length before ≡ most_stream) (r : Result ℕ Refusal) (out : List ℕ) where
  pub held_update : planner ≡ Update → Plans (update_number d image reading) (update_steps d image reading) before (planned_told r) out
      → (number_in r ≡ plan_number (is_fresh planner) d image reading) × IfOk r (λ n. Holds (bytes_of (plan_steps (is_fresh planner) d image reading)) (3 * n) out)
  unfolding plan_number plan_steps pick
  held_update e p = rw e (plan_held (update_number d image reading) (update_steps d image reading) (update_few d served image reading) before long r out p)

  pub held_fresh : planner ≡ Fresh → Plans (fresh_number d image (get_or reading (d.words + 6) 0)) (fresh_steps d image) before (planned_told r) out
      → (number_in r ≡ plan_number (is_fresh planner) d image reading) × IfOk r (λ n. Holds (bytes_of (plan_steps (is_fresh planner) d image reading)) (3 * n) out)
  unfolding plan_number plan_steps pick
  held_fresh e p = rw e (plan_held (fresh_number d image (get_or reading (d.words + 6) 0)) (fresh_steps d image) (fresh_few d served image) before long r out p)

-- ---- the text of a plan

module _ (fresh left : Bool) (id : ℕ) (d : Device) (image reading : List ℕ) where
  pub end_refused : (e : Refusal) → number_of e ≡ plan_number fresh d image reading → (k : ℕ) → k ≡ number_of e → refused_text k 0 0 ≡ end_text fresh left id d image reading
  unfolding end_text left_text plan_text
  end_refused e p k is = ap (λ n. refused_text n 0 0) is ∙ by left
    where
      by : (l : Bool) → refused_text (number_of e) 0 0
          ≡ pick l (pick (eqb (plan_number fresh d image reading) 0) (sheet_with id d (programmed d image (known_to fresh reading) reading)) (refused_text (plan_number fresh d image reading) 0 0))
          (pick (eqb (plan_number fresh d image reading) 0) (stream_text (bytes_of (plan_steps fresh d image reading))) (refused_text (plan_number fresh d image reading) 0 0))
      by true = refusal_text (plan_number fresh d image reading) _ e p ∙ sym (pick_true true _ _ refl)
      by false = refusal_text (plan_number fresh d image reading) _ e p ∙ sym (pick_false false _ _ refl)

  pub end_stream : left ≡ false → 0 ≡ plan_number fresh d image reading → (n : ℕ) (out : List ℕ) → Holds (bytes_of (plan_steps fresh d image reading)) n out → stream_text (take n out) ≡ end_text fresh left id d image reading
  unfolding end_text plan_text
  end_stream f z n out h = ap stream_text h.whole ∙ (answer_text (plan_number fresh d image reading) _ _ z ∙ sym (pick_false left _ _ f))

  pub end_left : left ≡ true → 0 ≡ plan_number fresh d image reading → sheet_with id d (programmed d image (known_to fresh reading) reading) ≡ end_text fresh left id d image reading
  unfolding end_text left_text
  end_left t z = answer_text (plan_number fresh d image reading) _ _ z ∙ sym (pick_true left _ _ t)
