-- Laws of the programs checksum and verify: what the code's parts answer, their text, and how long it is at most.
use Rattle.std.specs.Prelude.{ℕ, ◌+◌, ◌≤◌, ◌<◌, ◌≡◌, refl, Bool, List, ◌++◌, Result, Ok, IfOk, ltb, length, take, drop, replicate}
use native.Mathlib.Omega.{arith}
use Rattle.std.proofs.Math.Path.{sym, ap}
use Rattle.std.proofs.Common.{◌∙◌, eq-eqb, ne_eqb}
use Rattle.std.proofs.Math.Bool.{true, false}
use Rattle.std.proofs.Math.Seq.{sets}
use Rattle.words.specs.Choice.{pick}
use Rattle.words.specs.LawsChoice.{pick_true, pick_false}
use Rattle.words.specs.LawsTests.{by_eq}
use Rattle.words.specs.Address.{config_base, address_of}
use Rattle.words.specs.declared.WordAddress.{WordAddress}
use Rattle.words.specs.First.{first_to}
use Rattle.refusal.specs.declared.Refusal.{Refusal}
use Rattle.refusal.specs.Refusal.{number_of, number_in}
use Rattle.refusal.specs.LawsRefusal.{number_of_positive}
use Rattle.device.specs.declared.Device.{Device}
use Rattle.device.specs.Memory.{reading_tail, reading_ok, protected}
use Rattle.table.specs.declared.Found.{Found as Place}
use Rattle.table.specs.Table.{name_ok}
use Rattle.sheet.specs.Sheet.{sheet_number, words_in, read_number, read_buffer}
use Rattle.judge.specs.declared.Verdict.{Verdict}
use Rattle.judge.specs.declared.Verdict.TheVariants.{Same, Differs, Protected}
use Rattle.judge.specs.Checksum.{checksum_of, summed, sum_told}
use Rattle.judge.specs.Count.{count_to}
use Rattle.judge.specs.Verify.{ToldVerdict, entry_differs, bare, as_told, verdict_told, verdict_of, verified}
use Rattle.judge.specs.LawsChecksum.{sum_there}
use Rattle.judge.specs.LawsCount.{count_le}
use Rattle.judge.specs.LawsTold.{verdict_unique}
use Rattle.judge.specs.LawsVerify.{verified_judged}
use Rattle.print.specs.LawsPrint.{prints_as}
use Rattle.print.specs.Print.{Prints, refused_text, sum_text, verdict_text}
use Rattle.print.specs.LawsLines.{either_short, sum_short, verdict_short}
use Rattle.board.specs.Open.{most_program, record_of, name_of, place_of, board_number, board_reading}
use Rattle.board.specs.LawsOpen.{served_most, name_is}
use Rattle.board.specs.LawsFront.{front_number, front_stored, front_words, front_room, front_good}
use Rattle.board.specs.LawsBoard.{most_reading, Board, board_named, board_served, other_room, refusal_text, answer_text}
use Rattle.reports.specs.Programs.{checksum_text, verdict_line, verify_number, verify_text}

-- ---- checksum

module _ (table sheet : List ℕ) where
  -- the judge is not asked of a board that is refused, and does not refuse another
  pub sum_answered : 0 ≡ board_number table sheet → (d : Device) (reading : List ℕ) → Board table sheet d reading → (r : Result ℕ Refusal) → sum_told r ≡ summed d (take (d.words + reading_tail) reading)
      → r ≡ Ok (checksum_of (record_of table sheet) (board_reading table sheet))
  sum_answered z d reading b r e =
      sum_there d (take (d.words + reading_tail) reading) b.sound b.good r e
      ∙ ((λ i. Ok (checksum_of d (b.front i))) ∙ (λ i. Ok (checksum_of (b.record_is i) (board_reading table sheet))))

  checksum_refused_text : (e : Refusal) → number_of e ≡ board_number table sheet → refused_text (number_of e) 0 0 ≡ checksum_text table sheet
  unfolding checksum_text
  checksum_refused_text e p = refusal_text (board_number table sheet) _ e p

  -- a refusal is printed by the number that the code has of it
  pub checksum_refused : (e : Refusal) → number_of e ≡ board_number table sheet → (n : ℕ) (out : List ℕ) (r : ℕ) (out' : List ℕ) → Prints (refused_text n 0 0) out r out' → n ≡ number_of e → Prints (checksum_text table sheet) out r out'
  checksum_refused e p n out r out' q is = prints_as _ _ _ _ _ (ap (λ k. refused_text k 0 0) is ∙ checksum_refused_text e p) q

  pub checksum_found : 0 ≡ board_number table sheet → (n : ℕ) → n ≡ checksum_of (record_of table sheet) (board_reading table sheet) → sum_text n ≡ checksum_text table sheet
  unfolding checksum_text
  checksum_found z n e = ap sum_text e ∙ answer_text (board_number table sheet) _ (refused_text (board_number table sheet) 0 0) z

pub checksum_short : (table sheet : List ℕ) → length (checksum_text table sheet) ≤ 64
unfolding checksum_text
checksum_short table sheet =
    either_short 64 (omega arith) (board_number table sheet) 0 0 _
    (λ z. let few : length (sum_text (checksum_of (record_of table sheet) (board_reading table sheet))) ≤ 30 = sum_short _ in omega arith)

-- ---- verify

-- a verdict on the board's reading and the wanted one
abbrev pub Judged : (table sheet wanted : List ℕ) → Verdict → Type 0
Judged table sheet wanted v = as_told v ≡ verdict_of (record_of table sheet) (words_in (record_of table sheet).words wanted) (board_reading table sheet)

-- what is told of two readings is a verdict
some_verdict : (d : Device) (wanted reading : List ℕ) → (v : Verdict) × (as_told v ≡ verdict_of d wanted reading)
unfolding verdict_of
some_verdict d wanted reading = by (ltb 0 (count_to (d.words + reading_tail) (entry_differs d wanted reading))) (protected d.words reading)
  where
    place : WordAddress
    place = record { 0 = address_of config_base d.words (first_to (d.words + reading_tail) (entry_differs d wanted reading)) }

    count : ℕ
    count = count_to (d.words + reading_tail) (entry_differs d wanted reading)

    by : (c h : Bool) → (v : Verdict) × (as_told v ≡ pick c (record { number = 40; address = place; count = count }) (pick h (bare 41) (bare 0)))
    by true h = (Differs place count, unfold pick in refl)
    by false true = (Protected, unfold pick in refl)
    by false false = (Same, unfold pick in refl)

counted : (d : Device) (wanted reading : List ℕ) → (verdict_of d wanted reading).count ≤ d.words + reading_tail
unfolding verdict_of
counted d wanted reading = by (ltb 0 count) (protected d.words reading) (count_le (d.words + reading_tail) (entry_differs d wanted reading))
  where
    count : ℕ
    count = count_to (d.words + reading_tail) (entry_differs d wanted reading)

    by : (c h : Bool) → count ≤ d.words + reading_tail
        → (pick c (record {
          number = 40;
          address = record { 0 = address_of config_base d.words (first_to (d.words + reading_tail) (entry_differs d wanted reading)) };
          count = count;
        })
        (pick h (bare 41) (bare 0))).count ≤ d.words + reading_tail
    by true h m = unfold pick in m
    by false true m = unfold pick in omega arith
    by false false m = unfold pick in omega arith

module _ (table sheet wanted : List ℕ) where
  pub verify_unopened : (e : Refusal) → number_of e ≡ board_number table sheet → number_of e ≡ verify_number table sheet wanted
  unfolding verify_number
  verify_unopened e p = p ∙ sym (pick_false _ _ _ (ne_eqb (board_number table sheet) 0 (λ z. let n : 0 < number_of e = number_of_positive e in omega (arith, p ∙ z))))

  -- the wanted sheet is read under the board's record and name, into the first words of a buffer
  module _ (z : 0 ≡ board_number table sheet) (f : Place) (is : f ≡ place_of table sheet) (reading : List ℕ) (b : Board table sheet f.device reading)
      (name : List ℕ) (cut : name ≡ take f.name_len (drop f.name_at table)) (n : ℕ) (e : n ≡ read_number f.device name wanted (take (f.device.words + reading_tail) (replicate most_reading 0))) where
    name_too : name ≡ name_of table sheet
    name_too = cut ∙ name_is table sheet f is

    named : name_ok name ≡ true
    named = ap name_ok name_too ∙ board_named table sheet (sym z)

    room : f.device.words + reading_tail ≤ length (replicate {A = ℕ} most_reading 0)
    room = other_room table sheet f.device reading b 0

    pub verify_read : n ≡ verify_number table sheet wanted
    unfolding verify_number
    verify_read =
        front_number f.device b.sound name named wanted (replicate most_reading 0) room n e
        ∙ ((λ i. sheet_number (is i).device (name_too i) wanted) ∙ sym (pick_true _ _ _ (eq-eqb (board_number table sheet) 0 (sym z))))

    module _ (y : n ≡ 0) (words : List ℕ)
        (w : words ≡ read_buffer f.device name wanted (take (f.device.words + reading_tail) (replicate most_reading 0)) ++ drop (f.device.words + reading_tail) (replicate most_reading 0)) where
      stored : words ≡ sets (replicate most_reading 0) 0 (words_in f.device.words wanted)
      stored = front_stored f.device b.sound name named wanted (replicate most_reading 0) room n e words w y

      zero : sheet_number f.device name wanted ≡ 0
      zero = sym (front_number f.device b.sound name named wanted (replicate most_reading 0) room n e) ∙ y

      front : take (f.device.words + reading_tail) words ≡ words_in f.device.words wanted
      front = ap (take (f.device.words + reading_tail)) stored ∙ front_words f.device b.sound name named wanted (replicate most_reading 0) room zero

      pub verify_within : f.device.words + reading_tail ≤ length words
      verify_within = rw stored (front_room f.device b.sound name named wanted (replicate most_reading 0) room zero)

      good : reading_ok f.device.words (words_in f.device.words wanted) ≡ true
      good = front_good f.device b.sound name named wanted (replicate most_reading 0) room zero

      pub verify_judged : (r : Result Verdict Refusal) → verdict_told r ≡ verified f.device (take (f.device.words + reading_tail) words) (take (f.device.words + reading_tail) reading)
          → (number_in r ≡ verify_number table sheet wanted) × IfOk r (λ v. Judged table sheet wanted v)
      verify_judged r p =
          let v = some_verdict (record_of table sheet) (words_in (record_of table sheet).words wanted) (board_reading table sheet) in
          let ok : r ≡ Ok v.0 = verdict_unique r (Ok v.0) (p ∙ (told ∙ sym v.1)) in
          rw ok (sym y ∙ verify_read, v.1)
        where
          told : verified f.device (take (f.device.words + reading_tail) words) (take (f.device.words + reading_tail) reading)
              ≡ verdict_of (record_of table sheet) (words_in (record_of table sheet).words wanted) (board_reading table sheet)
          told =
              (λ i. verified f.device (front i) (take (f.device.words + reading_tail) reading))
              ∙ (verified_judged f.device (words_in f.device.words wanted) (take (f.device.words + reading_tail) reading) b.sound good b.good
              ∙ ((λ i. verdict_of f.device (words_in f.device.words wanted) (b.front i))
              ∙ ap (λ x. verdict_of x (words_in x.words wanted) (board_reading table sheet)) b.record_is))

  pub verify_refused : (e : Refusal) → number_of e ≡ verify_number table sheet wanted → refused_text (number_of e) 0 0 ≡ verify_text table sheet wanted
  unfolding verify_text
  verify_refused e p = refusal_text (verify_number table sheet wanted) _ e p

  -- the line of a verdict
  module _ (z : 0 ≡ verify_number table sheet wanted) where
    line : (v : Verdict) → Judged table sheet wanted v → verdict_line (as_told v) ≡ verify_text table sheet wanted
    unfolding verify_text
    line v j = ap verdict_line j ∙ answer_text (verify_number table sheet wanted) _ (refused_text (verify_number table sheet wanted) 0 0) z

    pub verify_same : Judged table sheet wanted Same → verdict_text 0 0 0 ≡ verify_text table sheet wanted
    unfolding verdict_line
    verify_same j = line Same j

    pub verify_differs : (a : WordAddress) (k : ℕ) → Judged table sheet wanted (Differs a k) → verdict_text 40 a.0 k ≡ verify_text table sheet wanted
    unfolding verdict_line
    verify_differs a k j = line (Differs a k) j

    pub verify_protected : Judged table sheet wanted Protected → verdict_text 41 0 0 ≡ verify_text table sheet wanted
    unfolding verdict_line
    verify_protected j = line Protected j

    -- the count fits a number that is printed
    pub verify_few : (a : WordAddress) (k : ℕ) → Judged table sheet wanted (Differs a k) → k ≤ most_reading
    verify_few a k j =
        let few : (record_of table sheet).words ≤ most_program = served_most (record_of table sheet) (board_served table sheet opened) in
        let count : k ≡ (verdict_of (record_of table sheet) (words_in (record_of table sheet).words wanted) (board_reading table sheet)).count = ap (λ x. x.count) j in
        omega (arith, counted (record_of table sheet) (words_in (record_of table sheet).words wanted) (board_reading table sheet))
      where
        opened : board_number table sheet ≡ 0
        opened = by_eq (board_number table sheet) 0 (λ e. e) (λ n. sym (unfold verify_number in z ∙ pick_false _ _ _ (ne_eqb (board_number table sheet) 0 n)))

pub verify_short : (table sheet wanted : List ℕ) → length (verify_text table sheet wanted) ≤ 64
unfolding verify_text
verify_short table sheet wanted =
    either_short 64 (omega arith) (verify_number table sheet wanted) 0 0 _
    (λ z. unfold verdict_line in omega (arith, verdict_short verdict.number verdict.address.0 verdict.count))
  where
    verdict : ToldVerdict
    verdict = verdict_of (record_of table sheet) (words_in (record_of table sheet).words wanted) (board_reading table sheet)
