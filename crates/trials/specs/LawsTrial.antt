-- Laws of the program trial: its text from what the code's parts answer, and how long it is at most.
use Rattle.std.specs.Prelude.{ℕ, Result, Ok, Err, IsOk, refl, ◌+◌, ◌*◌, ◌≤◌, ◌<◌, ◌≡◌, Bool, true, List, eqb, length}
use native.Mathlib.Omega.{arith}
use Rattle.std.proofs.Common.{sym, ◌∙◌, eq-eqb, ne_eqb, eqb-true}
use Rattle.std.proofs.Math.Path.{ap}
use Rattle.std.proofs.Math.Bool.{false}
use Rattle.std.proofs.Math.ListN.{take}
use Rattle.words.specs.Choice.{pick}
use Rattle.words.specs.LawsChoice.{pick_true, pick_false}
use Rattle.device.specs.declared.Device.{Device}
use Rattle.device.specs.Memory.{reading_tail}
use Rattle.device.specs.Record.{device_up_to}
use Rattle.sheet.specs.FirstLine.{first_line, id_told}
use Rattle.refusal.specs.declared.Refusal.{Refusal}
use Rattle.refusal.specs.Refusal.{number_of}
use Rattle.refusal.specs.LawsRefusal.{number_of_positive}
use Rattle.print.specs.Print.{refused_text}
use Rattle.print.specs.LawsLines.{refused_short, either_short}
use Rattle.board.specs.Open.{most_program, record_of, open_number, board_number, board_reading}
use Rattle.board.specs.LawsBoard.{Board, record_there, board_served, refusal_text, answer_text}
use Rattle.trials.specs.Trial.{bad_line, stream_of, played, played_text, trial_text}
use Rattle.trials.specs.LawsTyped.{Stored, BadLine, front_is}
use Rattle.trials.specs.LawsPlayed.{played_short}

-- ---- line 1 of a board that is not refused is read

second_held : (a b : Bool) (n : ℕ) → pick a (pick b n 14) 15 ≡ 0 → b ≡ true
unfolding pick
second_held true true n e = refl
second_held true false n e = absurd (omega (arith, e))
second_held false b n e = absurd (omega (arith, e))

line_there : (table sheet : List ℕ) → 0 ≡ board_number table sheet → (first_line sheet).number ≡ 0
unfolding open_number
line_there table sheet z = eqb-true (first_line sheet).number 0 (second_held _ _ _ (record_there table sheet (sym z)))

pub id_there : (table sheet : List ℕ) → 0 ≡ board_number table sheet → (r : Result ℕ Refusal) → id_told r ≡ first_line sheet → IsOk r
id_there table sheet z (Ok id) e = refl
id_there table sheet z (Err f) e = let n : 0 < number_of f = number_of_positive f in absurd (omega (arith, ap (λ x. x.number) e ∙ line_there table sheet z))

-- ---- the text of the program

module _ (table sheet stream : List ℕ) where
  pub trial_refused : (e : Refusal) → number_of e ≡ board_number table sheet → (k : ℕ) → k ≡ number_of e → refused_text k 0 0 ≡ trial_text table sheet stream
  unfolding trial_text
  trial_refused e p k is = ap (λ n. refused_text n 0 0) is ∙ refusal_text (board_number table sheet) _ e p

  module _ (z : 0 ≡ board_number table sheet) where
    pub trial_34 : (line : ℕ) → BadLine stream line → (k : ℕ) → k ≡ 34 → refused_text k line 1 ≡ trial_text table sheet stream
    unfolding trial_text
    trial_34 line bad k is =
        (λ i. refused_text (is i) (bad.line_is i) 1)
        ∙ (sym (pick_false (eqb (bad_line stream) 0) _ _ (ne_eqb (bad_line stream) 0 (λ y. let s : 0 < line = bad.some in omega (arith, bad.line_is ∙ y))))
        ∙ answer_text (board_number table sheet) _ _ z)

    pub trial_run : (stream₀ : List ℕ) → length stream₀ ≡ 98304 → (steps : ℕ) (bytes : List ℕ) → Stored stream stream₀ steps bytes → (d : Device) (reading : List ℕ) → Board table sheet d reading
        → (id : ℕ) → id ≡ (first_line sheet).id
        → played_text id d (played d (take (d.words + reading_tail) reading) (take (3 * steps) bytes)) ≡ trial_text table sheet stream
    unfolding trial_text
    trial_run stream₀ long steps bytes read d reading b id f =
        (λ i. played_text (f i) (b.record_is i) (played (b.record_is i) (b.front i) (front i)))
        ∙ (sym (pick_true (eqb (bad_line stream) 0) _ _ (eq-eqb (bad_line stream) 0 read.good))
        ∙ answer_text (board_number table sheet) _ _ z)
      where
        front : take (3 * steps) bytes ≡ stream_of stream
        front =
            ap (take (3 * steps)) read.bytes
            ∙ front_is stream₀ (stream_of stream) (3 * steps) read.count (let f : steps ≤ 32768 = read.few in omega arith)

-- ---- how long the text is

-- no text of the program is longer than the longest sheet
pub trial_short : (table sheet stream : List ℕ) → length (trial_text table sheet stream) ≤ 46135
unfolding trial_text
trial_short table sheet stream =
    either_short 46135 (omega arith) (board_number table sheet) 0 0 _ (λ z. by (eqb (bad_line stream) 0) (board_served table sheet z) (refused_short 34 (bad_line stream) 1))
  where
    by : (c : Bool) → device_up_to most_program (record_of table sheet) ≡ true → length (refused_text 34 (bad_line stream) 1) ≤ 41
        → length (pick c (played_text (first_line sheet).id (record_of table sheet) (played (record_of table sheet) (board_reading table sheet) (stream_of stream))) (refused_text 34 (bad_line stream) 1)) ≤ 46135
    by true served s = unfold pick in played_short (first_line sheet).id (record_of table sheet) served _
    by false served s = unfold pick in omega arith
