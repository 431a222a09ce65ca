-- Laws of a line that is taken: what it does to a reading, and the column if it is refused.
use Prim.Native.Nat.{ℕ, zero, suc, ◌+◌, ◌/◌, ◌≤◌, ◌<◌}
use Rattle.std.proofs.Math.Decide.{ℕ_discrete}
use native.Mathlib.Omega.{arith}
use Rattle.std.specs.Prelude.{◌≡◌, refl, Bool, Result, Ok, Err, IfErr, List, length, get_or, set}
use Rattle.std.proofs.Math.Path.{sym, ap}
use Rattle.std.proofs.Common.{◌∙◌, inl, inr}
use Rattle.std.proofs.Math.Bool.{true, false}
use Rattle.std.proofs.Math.Dec.{eqb}
use borrow.Author.Tests.{eq-eqb, ne_eqb}
use Rattle.refusal.specs.Refusal.{number_of}
use Rattle.refusal.specs.LawsRefusal.{number_of_positive}
use Rattle.refusal.specs.declared.Refusal.{Refusal}
use Rattle.refusal.specs.declared.Refusal.TheVariants.{AfterEndRecord}
use Rattle.words.specs.Choice.{pick}
use Rattle.words.specs.LawsChoice.{pick_true}
use Rattle.words.specs.Word.{not_given, is_word}
use Rattle.device.specs.Memory.{programmable}
use Rattle.hexread.specs.Line.{count_of, is_record, sum_ok, type_ok, shape_ok, data_ok, line_number}
use Rattle.hexread.specs.Step.{word_of, entry_of_word, word_number, Reading, give_words, record_step, line_step}
use Rattle.hexread.specs.Column.{refused_word, column_of, line_column}
use Rattle.hexread.specs.LawsFault.{fault_column, of_line, of_word}
use Rattle.hexread.specs.LawsDecode.{Tells, pick_zero, sound_byte, sound_offset, sound_high, sound_low}
use Rattle.hexread.specs.LawsGive.{reading, gave, stopped, given_told, GivesRecord}
use Rattle.hexread.specs.LawsReader.{step_empty, step_after, step_bad, step_record, record_data, record_end, record_upper}
use Rattle.hexread.specs.declared.line.Record.TheVariants.{Data, End, Upper}
use Rattle.hexread.specs.declared.fault.RefusedWord.{RefusedWord}
use Rattle.hexread.specs.declared.fault.Fault.{Fault}
use Rattle.hexread.specs.declared.fault.Fault.TheVariants.{Line, Word}

-- ---- what a line's own number tells

pub line_number_most : (line : List ℕ) → line_number line ≤ 6
unfolding line_number
line_number_most line = by (is_record line) (sum_ok line) (type_ok line) (shape_ok line) (data_ok line)
  where
    by : (a b c d e : Bool) → pick a (pick b (pick c (pick d (pick e 0 6) 5) 4) 3) 2 ≤ 6
    by true true true true true = unfold pick in omega arith
    by true true true true false = unfold pick in omega arith
    by true true true false e = unfold pick in omega arith
    by true true false d e = unfold pick in omega arith
    by true false c d e = unfold pick in omega arith
    by false b c d e = unfold pick in omega arith

pub sound_record : (line : List ℕ) → line_number line ≡ 0 → is_record line ≡ true
unfolding line_number
sound_record line e = (pick_zero (is_record line) _ 2 (λ k. omega arith) e).0

-- ---- the word that is refused

-- of n words from word j on, m are given and the next one is refused
pub record WordRefused (words upper : ℕ) (line image : List ℕ) (j n m : ℕ) : Type 0 where
  pub place : refused_word words upper line image j n ≡ j + m
  pub within : m < n
  pub given : (give_words words upper line image j m).number ≡ 0
  pub refused : word_number words upper line (give_words words upper line image j m).image (j + m) ≡ (give_words words upper line image j n).number

module _ (words upper : ℕ) (line : List ℕ) where
  module _ (n j : ℕ) (image : List ℕ) where
    abbrev next : List ℕ
    next = set image (entry_of_word words upper line j) (word_of line j)

    refused_here : (word_number words upper line image j ≡ 0 → ⊥) → WordRefused words upper line image j (suc n) 0
    unfolding give_words refused_word pick
    refused_here z =
        let e : eqb (word_number words upper line image j) 0 ≡ false = ne_eqb (word_number words upper line image j) 0 z in
        let here : j + 0 ≡ j = omega arith in
        record { place = rw (e, here); within = omega arith; given = refl; refused = rw (e, here) }

    module _ (z : word_number words upper line image j ≡ 0) where
      given_here : eqb (word_number words upper line image j) 0 ≡ true
      given_here = eq-eqb (word_number words upper line image j) 0 z

      give_later : (m : ℕ) → give_words words upper line image j (suc m) ≡ give_words words upper line next (j + 1) m
      unfolding give_words
      give_later m = pick_true _ _ _ given_here

      refused_later : (m : ℕ) → WordRefused words upper line next (j + 1) n m → WordRefused words upper line image j (suc n) (suc m)
      unfolding refused_word
      refused_later m t =
          let there : j + 1 + m ≡ j + suc m = omega arith in
          record {
            place = pick_true _ _ _ given_here ∙ (t.place ∙ there);
            within = omega (arith, t.within);
            given = ap (λ r. r.number) (give_later m) ∙ t.given;
            refused = rw (give_later m, give_later n, ← there) t.refused;
          }

  pub word_refused : (n j : ℕ) (image : List ℕ) → ((give_words words upper line image j n).number ≡ 0 → ⊥) → (m : ℕ) × WordRefused words upper line image j n m
  word_refused zero j image some = absurd (some (unfold give_words in refl))
  word_refused (suc n) j image some = by (ℕ_discrete (word_number words upper line image j) 0) (word_refused n (j + 1) (next n j image))
    where
      later : word_number words upper line image j ≡ 0 → ((m : ℕ) × WordRefused words upper line (next n j image) (j + 1) n m) → (m : ℕ) × WordRefused words upper line image j (suc n) m
      later z (m, t) = (suc m, refused_later n j image z m t)

      by : Dec (word_number words upper line image j ≡ 0)
          → (((give_words words upper line (next n j image) (j + 1) n).number ≡ 0 → ⊥) → (m : ℕ) × WordRefused words upper line (next n j image) (j + 1) n m)
          → (m : ℕ) × WordRefused words upper line image j (suc n) m
      by (no z) rest = (0, refused_here n j image z)
      by (yes z) rest = later z (rest (λ y. some (ap (λ r. r.number) (give_later n j image z n) ∙ y)))

-- the number of a word that is not given
word_range : (words upper : ℕ) (line image : List ℕ) (j : ℕ) → (word_number words upper line image j ≡ 0 → ⊥) → (7 ≤ word_number words upper line image j) × (word_number words upper line image j ≤ 9)
unfolding word_number
word_range words upper line image j n = by (programmable words (entry_of_word words upper line j)) (is_word (word_of line j)) (eqb (get_or image (entry_of_word words upper line j) not_given) not_given) n
  where
    number : (a b c : Bool) → ℕ
    number a b c = pick a (pick b (pick c 0 9) 8) 7

    by : (a b c : Bool) → (number a b c ≡ 0 → ⊥) → (7 ≤ number a b c) × (number a b c ≤ 9)
    by true true true n = unfold pick in absurd (n refl)
    by true true false n = unfold pick in (omega arith, omega arith)
    by true false c n = unfold pick in (omega arith, omega arith)
    by false b c n = unfold pick in (omega arith, omega arith)

give_range : (words upper : ℕ) (line image : List ℕ) (n : ℕ) → ((give_words words upper line image 0 n).number ≡ 0 → ⊥)
    → (7 ≤ (give_words words upper line image 0 n).number) × ((give_words words upper line image 0 n).number ≤ 9)
give_range words upper line image n some = by (word_refused words upper line n 0 image some)
  where
    by : (m : ℕ) × WordRefused words upper line image 0 n m → (7 ≤ (give_words words upper line image 0 n).number) × ((give_words words upper line image 0 n).number ≤ 9)
    by (m, t) = rw (← t.refused) (word_range words upper line (give_words words upper line image 0 m).image (0 + m) (λ z. some (sym t.refused ∙ z)))

-- ---- a sound record

-- a refusal decides the column
pub record RecordTaken (words : ℕ) (line : List ℕ) (upper : ℕ) (image : List ℕ) (after : Reading) (r : Result (Unit {0}) Fault) : Type 0 where
  pub step : after ≡ record_step words line (reading false upper image 0)
  pub column_is : IfErr r (λ f. fault_column f line ≡ column_of after.number line (refused_word words upper line image 0 (count_of line / 2)))

module _ (words : ℕ) (line : List ℕ) (upper : ℕ) (image bytes : List ℕ) where
  pub taken_end : Tells line bytes End → RecordTaken words line upper image (reading true upper image 0) (Ok tt)
  taken_end t = record { step = record_end words line upper image _ (sound_byte line bytes t.sound 3 (omega arith)) (λ z. omega (arith, t.kind)) t.kind; column_is = tt }

  pub taken_upper : (half : ℕ) → Tells line bytes (Upper half) → RecordTaken words line upper image (reading false half image 0) (Ok tt)
  taken_upper half t =
      let z : get_or bytes 3 0 ≡ 0 → ⊥ = λ e. omega (arith, t.kind.0) in
      let o : get_or bytes 3 0 ≡ 1 → ⊥ = λ e. omega (arith, t.kind.0) in
      record {
        step = rw (t.kind.1) (record_upper words line upper image _ (sound_byte line bytes t.sound 3 (omega arith)) z o _ _ (sound_high line bytes t.sound z o) (sound_low line bytes t.sound z o));
        column_is = tt;
      }

  module _ (count offset : ℕ) (t : Tells line bytes (Data count offset)) (image' : List ℕ) where
    module _ (r : Result (Unit {0}) RefusedWord) (given : GivesRecord words upper count offset bytes image image' r) where
      gives : given_told upper image' (count / 2) r ≡ gave words upper line image 0 (count_of line / 2)
      gives = given line t.sound t.kind.1 (t.kind.2 ∙ sound_offset line bytes t.sound)

      step_data : (number : ℕ) → reading false upper image' number ≡ give_words words upper line image 0 (count_of line / 2)
          → reading false upper image' number ≡ record_step words line (reading false upper image 0)
      step_data number g = record_data words line upper image _ (sound_byte line bytes t.sound 3 (omega arith)) t.kind.0 image' number g

    pub taken_data : GivesRecord words upper count offset bytes image image' (Ok tt) → RecordTaken words line upper image (reading false upper image' 0) (Ok tt)
    taken_data g = record { step = step_data (Ok tt) g 0 (ap (λ x. x.after) (gives (Ok tt) g)); column_is = tt }

    pub taken_word : (w : RefusedWord) → GivesRecord words upper count offset bytes image image' (Err w)
        → RecordTaken words line upper image (reading false upper image' (number_of w.refusal)) (Err (Word w))
    taken_word w g = record { step = step_data (Err w) g (number_of w.refusal) (ap (λ x. x.after) told); column_is = of_word w line near.0 near.1 ∙ ap (column_of (number_of w.refusal) line) (ap (λ x. x.word) told) }
      where
        told : stopped upper image' (number_of w.refusal) w.word ≡ gave words upper line image 0 (count_of line / 2)
        told = gives (Err w) g

        same : number_of w.refusal ≡ (give_words words upper line image 0 (count_of line / 2)).number
        same = ap (λ x. x.after.number) told

        near : (7 ≤ number_of w.refusal) × (number_of w.refusal ≤ 9)
        near = rw same (give_range words upper line image (count_of line / 2) (λ z. absurd (omega (arith, number_of_positive w.refusal, same, z))))

-- ---- a line

pub record LineTaken (words : ℕ) (line : List ℕ) (r after : Reading) (result : Result (Unit {0}) Fault) : Type 0 where
  pub step : after ≡ line_step words line r
  pub column_is : IfErr result (λ f. fault_column f line ≡ line_column words line r)

module _ (words : ℕ) (line : List ℕ) (ended : Bool) (upper : ℕ) (image : List ℕ) where
  pub line_skipped : length line ≡ 0 → LineTaken words line (reading ended upper image 0) (reading ended upper image 0) (Ok tt)
  line_skipped e = record { step = step_empty words line ended upper image e; column_is = tt }

  -- the column by the number that the step comes to
  column_by : (after : Reading) → after ≡ line_step words line (reading ended upper image 0) → (column : ℕ)
      → column ≡ column_of after.number line (refused_word words upper line image 0 (count_of line / 2)) → column ≡ line_column words line (reading ended upper image 0)
  unfolding line_column
  column_by after e column c = c ∙ ap (λ s. column_of s.number line (refused_word words upper line image 0 (count_of line / 2))) e

  module _ (some : length line ≡ 0 → ⊥) where
    pub line_after : ended ≡ true → LineTaken words line (reading ended upper image 0) (reading ended upper image 11) (Err (Line AfterEndRecord))
    line_after t =
        let s = step_after words line ended upper image some t in
        record { step = s; column_is = column_by _ s _ (of_line AfterEndRecord line _ (λ z. omega arith) (inr (omega arith))) }

    module _ (going : ended ≡ false) where
      pub line_bad : (e : Refusal) → number_of e ≡ line_number line → LineTaken words line (reading ended upper image 0) (reading ended upper image (number_of e)) (Err (Line e))
      line_bad e n =
          let z : number_of e ≡ 0 → ⊥ = λ z. absurd (omega (arith, number_of_positive e, z)) in
          let s = step_bad words line ended upper image some going (number_of e) n z in
          record { step = s; column_is = column_by _ s _ (of_line e line _ z (inl (omega (arith, n, line_number_most line)))) }

      pub line_record : 0 ≡ line_number line → (after : Reading) (r : Result (Unit {0}) Fault) → RecordTaken words line upper image after r → LineTaken words line (reading ended upper image 0) after r
      line_record n after r t = record { step = s; column_is = by r t.column_is }
        where
          s : after ≡ line_step words line (reading ended upper image 0)
          s = step_record words line ended upper image some going 0 n refl after t.step

          by : (r : Result (Unit {0}) Fault) → IfErr r (λ f. fault_column f line ≡ column_of after.number line (refused_word words upper line image 0 (count_of line / 2)))
              → IfErr r (λ f. fault_column f line ≡ line_column words line (reading ended upper image 0))
          by (Ok x) c = tt
          by (Err f) c = column_by after s _ c
