-- What a refused line tells: its refusal's number, and the column by it.
use Rattle.std.specs.Prelude.{ℕ, ◌+◌, ◌*◌, ◌≤◌, ◌<◌, ◌≡◌, ◌⊎◌, refl, Result, Ok, Err, List, eqb}
use Rattle.std.proofs.Common.{arith, sym, ⊎_elim}
use Rattle.std.proofs.Math.Decide.{ℕ_discrete}
use borrow.Author.Tests.{eq-eqb, ne_eqb, le-leb, lt-leb}
use Rattle.refusal.specs.Refusal.{number_of}
use Rattle.refusal.specs.LawsRefusal.{number_of_unique}
use Rattle.refusal.specs.declared.Refusal.{Refusal}
use Rattle.refusal.specs.declared.Refusal.TheVariants.{NotARecord}
use Rattle.words.specs.Choice.{pick}
use Rattle.hexread.specs.Column.{bad_column, word_column, column_of}
use Rattle.hexread.specs.declared.fault.RefusedWord.{RefusedWord}
use Rattle.hexread.specs.declared.fault.Fault.{Fault}
use Rattle.hexread.specs.declared.fault.Fault.TheVariants.{Line, Word}

abbrev pub refusal_of : Fault → Refusal
refusal_of (Line e) = e
refusal_of (Word w) = w.refusal

-- 0, or the number of the refusal
abbrev pub number_in_line : Result (Unit {0}) Fault → ℕ
number_in_line (Ok _) = 0
number_in_line (Err f) = number_of (refusal_of f)

-- 2 stands at its character, a word at its low byte, any other refusal at the whole line
unfoldable pub fault_column : Fault → List ℕ → ℕ
fault_column (Line e) line = pick (eqb (number_of e) 2) (bad_column line) 1
fault_column (Word w) line = word_column w.word

pub column_character : (line : List ℕ) → bad_column line ≡ fault_column (Line NotARecord) line
unfolding fault_column pick
column_character line = refl

pub column_whole : (e : Refusal) (line : List ℕ) → (e ≡ NotARecord → ⊥) → 1 ≡ fault_column (Line e) line
unfolding fault_column pick
column_whole e line n = rw (ne_eqb (number_of e) 2 (λ z. n (number_of_unique e NotARecord z)))

pub column_low : (w : RefusedWord) (line : List ℕ) → 10 + 4 * w.word ≡ fault_column (Word w) line
unfolding fault_column word_column
column_low w line = refl

-- ---- the column of a number

module _ (number : ℕ) (line : List ℕ) (word : ℕ) where
  pub at_character : number ≡ 2 → column_of number line word ≡ bad_column line
  unfolding column_of pick
  at_character e = rw e

  pub at_word : 7 ≤ number → number ≤ 9 → column_of number line word ≡ word_column word
  unfolding column_of pick
  at_word l m = rw (ne_eqb number 0 (λ z. omega arith), ne_eqb number 2 (λ z. omega arith), le-leb 7 number l, le-leb number 9 m)

  module _ (n : number ≡ 0 → ⊥) (t : number ≡ 2 → ⊥) where
    at_line : number < 7 → column_of number line word ≡ 1
    unfolding column_of pick
    at_line h = rw (ne_eqb number 0 n, ne_eqb number 2 t, lt-leb 7 number h)

    at_line_11 : 9 < number → column_of number line word ≡ 1
    unfolding column_of pick
    at_line_11 h = rw (ne_eqb number 0 n, ne_eqb number 2 t, le-leb 7 number (omega arith), lt-leb number 9 h)

-- the column of a refusal that has no word
pub of_line : (e : Refusal) (line : List ℕ) (word : ℕ) → (number_of e ≡ 0 → ⊥) → (number_of e < 7) ⊎ (9 < number_of e) → fault_column (Line e) line ≡ column_of (number_of e) line word
unfolding fault_column pick
of_line e line word n h = by (ℕ_discrete (number_of e) 2)
  where
    by : Dec (number_of e ≡ 2) → pick (eqb (number_of e) 2) (bad_column line) 1 ≡ column_of (number_of e) line word
    by (yes t) = rw (eq-eqb (number_of e) 2 t) (sym (at_character (number_of e) line word t))
    by (no t) = rw (ne_eqb (number_of e) 2 t) (⊎_elim (λ l. sym (at_line (number_of e) line word n t l)) (λ l. sym (at_line_11 (number_of e) line word n t l)) h)

-- and of one that has
pub of_word : (w : RefusedWord) (line : List ℕ) → 7 ≤ number_of w.refusal → number_of w.refusal ≤ 9 → fault_column (Word w) line ≡ column_of (number_of w.refusal) line w.word
unfolding fault_column
of_word w line l m = sym (at_word (number_of w.refusal) line w.word l m)
