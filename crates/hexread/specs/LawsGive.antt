-- Laws of giving the words of a data record to an image.
use Rattle.std.specs.Prelude.{ℕ, zero, suc, ◌+◌, ◌-◌, ◌*◌, ◌/◌, ◌≤◌, ◌<◌, ◌≡◌, refl, Bool, true, false, Option, Some, None, Result, Ok, Err, List, [], ◌∷◌, length, get_or, set}
use native.Mathlib.Omega.{arith}
use Rattle.std.proofs.Common.{sym, ap, ◌∙◌, length-set}
use borrow.Author.Tests.{eq-eqb, ne_eqb}
use Rattle.refusal.specs.Refusal.{number_of}
use Rattle.refusal.specs.declared.Refusal.TheVariants.{NoSuchWord, WordTooLarge, GivenBefore}
use Rattle.words.specs.Choice.{pick}
use Rattle.words.specs.Word.{not_given}
use Rattle.words.specs.Address.{halved}
use Rattle.words.specs.LawsWord.{is_word_lem, not_word}
use Rattle.device.specs.Memory.{reading_tail, programmable}
use Rattle.device.specs.LawsMemory.{programmable_lt}
use Rattle.hexread.specs.Line.{count_of, offset_of}
use Rattle.hexread.specs.Step.{word_of, byte_address, entry_at, entry_of_word, word_number, Reading, give_words}
use Rattle.hexread.specs.Column.{refused_word}
use Rattle.hexread.specs.LawsDecode.{Sound, sound_count, sound_word}
use Rattle.hexread.specs.declared.fault.RefusedWord.{RefusedWord}

-- where a reading stands, by its four values
abbrev pub reading : Bool → ℕ → List ℕ → ℕ → Reading
reading ended upper image number = record { ended = ended; upper = upper; image = image; number = number }

-- what giving words comes to: where the reading stands, and the first word that is not given
pub record Gave : Type 0 where
  pub after : Reading
  pub word : ℕ

abbrev pub gave : (words upper : ℕ) → List ℕ → (image : List ℕ) → (j n : ℕ) → Gave
gave words upper line image j n = record { after = give_words words upper line image j n; word = refused_word words upper line image j n }

abbrev pub stopped : (upper : ℕ) → (image : List ℕ) → (number word : ℕ) → Gave
stopped upper image number word = record { after = reading false upper image number; word = word }

-- where a list has an entry it reads the same, whatever it reads past its end
pub get_d_default : (l : List ℕ) (i d e : ℕ) → i < length l → get_or l i d ≡ get_or l i e
get_d_default [] i d e h = absurd (omega arith)
get_d_default (x ∷ l) zero d e h = refl
get_d_default (x ∷ l) (suc i) d e h = get_d_default l i d e (omega arith)

-- ---- a word, and where it goes

-- the entry of word j of a record with this offset
abbrev pub entry_by : (words upper offset j : ℕ) → ℕ
entry_by words upper offset j = entry_at words (halved (record { 0 = upper * 65536 + offset + 2 * j }))

pub entry_read : (words upper : ℕ) (line : List ℕ) (offset j : ℕ) → offset ≡ offset_of line → entry_by words upper offset j ≡ entry_of_word words upper line j
unfolding entry_of_word byte_address
entry_read words upper line offset j e = rw e

-- that entry, if a word can be given to it
abbrev pub entry_given : (words upper offset j : ℕ) → Option ℕ
entry_given words upper offset j = pick (programmable words (entry_by words upper offset j)) (Some (entry_by words upper offset j)) None

-- of a line
abbrev pub entry_if : (words upper : ℕ) (line : List ℕ) (j : ℕ) → Option ℕ
entry_if words upper line j = pick (programmable words (entry_of_word words upper line j)) (Some (entry_of_word words upper line j)) None

pub given_read : (words upper : ℕ) (line : List ℕ) (offset j : ℕ) → offset ≡ offset_of line → entry_given words upper offset j ≡ entry_if words upper line j
given_read words upper line offset j e = rw (entry_read words upper line offset j e)

-- it lies within the image
pub given_inside : (words upper offset j i : ℕ) (image : List ℕ) → length image ≡ words + reading_tail → Some i ≡ entry_given words upper offset j → i < length image
given_inside words upper offset j i image long e = rw long (by (programmable words (entry_by words upper offset j)) refl e)
  where
    by : (b : Bool) → b ≡ programmable words (entry_by words upper offset j) → Some i ≡ pick b (Some (entry_by words upper offset j)) None → i < words + reading_tail
    by true t s = unfold pick in let k : i ≡ entry_by words upper offset j = cc in rw k (programmable_lt words (entry_by words upper offset j) (sym t))
    by false t s = unfold pick in cc

module _ (words upper : ℕ) (line : List ℕ) (j : ℕ) where
  told_some : (i : ℕ) → (b : Bool) → Some i ≡ pick b (Some (entry_of_word words upper line j)) None → (b ≡ true) × (i ≡ entry_of_word words upper line j)
  unfolding pick
  told_some i true e = (refl, cc)
  told_some i false e = cc

  told_none : (b : Bool) → None ≡ pick b (Some (entry_of_word words upper line j)) None → b ≡ false
  unfolding pick
  told_none true e = cc
  told_none false e = refl

-- ---- one turn over the words that are left

module _ (words upper : ℕ) (line image : List ℕ) where
  pub give_none : (j n : ℕ) → n ≤ j → gave words upper line image j (n - j) ≡ stopped upper image 0 j
  unfolding give_words refused_word
  give_none j n h = let z : n - j ≡ 0 = omega arith in rw z

  module _ (j n : ℕ) (left : j < n) where
    next : n - j ≡ suc (n - (j + 1))
    next = omega arith

    give_stop : (k : ℕ) → word_number words upper line image j ≡ k → (k ≡ 0 → ⊥) → gave words upper line image j (n - j) ≡ stopped upper image k j
    unfolding give_words refused_word pick
    give_stop k e z = rw (next, e, ne_eqb k 0 z)

    give_on : word_number words upper line image j ≡ 0
        → gave words upper line image j (n - j) ≡ gave words upper line (set image (entry_of_word words upper line j) (word_of line j)) (j + 1) (n - (j + 1))
    give_on e = rw next (unfold give_words refused_word pick in rw e)

    module _ (entry : ℕ) (at : entry ≡ entry_of_word words upper line j) where
      pub turn_7 : programmable words entry ≡ false → gave words upper line image j (n - j) ≡ stopped upper image 7 j
      turn_7 f = give_stop 7 (unfold word_number pick in rw (← at, f)) (λ z. omega arith)

      module _ (can : programmable words entry ≡ true) (word : ℕ) (w : word ≡ word_of line j) where
        pub turn_8 : 0x4000 ≤ word → gave words upper line image j (n - j) ≡ stopped upper image 8 j
        turn_8 h = give_stop 8 (unfold word_number pick in rw (← at, can, ← w, not_word word h)) (λ z. omega arith)

        module _ (low : word < 0x4000) (here : entry < length image) where
          pub turn_9 : (get_or image entry 0 ≡ not_given → ⊥) → gave words upper line image j (n - j) ≡ stopped upper image 9 j
          turn_9 h =
              give_stop 9
              (unfold word_number pick in rw (← at, can, ← w, is_word_lem word low, get_d_default image entry not_given 0 here, ne_eqb (get_or image entry 0) not_given h))
              (λ z. omega arith)

          pub turn_on : get_or image entry 0 ≡ not_given
              → gave words upper line image j (n - j) ≡ gave words upper line (set image entry word) (j + 1) (n - (j + 1))
          turn_on h =
              give_on (unfold word_number pick in rw (← at, can, ← w, is_word_lem word low, get_d_default image entry not_given 0 here, eq-eqb (get_or image entry 0) not_given h))
              ∙ rw (at, w)

-- ---- the loop over a record's words

-- what a function tells of the entries of a record's n words
abbrev pub Answers : (post : ℕ → Option ℕ → Type 0) (words upper : ℕ) → List ℕ → (n : ℕ) → Type 0
Answers post words upper line n = (j : ℕ) (o : Option ℕ) → j < n → post j o → o ≡ entry_if words upper line j

-- what giving comes to
abbrev pub given_told : (upper : ℕ) → (image : List ℕ) → (n : ℕ) → Result (Unit {0}) RefusedWord → Gave
given_told upper image n (Ok _) = stopped upper image 0 n
given_told upper image n (Err w) = stopped upper image (number_of w.refusal) w.word

-- the n words of a record are given, whatever line the bytes are those of
abbrev pub Gives : (post : ℕ → Option ℕ → Type 0) (n : ℕ) (bytes image₀ image : List ℕ) → Result (Unit {0}) RefusedWord → Type 0
Gives post n bytes image₀ image r =
    (words upper : ℕ) (line : List ℕ) → Sound line bytes → n ≡ count_of line / 2 → Answers post words upper line n → given_told upper image n r ≡ gave words upper line image₀ 0 n

-- the same by the record's device, upper half, length and offset
abbrev pub GivesRecord : (words upper count offset : ℕ) (bytes image₀ image : List ℕ) → Result (Unit {0}) RefusedWord → Type 0
GivesRecord words upper count offset bytes image₀ image r =
    (line : List ℕ) → Sound line bytes → count ≡ count_of line → offset ≡ offset_of line → given_told upper image (count / 2) r ≡ gave words upper line image₀ 0 (count_of line / 2)

-- j of n words are given
pub record Giving (post : ℕ → Option ℕ → Type 0) (n : ℕ) (bytes image₀ image : List ℕ) (j : ℕ) : Type 0 where
  pub kept : length image ≡ length image₀
  pub rest : (words upper : ℕ) (line : List ℕ) → Sound line bytes → n ≡ count_of line / 2 → Answers post words upper line n
      → gave words upper line image j (n - j) ≡ gave words upper line image₀ 0 n

module _ (post : ℕ → Option ℕ → Type 0) (n : ℕ) (bytes image₀ : List ℕ) where
  pub giving_none : Giving post n bytes image₀ image₀ 0
  giving_none = let all : n - 0 ≡ n = omega arith in record { kept = refl; rest = λ words upper line s c a. rw all }

  module _ (image : List ℕ) (j : ℕ) (g : Giving post n bytes image₀ image j) where
    pub giving_all : j ≡ n → Gives post n bytes image₀ image (Ok tt)
    giving_all h words upper line s c a = (ap (stopped upper image 0) (sym h) ∙ sym (give_none words upper line image j n (omega arith))) ∙ g.rest words upper line s c a

    module _ (left : j < n) where
      pub giving_7 : post j None → Gives post n bytes image₀ image (Err (record { refusal = NoSuchWord; word = j }))
      giving_7 p words upper line s c a =
          sym (turn_7 words upper line image j n left _ refl (told_none words upper line j _ (a j None left p))) ∙ g.rest words upper line s c a

      module _ (i : ℕ) (p : post j (Some i)) (word : ℕ) (w : word ≡ get_or bytes (4 + 2 * j) 0 + 256 * get_or bytes (5 + 2 * j) 0) where
        module _ (words upper : ℕ) (line : List ℕ) (s : Sound line bytes) (c : n ≡ count_of line / 2) (a : Answers post words upper line n) where
          at : (programmable words (entry_of_word words upper line j) ≡ true) × (i ≡ entry_of_word words upper line j)
          at = told_some words upper line j i _ (a j (Some i) left p)

          can : programmable words i ≡ true
          can = rw at.1 at.0

          is : word ≡ word_of line j
          is = sound_word line bytes s j word (let k : get_or bytes 0 0 ≡ count_of line = sound_count line bytes s in rw k (rw c at left)) w

        pub giving_8 : 0x4000 ≤ word → Gives post n bytes image₀ image (Err (record { refusal = WordTooLarge; word = j }))
        giving_8 h words upper line s c a =
            sym (turn_8 words upper line image j n left i (at words upper line s c a).1 (can words upper line s c a) word (is words upper line s c a) h) ∙ g.rest words upper line s c a

        module _ (low : word < 0x4000) (here : i < length image) where
          pub giving_9 : (get_or image i 0 ≡ not_given → ⊥) → Gives post n bytes image₀ image (Err (record { refusal = GivenBefore; word = j }))
          giving_9 h words upper line s c a =
              sym (turn_9 words upper line image j n left i (at words upper line s c a).1 (can words upper line s c a) word (is words upper line s c a) low here h) ∙ g.rest words upper line s c a

          pub giving_on : get_or image i 0 ≡ not_given → Giving post n bytes image₀ (set image i word) (j + 1)
          giving_on h =
              record {
                kept = length-set image i word ∙ g.kept;
                rest = λ words upper line s c a.
                    sym (turn_on words upper line image j n left i (at words upper line s c a).1 (can words upper line s c a) word (is words upper line s c a) low here h) ∙ g.rest words upper line s c a;
              }
