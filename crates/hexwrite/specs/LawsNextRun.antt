-- Laws of the next run: the entries before it have no text, and its records come first.
use Rattle.std.specs.Prelude.{ℕ, zero, suc, ◌+◌, ◌-◌, ◌/◌, ◌≤◌, ◌<◌, ◌≡◌, refl, true, false, not, List, [], ◌++◌, Option, Some, None, length, get_or, take, drop}
use Rattle.std.specs.List.{position, position_or_len}
use Rattle.std.proofs.Common.{arith, sym, ◌∙◌, length-drop, length-take-le}
use Rattle.std.proofs.Math.Decide.{dec_lt}
use Rattle.std.proofs.lemmas.List.{get_or-take, get_or-drop}
use Rattle.std.proofs.lemmas.List.Quantifiers.{position-Some}
use Rattle.std.proofs.lemmas.List.Sums.{prefix_len_passes}
use borrow.Author.Tests.{lt-ltb}
use Rattle.words.specs.LawsTests.{not_holds}
use Rattle.words.specs.Word.{not_given}
use Rattle.hexwrite.specs.Writer.{record_text, text_from}
use Rattle.hexwrite.specs.LawsWrite.{Addressed, upper_text}
use Rattle.hexwrite.specs.LawsWriteRun.{run_bytes, run_none, run_told, after_some, upper_read}
use Rattle.hexwrite.specs.LawsWriteStop.{RunTo, given, is_given, not_one, text_end, text_skip}
use Rattle.hexwrite.specs.declared.run.Run.{Run}

-- the run comes first in what is left from entry i on
pub record RunFrom (words : ℕ) (image : List ℕ) (i : ℕ) (r : Run) : Type 0 where
  pub later : i < r.stop
  pub inside : r.stop ≤ length image
  pub text : (upper : ℕ) → text_from words image (length image - i) upper i i
      ≡ (upper_text upper (r.address.0 / 65536) ++ record_text (run_bytes r.address.0 r.words.now)) ++ text_from words image (length image - r.stop) (r.address.0 / 65536) r.stop r.stop

-- the next run, or nothing is left to write
abbrev pub NextRun : (words : ℕ) → List ℕ → (i : ℕ) → Option Run → Type 0
NextRun words image i None = (upper : ℕ) → text_from words image (length image - i) upper i i ≡ []
NextRun words image i (Some r) = RunFrom words image i r

module _ (words : ℕ) (image : List ℕ) (i : ℕ) where
  -- n entries that are not given have no text
  passed : (n : ℕ) → i + n ≤ length image → ((k : ℕ) → k < n → get_or image (i + k) 0 ≡ not_given)
      → (upper : ℕ) → text_from words image (length image - i) upper i i ≡ text_from words image (length image - (i + n)) upper (i + n) (i + n)
  passed zero h e upper = let z : i + 0 ≡ i = omega arith in rw z
  passed (suc n) h e upper =
      let z : i + suc n ≡ i + n + 1 = omega arith in
      passed n (omega arith) (λ k l. e k (omega arith)) upper
      ∙ rw z (text_skip words image (length image) upper (i + n) (omega arith) (e n (omega arith)))

  abbrev rest : List ℕ
  rest = take (length image - i) (drop i image)

  size : length rest ≡ length image - i
  size = let d : length (drop i image) ≡ length image - i = length-drop i image in length-take-le (length image - i) (drop i image) (omega arith)

  entry : (k : ℕ) → k < length image - i → get_or rest k 0 ≡ get_or image (i + k) 0
  entry k h = get_or-take (length image - i) (drop i image) k 0 h ∙ get_or-drop i image k 0

  -- no word is left
  pub none_left : i ≤ length image → None ≡ position given rest → (upper : ℕ) → text_from words image (length image - i) upper i i ≡ []
  none_left within e upper = let z : i + (length image - i) ≡ length image = omega arith in
      passed (length image - i) (omega arith) (λ k h. by k h (dec_lt (position_or_len given rest) (length rest))) upper
      ∙ rw z (text_end words image (length image) upper (length image) (length image) (omega arith) ∙ run_none words image upper (length image) (length image) (omega arith))
    where
      by : (k : ℕ) → k < length image - i → Dec (position_or_len given rest < length rest) → get_or image (i + k) 0 ≡ not_given
      by k h (yes q) = let z : None ≡ Some (position_or_len given rest) = rw (lt-ltb (position_or_len given rest) (length rest) q) at e in cc
      by k h (no q) = not_one _ (rw (← entry k h) (not_holds _ (prefix_len_passes (λ w. not (given w)) rest k 0 (omega (arith, size)))))

  module _ (n : ℕ) (e : Some n ≡ position given rest) where
    at : (n < length rest) × (given (get_or rest n 0) ≡ true) × ((k : ℕ) → k < n → given (get_or rest k 0) ≡ false)
    at = position-Some given rest n 0 (sym e)

    pub some_within : i + n < length image
    some_within = let z : n < length rest = at.0 in omega (arith, size)

    pub some_given : get_or image (i + n) 0 ≡ not_given → ⊥
    some_given = is_given _ (rw (← entry n (omega (arith, some_within))) at.1)

    pub run_from : (r : Run) → RunTo image (i + n) r.stop → Addressed words (i + n) r.address → r.words.now ≡ take (r.stop - (i + n)) (drop (i + n) image) → RunFrom words image i r
    run_from r run d cut =
        record {
          later = omega (arith, run.more);
          inside = run.inside;
          text = λ upper.
              passed n (omega (arith, some_within)) (λ k h. not_one _ (rw (← entry k (omega (arith, some_within))) (at.2 k h))) upper
              ∙ (run.text words upper
              ∙ rw (run_told words image upper (i + n) r.stop r.address d run.more run.inside, after_some words image upper (i + n) r.stop run.more, ← (upper_read words (i + n) r.address _ d refl), cut));
        }
