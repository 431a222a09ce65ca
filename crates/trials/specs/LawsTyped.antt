-- Laws of a printed stream: a line that is a step, and the lines one after another.
use Prim.Native.Nat.{ℕ, suc, ◌+◌, ◌-◌, ◌*◌, ◌≤◌, ◌<◌}
use Rattle.std.proofs.Common.{ap, ◌∙◌, append_assoc, length-append, length-drop, drop-drop, length-take-le, drop_of_length-le, take_all}
use Rattle.std.proofs.Math.Nat.{zero-add}
use native.Mathlib.Omega.{arith}
use Rattle.std.proofs.Math.Decide.{dec_lt}
use Rattle.std.specs.Prelude.{◌≡◌, min, Option, Some, None, Bool, true, false, ◌&&◌, List, [], ◌∷◌, ◌++◌, leb, take, drop}
use Rattle.std.proofs.Math.Path.{refl, sym}
use Rattle.std.proofs.Math.Dec.{eqb}
use Rattle.std.proofs.Math.ListN.{length}
use Rattle.std.proofs.lemmas.List.{nil_from_length}
use Rattle.std.proofs.lemmas.List.Edits.{sets, sets-eq}
use Rattle.std.proofs.Math.Seq.{length-sets, take-append_seam}
use borrow.Rule.Slice.PartMut.{put_mid}
use borrow.Author.Tests.{le-leb, lt-leb, ne_eqb, eqb-true}
use Rattle.marks.specs.Marks.{index_of, slice}
use Rattle.words.specs.Choice.{pick}
use Rattle.numerals.specs.Text.{lf, split}
use Rattle.words.specs.LawsChoice.{first_fails, second_fails, first_holds}
use Rattle.numerals.specs.LawsText.{part, part_found, part_last, some_piece}
use Rattle.words.specs.LawsLists.{sets_append}
use Rattle.trials.specs.Trial.{most_steps, is_step, typed_bytes, bad_from, bytes_in, bad_line, stream_of}

-- ---- a line

-- the bytes of one that is a step
abbrev pub step_told : (line : List ℕ) → Option (List ℕ)
step_told line = pick (is_step line) (Some (typed_bytes line)) None

pub step_yes : (line bytes : List ℕ) → Some bytes ≡ step_told line → (is_step line ≡ true) × (bytes ≡ typed_bytes line)
step_yes line bytes = by (is_step line)
  where
    by : (b : Bool) → Some bytes ≡ pick b (Some (typed_bytes line)) None → (b ≡ true) × (bytes ≡ typed_bytes line)
    by true e = unfold pick in (refl, cc)
    by false e = absurd (unfold pick in cc)

pub step_no : (line : List ℕ) → None ≡ step_told line → is_step line ≡ false
step_no line = by (is_step line)
  where
    by : (b : Bool) → None ≡ pick b (Some (typed_bytes line)) None → b ≡ false
    by true e = absurd (unfold pick in cc)
    by false e = refl

step_long : (line : List ℕ) → is_step line ≡ true → length line ≡ 7
unfolding is_step
step_long line e = eqb-true (length line) 7 (first_holds (eqb (length line) 7) _ e)

-- ---- the lines

module _ (line : List ℕ) (rest : List (List ℕ)) where
  bad_on : (k : ℕ) → is_step line ≡ true → k ≤ most_steps → bad_from k (line ∷ rest) ≡ bad_from (k + 1) rest
  unfolding bad_from pick
  bad_on k e h =
      let some : length line ≡ 0 → ⊥ = λ z. let s : length line ≡ 7 = step_long line e in omega arith in
      rw (ne_eqb (length line) 0 some, e, le-leb k most_steps h)

  bad_stop : (k : ℕ) → (eqb (length line) 0 && eqb (length rest) 0) ≡ false → (is_step line && leb k most_steps) ≡ false → bad_from k (line ∷ rest) ≡ k
  unfolding bad_from pick
  bad_stop k some e = rw (some, e)

  bytes_on : is_step line ≡ true → bytes_in (line ∷ rest) ≡ typed_bytes line ++ bytes_in rest
  unfolding bytes_in pick
  bytes_on e = rw e

-- nothing after the last LF
bad_nothing : (k : ℕ) → bad_from k ([] ∷ []) ≡ 0
unfolding bad_from pick
bad_nothing k = refl

bad_none : (k : ℕ) → bad_from k [] ≡ 0
unfolding bad_from
bad_none k = refl

bytes_nothing : bytes_in ([] ∷ []) ≡ []
unfolding bytes_in is_step pick
bytes_nothing = refl

bytes_none : bytes_in [] ≡ []
unfolding bytes_in
bytes_none = refl

split_nothing : split lf [] ≡ [] ∷ []
unfolding split
split_nothing = refl

-- a line of the text, and those after it
pub record Next (text line after : List ℕ) : Type 0 where
  rest : List (List ℕ)
  parts : split lf text ≡ line ∷ rest
  bad : (k : ℕ) → bad_from k rest ≡ bad_from k (split lf after)
  bytes : bytes_in rest ≡ bytes_in (split lf after)
  some : (eqb (length line) 0 && eqb (length rest) 0) ≡ false

module _ (text : List ℕ) (stop : ℕ) (e : stop ≡ 0 + index_of lf (slice 0 (length text) text)) (some : 0 < length text) where
  all : stop - 0 ≡ stop
  all = omega arith

  next_found : stop < length text → Next text (take stop text) (drop (min (length text) (stop + 1)) text)
  next_found h =
      let same : min (length text) (stop + 1) ≡ stop + 1 = omega arith in
      record {
        rest = split lf (drop (stop + 1) text);
        parts = unfold part in part_found lf text 0 stop e (omega arith) h ∙ ap (λ n. take n text ∷ split lf (drop (stop + 1) text)) all;
        bad = λ k. ap (λ n. bad_from k (split lf (drop n text))) (sym same);
        bytes = ap (λ n. bytes_in (split lf (drop n text))) (sym same);
        some = second_fails (eqb (length (take stop text)) 0) _
            (some_piece lf (drop (stop + 1) text) (λ ls. eqb (length ls) 0 ≡ false) (λ p ps. ne_eqb (suc (length ps)) 0 (λ z. omega arith)));
      }

  next_last : length text ≤ stop → Next text (take stop text) (drop (min (length text) (stop + 1)) text)
  next_last h =
      record {
        rest = [];
        parts = part_last lf text 0 stop e (omega arith) h ∙ ap (λ l. l ∷ []) (sym whole);
        bad = λ k. bad_none k ∙ (sym (bad_nothing k) ∙ ap (bad_from k) (sym after));
        bytes = bytes_none ∙ (sym bytes_nothing ∙ ap bytes_in (sym after));
        some = first_fails (eqb (length (take stop text)) 0) _ (ne_eqb (length (take stop text)) 0 long);
      }
    where
      whole : take stop text ≡ text
      whole = take_all stop text h

      after : split lf (drop (min (length text) (stop + 1)) text) ≡ [] ∷ []
      after = ap (split lf) (drop_of_length-le text (omega arith)) ∙ split_nothing

      long : length (take stop text) ≡ 0 → ⊥
      long z = let n : length text ≡ 0 = sym (ap length whole) ∙ z in omega arith

  next_either : Next text (take stop text) (drop (min (length text) (stop + 1)) text)
  next_either = by (dec_lt stop (length text))
    where
      by : Dec (stop < length text) → Next text (take stop text) (drop (min (length text) (stop + 1)) text)
      by (yes h) = next_found h
      by (no h) = next_last (omega arith)

  pub next : (from : ℕ) → from ≡ min (length text) (stop + 1) → Next text (take stop text) (take (length text - from) (drop from text))
  next from f = rw (take_all (length text - from) (drop from text) (rw length-drop (omega arith)), f) next_either

  -- what is ahead gets shorter
  pub next_shorter : (from : ℕ) → from ≡ min (length text) (stop + 1) → length (take (length text - from) (drop from text)) < length text
  next_shorter from f = rw (length-take-le (length text - from) (drop from text) (rw length-drop (omega arith))) (omega arith)

-- ---- the loop over the lines

-- a part that was written over
put_sets : (a k : ℕ) (xs ys : List ℕ) → length ys ≡ k → a + k ≤ length xs → put_mid a k xs ys ≡ sets xs a ys
put_sets a k xs ys e h = rw (← e, drop-drop) (sym (sets-eq ys xs a (omega arith) ∙ append_assoc (take a xs) ys (drop (a + length ys) xs)))

-- so many steps are stored, and this text is ahead
pub record Typing (text stream₀ ahead : List ℕ) (steps : ℕ) (stream : List ℕ) : Type 0 where
  pub few : steps ≤ 32768
  pub kept : length stream ≡ length stream₀
  pub bad : bad_from (steps + 1) (split lf ahead) ≡ bad_line text
  pub bytes : sets stream (3 * steps) (bytes_in (split lf ahead)) ≡ sets stream₀ 0 (stream_of text)
  pub count : 3 * steps + length (bytes_in (split lf ahead)) ≡ length (stream_of text)

-- every line is a step, and their bytes are stored
pub record Stored (text stream₀ : List ℕ) (steps : ℕ) (stream : List ℕ) : Type 0 where
  pub good : bad_line text ≡ 0
  pub few : steps ≤ 32768
  pub count : 3 * steps ≡ length (stream_of text)
  pub bytes : stream ≡ sets stream₀ 0 (stream_of text)

-- the first line that is no step or one too many
pub record BadLine (text : List ℕ) (line : ℕ) : Type 0 where
  pub line_is : line ≡ bad_line text
  pub some : 0 < line

module _ (text stream₀ : List ℕ) where
  pub typing_all : Typing text stream₀ text 0 stream₀
  unfolding bad_line stream_of
  typing_all = record { few = omega arith; kept = refl; bad = refl; bytes = refl; count = zero-add _ }

  module _ (ahead : List ℕ) (steps : ℕ) (stream : List ℕ) (t : Typing text stream₀ ahead steps stream) where
    module _ (line after : List ℕ) (next : Next ahead line after) where
      stopped : (is_step line && leb (steps + 1) most_steps) ≡ false → BadLine text (steps + 1)
      stopped f =
          record {
            line_is = sym (bad_stop line next.rest (steps + 1) next.some f) ∙ (ap (bad_from (steps + 1)) (sym next.parts) ∙ t.bad);
            some = omega arith;
          }

      pub typing_many : 32768 ≤ steps → BadLine text (steps + 1)
      typing_many h = stopped (second_fails (is_step line) _ (lt-leb (steps + 1) most_steps (omega arith)))

      pub typing_stop : None ≡ step_told line → BadLine text (steps + 1)
      typing_stop e = stopped (first_fails (is_step line) _ (step_no line e))

      step_on : steps < 32768 → is_step line ≡ true
          → (stream' : List ℕ) → stream' ≡ sets stream (3 * steps) (typed_bytes line) → Typing text stream₀ after (steps + 1) stream'
      step_on h y stream' w =
          record {
            few = omega arith;
            kept = ap length w ∙ (length-sets stream (3 * steps) (typed_bytes line) ∙ t.kept);
            bad = sym (next.bad (steps + 1 + 1)) ∙ (sym (bad_on line next.rest (steps + 1) y (omega arith)) ∙ (ap (bad_from (steps + 1)) (sym next.parts) ∙ t.bad));
            bytes = stored;
            count = counted;
          }
        where
          these : bytes_in (split lf ahead) ≡ typed_bytes line ++ bytes_in (split lf after)
          these = ap bytes_in next.parts ∙ (bytes_on line next.rest y ∙ ap (λ l. typed_bytes line ++ l) next.bytes)

          three : length (typed_bytes line) ≡ 3
          three = unfold typed_bytes in refl

          stored : sets stream' (3 * (steps + 1)) (bytes_in (split lf after)) ≡ sets stream₀ 0 (stream_of text)
          stored =
              let place : 3 * (steps + 1) ≡ 3 * steps + length (typed_bytes line) = rw three (omega arith) in
              rw (w, place) (sets_append stream (3 * steps) (typed_bytes line) (bytes_in (split lf after)))
              ∙ (ap (sets stream (3 * steps)) (sym these) ∙ t.bytes)

          counted : 3 * (steps + 1) + length (bytes_in (split lf after)) ≡ length (stream_of text)
          counted =
              let whole : length (bytes_in (split lf ahead)) ≡ 3 + length (bytes_in (split lf after)) =
              ap length these ∙ (length-append (typed_bytes line) _ ∙ ap (λ n. n + length (bytes_in (split lf after))) three) in
              let before : 3 * steps + length (bytes_in (split lf ahead)) ≡ length (stream_of text) = t.count in
              omega arith

      pub typing_on : steps < 32768 → (bytes : List ℕ) → Some bytes ≡ step_told line → length stream₀ ≡ 98304 → (k : ℕ) → k ≡ 3 → (put : List ℕ) → put ≡ bytes
          → Typing text stream₀ after (steps + 1) (put_mid (3 * steps) k stream put)
      typing_on h bytes e room k three put w =
          let (y, is) = step_yes line bytes e in
          let same : put ≡ typed_bytes line = w ∙ is in
          let long : length (typed_bytes line) ≡ 3 = unfold typed_bytes in refl in
          step_on h y _ (put_sets (3 * steps) k stream put (ap length same ∙ (long ∙ sym three)) (omega (arith, t.kept)) ∙ ap (sets stream (3 * steps)) same)

    pub typing_end : length ahead ≡ 0 → Stored text stream₀ steps stream
    typing_end h =
        record {
          good = sym (sym (ap (bad_from (steps + 1)) nothing ∙ bad_nothing (steps + 1)) ∙ t.bad);
          few = t.few;
          count = counted;
          bytes = sym (ap (sets stream (3 * steps)) none) ∙ t.bytes;
        }
      where
        nothing : split lf ahead ≡ [] ∷ []
        nothing = ap (split lf) (nil_from_length ahead h) ∙ split_nothing

        none : bytes_in (split lf ahead) ≡ []
        none = ap bytes_in nothing ∙ bytes_nothing

        counted : 3 * steps ≡ length (stream_of text)
        counted =
            let z : length (bytes_in (split lf ahead)) ≡ 0 = ap length none in
            let before : 3 * steps + length (bytes_in (split lf ahead)) ≡ length (stream_of text) = t.count in
            omega arith

-- ---- a text stored at the front

pub front_is : (l vs : List ℕ) (n : ℕ) → n ≡ length vs → n ≤ length l → take n (sets l 0 vs) ≡ vs
front_is l vs n e h = ap (take n) (sets-eq vs l 0 (omega arith)) ∙ (rw e (take-append_seam vs _))
