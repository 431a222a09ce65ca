-- Laws of a printed stream: a step's line, and the lines one after another.
use Rattle.std.specs.Prelude.{ℕ, ◌+◌, ◌*◌, ◌<◌, ◌≡◌, refl, List, [], ◌∷◌, ◌++◌, length, get_or, set}
use Rattle.std.proofs.Common.{zero-add, arith, sym, ap, ◌∙◌, length-append}
use Rattle.std.proofs.lemmas.List.Edits.{sets}
use Rattle.std.proofs.Math.Seq.{length-sets}
use Rattle.numerals.specs.Text.{tab, lf}
use Rattle.numerals.specs.Hex.{byte_text}
use Rattle.numerals.specs.LawsHex.{length_byte_text}
use Rattle.words.specs.LawsLists.{sets_append}
use Rattle.print.specs.Print.{Prints}
use Rattle.listings.specs.Streams.{stream_text}
use Rattle.print.specs.LawsPrint.{Wrote, wrote_then}

-- the most bytes of a stream: three for each of 18,454 steps
abbrev pub most_stream : ℕ
most_stream = 55362

-- the line of a step
unfoldable pub step_text : (code low high : ℕ) → List ℕ
step_text code low high = byte_text code ++ tab ∷ (byte_text high ++ (byte_text low ++ lf ∷ []))

-- ---- one line

pub step_printed : (at code low high : ℕ) (o a b c d e : List ℕ) → a ≡ sets o at (byte_text code) → b ≡ set a (at + 2) tab → c ≡ sets b (at + 3) (byte_text high)
    → d ≡ sets c (at + 5) (byte_text low) → e ≡ set d (at + 7) lf → Wrote at (step_text code low high) o (at + 8) e
unfolding step_text
step_printed at code low high o a b c d e p q r s t =
    wrote_then at o (byte_text code) (tab ∷ (byte_text high ++ (byte_text low ++ lf ∷ []))) (at + 2) (at + 8) a e (record { end = rw length_byte_text; bytes = p })
    (wrote_then (at + 2) a (tab ∷ []) (byte_text high ++ (byte_text low ++ lf ∷ [])) (at + 3) (at + 8) b e (record { end = omega arith; bytes = q })
    (wrote_then (at + 3) b (byte_text high) (byte_text low ++ lf ∷ []) (at + 5) (at + 8) c e (record { end = rw length_byte_text (omega arith); bytes = r })
    (wrote_then (at + 5) c (byte_text low) (lf ∷ []) (at + 7) (at + 8) d e (record { end = rw length_byte_text (omega arith); bytes = s })
    (record { end = omega arith; bytes = t }))))

pub length_step_text : (code low high : ℕ) → length (step_text code low high) ≡ 8
unfolding step_text byte_text
length_step_text code low high = refl

-- ---- the lines one after another

-- a whole step more
stream_more : (step rest : List ℕ) → length step ≡ 3 → stream_text (step ++ rest) ≡ step_text (get_or step 0 0) (get_or step 1 0) (get_or step 2 0) ++ stream_text rest
unfolding stream_text step_text byte_text
stream_more [] rest e = absurd (omega arith)
stream_more (c ∷ []) rest e = absurd (omega arith)
stream_more (c ∷ l ∷ []) rest e = absurd (omega arith)
stream_more (c ∷ l ∷ h ∷ []) rest e = refl
stream_more (c ∷ l ∷ h ∷ x ∷ s) rest e = absurd (omega arith)

-- less than a step is not printed
stream_rest : (s : List ℕ) → length s < 3 → stream_text s ≡ []
unfolding stream_text
stream_rest [] h = refl
stream_rest (a ∷ []) h = refl
stream_rest (a ∷ b ∷ []) h = refl
stream_rest (a ∷ b ∷ c ∷ s) h = absurd (omega arith)

-- where the printing stands: at place `at` of the text, and what is left of the stream
pub record Printing (stream out₀ out : List ℕ) (at : ℕ) (left : List ℕ) : Type 0 where
  pub pace : 3 * at + 8 * length left ≡ 8 * length stream
  pub long : length out ≡ length out₀
  pub rest : sets out₀ 0 (stream_text stream) ≡ sets out at (stream_text left)
  pub count : at + length (stream_text left) ≡ length (stream_text stream)

pub printing_all : (stream out : List ℕ) → Printing stream out out 0 stream
printing_all stream out = record { pace = omega arith; long = refl; rest = refl; count = zero-add (length (stream_text stream)) }

module _ (stream out₀ out : List ℕ) (at : ℕ) (left : List ℕ) (p : Printing stream out₀ out at left) where
  pub printing_step : (step rest : List ℕ) → left ≡ step ++ rest → length step ≡ 3 → (r : ℕ) (out' : List ℕ) → Wrote at (step_text (get_or step 0 0) (get_or step 1 0) (get_or step 2 0)) out r out'
      → Printing stream out₀ out' r rest
  printing_step step rest e three r out' w =
      record {
        pace = let a : 3 * at + 8 * length left ≡ 8 * length stream = p.pace in let b : length left ≡ 3 + length rest = ap length e ∙ (length-append step rest ∙ ap (λ n. n + length rest) three) in omega (arith, ended);
        long = ap length w.bytes ∙ (length-sets out at line ∙ p.long);
        rest = p.rest ∙ (ap (sets out at) more ∙ (sym (sets_append out at line (stream_text rest)) ∙ (rw (w.end, w.bytes))));
        count =
            let a : at + length (stream_text left) ≡ length (stream_text stream) = p.count in
            let b : length (stream_text left) ≡ 8 + length (stream_text rest) = ap length more ∙ (length-append line (stream_text rest) ∙ ap (λ n. n + length (stream_text rest)) eight) in
            omega (arith, ended);
      }
    where
      line : List ℕ
      line = step_text (get_or step 0 0) (get_or step 1 0) (get_or step 2 0)

      more : stream_text left ≡ line ++ stream_text rest
      more = ap stream_text e ∙ stream_more step rest three

      eight : length line ≡ 8
      eight = length_step_text (get_or step 0 0) (get_or step 1 0) (get_or step 2 0)

      ended : r ≡ at + 8
      ended = w.end ∙ ap (λ n. at + n) eight

  pub printing_done : length left < 3 → Prints (stream_text stream) out₀ at out
  printing_done h =
      let none : stream_text left ≡ [] = stream_rest left h in
      record {
        count = let a : at + length (stream_text left) ≡ length (stream_text stream) = p.count in let b : length (stream_text left) ≡ 0 = ap length none in omega arith;
        stored = sym (p.rest ∙ ap (sets out at) none);
      }
