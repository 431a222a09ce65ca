-- Laws of searching a text for the end of a line, bytes passed a few at a time.
use Rattle.std.specs.Prelude.{ℕ, zero, suc, ◌+◌, ◌-◌, ◌*◌, ◌/◌, ◌≤◌, ◌<◌, ◌≡◌, List, [], length, get_or, take, drop, false, eqb}
use Rattle.std.proofs.Common.{arith, add-suc, sym, ap, ◌∙◌, drop-cons, drop-drop, get_or-take, get_or-drop, length-drop, take_all}
use native.Mathlib.Nat.{mul-zero}
use Rattle.std.proofs.Math.Seq.{take-length, length-take-le}
use Rattle.std.specs.Simd.{first_chunks}
use Rattle.marks.specs.Marks.{index_of, index_after, slice}
use Rattle.numerals.specs.Text.{lf}
use Rattle.lines.specs.Lines.{end_of}

-- a line that begins at `from` ends where one that begins at i does
pub record Passing (text : List ℕ) (from i : ℕ) : Type 0 where
  pub within : i ≤ length text
  pub same : end_of text i ≡ end_of text from

module _ (text : List ℕ) where
  -- a byte that is no LF is passed
  stop_past : (j : ℕ) → j < length text → eqb (get_or text j 0) lf ≡ false → end_of text (suc j) ≡ end_of text j
  unfolding end_of index_of index_after
  stop_past j h e = sym (rw (drop-cons text j 0 h, e) (omega arith))

  stops_past : (n i : ℕ) → i + n ≤ length text → ((k : ℕ) → k < n → eqb (get_or text (i + k) 0) lf ≡ false) → end_of text (i + n) ≡ end_of text i
  stops_past zero i h none = ap (end_of text) (omega arith)
  stops_past (suc n) i h none =
      let first : end_of text (i + n) ≡ end_of text i = stops_past n i (omega arith) (λ k p. none k (omega arith)) in
      rw add-suc (stop_past (i + n) (omega arith) (none n (omega arith)) ∙ first)

-- each of the first chunks of a list
chunk_is : (n k j : ℕ) (l : List ℕ) → j < k → get_or (first_chunks n k l) j [] ≡ take n (drop (n * j) l)
chunk_is n zero j l h = absurd (omega arith)
chunk_is n (suc k) zero l h = rw mul-zero
chunk_is n (suc k) (suc j) l h =
    let e : n + n * j ≡ n * suc j = omega arith in
    chunk_is n k j (drop n l) (omega arith) ∙ (rw (drop-drop, e))

module _ (text : List ℕ) (from i : ℕ) (p : Passing text from i) where
  -- eight bytes with no LF among them are passed; `eights`: the text from `from` on, cut into eights
  pub passing_eight : (j : ℕ) (eights : List (List ℕ)) → i ≡ from + 8 * j → j < length eights
      → eights ≡ first_chunks 8 (length (take (length text - from) (drop from text)) / 8) (take (length text - from) (drop from text))
      → length eights ≡ length (take (length text - from) (drop from text)) / 8
      → ((n d : ℕ) → 0 ≤ n → n < length (get_or eights j []) → eqb (get_or (get_or eights j []) n d) lf ≡ false) → Passing text from (i + 8)
  passing_eight j eights e h f long none = record { within = w; same = stops_past text 8 i w each ∙ p.same }
    where
      rest : take (length text - from) (drop from text) ≡ drop from text
      rest = take_all (length text - from) (drop from text) (rw length-drop (omega arith))

      below : j < (length text - from) / 8
      below = rw (long, rest, length-drop) at h

      w : i + 8 ≤ length text
      w = omega (arith, below)

      eight : get_or eights j [] ≡ take 8 (drop i text)
      eight =
          let at : from + 8 * j ≡ i = omega arith in
          rw (f, rest, length-drop) (chunk_is 8 ((length text - from) / 8) j (drop from text) below ∙ rw (drop-drop, at))

      each : (m : ℕ) → m < 8 → eqb (get_or text (i + m) 0) lf ≡ false
      each m q =
          let long : m < length (get_or eights j []) = rw (eight, length-take-le 8 (drop i text) (rw length-drop (omega (arith, w)))) q in
          let same : get_or (take 8 (drop i text)) m 0 ≡ get_or text (i + m) 0 = get_or-take 8 (drop i text) m 0 q ∙ get_or-drop i text m 0 in
          rw (eight, same) at (none m 0 (omega arith) long)

  -- a search for LF from there on ends where the line does
  pub stop_found : (stop : ℕ) → stop ≡ i + index_of lf (slice i (length text) text) → stop ≡ end_of text from
  unfolding end_of slice
  stop_found stop e = e ∙ (rw take-length p.same)
