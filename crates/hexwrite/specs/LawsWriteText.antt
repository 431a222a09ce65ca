-- Laws of the whole text's length, and of its count.
use Prim.Native.Nat.{ℕ, zero, suc, ◌+◌, ◌-◌, ◌*◌, ◌/◌, ◌%◌, ◌≤◌, ◌<◌}
use native.Mathlib.Omega.{arith}
use Rattle.std.proofs.Math.Decide.{dec_lt, ℕ_discrete}
use Rattle.std.specs.Prelude.{◌≡◌, List, [], ◌++◌, ltb, eqb}
use Rattle.std.proofs.Math.Path.{refl}
use Rattle.std.proofs.Common.{sym, ap, ◌∙◌}
use Rattle.std.proofs.Math.ListN.{length, length-append}
use borrow.Author.Tests.{lt-ltb, le-ltb, eq-eqb, ne_eqb}
use Rattle.words.specs.Choice.{pick}
use Rattle.device.specs.Record.{most_words}
use Rattle.device.specs.Memory.{reading_tail}
use Rattle.hexwrite.specs.Writer.{record_text, upper_of, data_bytes, end_bytes, run_text, upper_after, run_end, next_start, text_from, hex_text}
use Rattle.hexwrite.specs.LawsWrite.{upper_text, text_limit, length_record}
use Rattle.hexwrite.specs.LawsWriteRun.{Seen, seen, gap, full, goes, run_some, run_none, after_some, after_none, upper_same, length_new, upper_most, upper_rises, length_data, run_bytes, length_run_record}
use Rattle.hexwrite.specs.LawsNextRun.{RunFrom}
use Rattle.hexwrite.specs.declared.run.Run.{Run}

-- ---- the text's length

-- what the run that is held back may still take: a record's digits, or where no word is held, what a word alone in its
-- block takes beyond 14 bytes for each entry
unfoldable pub held_back : (s i : ℕ) → ℕ
held_back s i = pick (ltb s i) (12 + 4 * (i - s)) (pick (eqb (i % 8) 0) 2 4)

module _ (s i : ℕ) where
  held_some : s < i → held_back s i ≡ 12 + 4 * (i - s)
  unfolding held_back pick
  held_some h = rw (lt-ltb s i h)

  held_block : i ≤ s → i % 8 ≡ 0 → held_back s i ≡ 2
  unfolding held_back pick
  held_block h e = rw (le-ltb s i h, eq-eqb (i % 8) 0 e)

  held_inside : i ≤ s → (i % 8 ≡ 0 → ⊥) → held_back s i ≡ 4
  unfolding held_back pick
  held_inside h n = rw (le-ltb s i h, ne_eqb (i % 8) 0 n)

  held_most : i ≤ s → held_back s i ≤ 4
  held_most h = by (ℕ_discrete (i % 8) 0)
    where
      by : Dec (i % 8 ≡ 0) → held_back s i ≤ 4
      by (yes e) = rw (held_block h e) (omega arith)
      by (no n) = rw (held_inside h n) (omega arith)

  held_least : 2 ≤ held_back s i
  held_least = by (dec_lt s i) (ℕ_discrete (i % 8) 0)
    where
      by : Dec (s < i) → Dec (i % 8 ≡ 0) → 2 ≤ held_back s i
      by (yes h) q = rw (held_some h) (omega arith)
      by (no h) (yes e) = rw (held_block (omega arith) e) (omega arith)
      by (no h) (no n) = rw (held_inside (omega arith) n) (omega arith)

length_upper : (upper next : ℕ) → upper ≤ next → next ≤ 1 → length (upper_text upper next) + 16 * (1 - next) ≤ 16 * (1 - upper)
length_upper upper next p q = by (ℕ_discrete next upper)
  where
    by : Dec (next ≡ upper) → length (upper_text upper next) + 16 * (1 - next) ≤ 16 * (1 - upper)
    by (yes e) = rw (upper_same upper next e) (omega arith)
    by (no n) =
        let l : length (upper_text upper next) ≡ 16 = length_new upper next n in
        let less : upper < next = lib.Arith.lt_of_le-ne p (λ e. n (sym e)) in
        omega arith

pub length_run : (words : ℕ) (image : List ℕ) (upper s e : ℕ) → s < e → length (run_text words image upper s e) ≡ length (upper_text upper (upper_of words s)) + (12 + 4 * (e - s))
length_run words image upper s e h =
    let d : length (record_text (data_bytes words image s e)) ≡ 2 * length (data_bytes words image s e) + 4 = length_record (data_bytes words image s e) in
    let n : length (data_bytes words image s e) ≡ 4 + 2 * (e - s) = length_data words image s e in
    let all : length (upper_text upper (upper_of words s) ++ record_text (data_bytes words image s e)) ≡ length (upper_text upper (upper_of words s)) + length
    (record_text (data_bytes words image s e)) = length-append (upper_text upper (upper_of words s)) (record_text (data_bytes words image s e)) in
    rw (run_some words image upper s e h) (omega arith)

-- what a run and the upper half take
run_cost : (words : ℕ) (image : List ℕ) (upper s e : ℕ) → s < e → upper ≤ upper_of words s → upper_of words s ≤ 1
    → length (run_text words image upper s e) + 16 * (1 - upper_of words s) ≤ 12 + 4 * (e - s) + 16 * (1 - upper)
run_cost words image upper s e h p q =
    let r : length (run_text words image upper s e) ≡ length (upper_text upper (upper_of words s)) + (12 + 4 * (e - s)) = length_run words image upper s e h in
    let u : length (upper_text upper (upper_of words s)) + 16 * (1 - upper_of words s) ≤ 16 * (1 - upper) = length_upper upper (upper_of words s) p q in
    omega arith

-- the records of all runs, and the end record
pub length_text : (words : ℕ) (image : List ℕ) → length (hex_text words image) ≡ 12 + length (text_from words image (words + reading_tail) 0 0 0)
unfolding hex_text end_bytes
length_text words image =
    let r : length (record_text end_bytes) ≡ 12 = length_record end_bytes in
    let joined : length (text_from words image (words + reading_tail) 0 0 0 ++ record_text end_bytes) ≡ length (text_from words image (words + reading_tail) 0 0 0) + length
    (record_text end_bytes) = length-append (text_from words image (words + reading_tail) 0 0 0) (record_text end_bytes) in
    omega arith

module _ (words : ℕ) (image : List ℕ) (m : words ≤ most_words) where
  abbrev Bound : (n upper s i : ℕ) → Type 0
  Bound n upper s i = length (text_from words image n upper s i) ≤ 14 * n + held_back s i + 16 * (1 - upper)

  module _ (upper s e : ℕ) (p : upper ≤ upper_of words s) (far : s ≤ words + reading_tail) where
    run_length : s < e → length (run_text words image upper s e) + 16 * (1 - upper_after words upper s e) ≤ 12 + 4 * (e - s) + 16 * (1 - upper)
    run_length h = rw (after_some words image upper s e h) (run_cost words image upper s e h p (upper_most words s m far))

    after_least : (t : ℕ) → s ≤ t → t ≤ words + reading_tail → upper_after words upper s e ≤ upper_of words t
    after_least t q r = by (dec_lt s e)
      where
        rises : upper_of words s ≤ upper_of words t
        rises = upper_rises words s t m q r

        by : Dec (s < e) → upper_after words upper s e ≤ upper_of words t
        by (yes h) = rw (after_some words image upper s e h) rises
        by (no h) = rw (after_none words image upper s e (omega arith)) (omega (arith, rises))

  last_bound : (upper s i : ℕ) → upper ≤ upper_of words s → s ≤ words + reading_tail → Dec (s < i) → length (run_text words image upper s i) ≤ held_back s i + 16 * (1 - upper)
  last_bound upper s i p far (yes h) =
      let r : length (run_text words image upper s i) + 16 * (1 - upper_after words upper s i) ≤ 12 + 4 * (i - s) + 16 * (1 - upper) = run_length upper s i p far h in
      rw (held_some s i h) (omega arith)
  last_bound upper s i p far (no h) = rw (run_none words image upper s i (omega arith)) (omega arith)

  -- one entry: what its run takes and what is held after it is at most 14 bytes more than what was held before
  step_bound : (upper s i : ℕ) → s ≤ i → i < words + reading_tail → upper ≤ upper_of words s → (e t : ℕ) → Seen image s i → run_end image s i ≡ e → next_start image s i ≡ t → Dec (s < i)
      → length (run_text words image upper s e) + (held_back t (i + 1) + 16 * (1 - upper_after words upper s e)) ≤ 14 + held_back s i + 16 * (1 - upper)
  step_bound upper s i low far p e t (gap g x y) a b (yes h) =
      let ei : e ≡ i = sym a ∙ x in
      let ti : t ≡ i + 1 = sym b ∙ y in
      let k : held_back (i + 1) (i + 1) ≤ 4 = held_most (i + 1) (i + 1) (omega arith) in
      let r : length (run_text words image upper s i) + 16 * (1 - upper_after words upper s i) ≤ 12 + 4 * (i - s) + 16 * (1 - upper) = run_length upper s i p (omega arith) h in
      rw (ei, ti, held_some s i h) (omega arith)
  step_bound upper s i low far p e t (gap g x y) a b (no h) =
      let ei : e ≡ i = sym a ∙ x in
      let ti : t ≡ i + 1 = sym b ∙ y in
      let k : held_back (i + 1) (i + 1) ≤ 4 = held_most (i + 1) (i + 1) (omega arith) in
      rw (ei, ti, after_none words image upper s i (omega arith), run_none words image upper s i (omega arith)) (omega arith)
  step_bound upper s i low far p e t (full g z x y) a b (yes h) =
      let ei : e ≡ i + 1 = sym a ∙ x in
      let ti : t ≡ i + 1 = sym b ∙ y in
      let r : length (run_text words image upper s (i + 1)) + 16 * (1 - upper_after words upper s (i + 1)) ≤ 12 + 4 * (i + 1 - s) + 16 * (1 - upper) = run_length upper s
      (i + 1) p (omega arith) (omega arith) in
      rw (ei, ti, held_some s i h, held_block (i + 1) (i + 1) (omega arith) z) (omega arith)
  step_bound upper s i low far p e t (full g z x y) a b (no h) =
      let ei : e ≡ i + 1 = sym a ∙ x in
      let ti : t ≡ i + 1 = sym b ∙ y in
      let r : length (run_text words image upper s (i + 1)) + 16 * (1 - upper_after words upper s (i + 1)) ≤ 12 + 4 * (i + 1 - s) + 16 * (1 - upper) = run_length upper s
      (i + 1) p (omega arith) (omega arith) in
      rw (ei, ti, held_inside s i (omega arith) (λ q. omega arith), held_block (i + 1) (i + 1) (omega arith) z) (omega arith)
  step_bound upper s i low far p e t (goes g z x y) a b (yes h) =
      let ei : e ≡ s = sym a ∙ x in
      let ti : t ≡ s = sym b ∙ y in
      rw (ei, ti, after_none words image upper s s (omega arith), run_none words image upper s s (omega arith), held_some s i h, held_some s (i + 1) (omega arith)) (omega arith)
  step_bound upper s i low far p e t (goes g z x y) a b (no h) =
      let ei : e ≡ s = sym a ∙ x in
      let ti : t ≡ s = sym b ∙ y in
      let k : 2 ≤ held_back s i = held_least s i in
      rw (ei, ti, after_none words image upper s s (omega arith), run_none words image upper s s (omega arith), held_some s (i + 1) (omega arith)) (omega arith)

  next_within : (s i : ℕ) → s ≤ i → Seen image s i → (s ≤ next_start image s i) × (next_start image s i ≤ i + 1)
  next_within s i low (gap g x y) = rw y (omega arith, omega arith)
  next_within s i low (full g z x y) = rw y (omega arith, omega arith)
  next_within s i low (goes g z x y) = rw y (omega arith, omega arith)

  text_bound : (n upper s i : ℕ) → i + n ≡ words + reading_tail → s ≤ i → upper ≤ upper_of words s → Bound n upper s i
  unfolding text_from
  text_bound zero upper s i all low p =
      let b : length (run_text words image upper s i) ≤ held_back s i + 16 * (1 - upper) = last_bound upper s i p (omega arith) (dec_lt s i) in
      omega arith
  text_bound (suc n) upper s i all low p =
      let e : ℕ = run_end image s i in
      let t : ℕ = next_start image s i in
      let u : ℕ = upper_after words upper s e in
      let near : (s ≤ t) × (t ≤ i + 1) = next_within s i low (seen image s i) in
      let rest : Bound n u t (i + 1) = text_bound n u t (i + 1) (omega arith) near.1 (after_least upper s e p (omega arith) t near.0 (omega arith)) in
      let here : length (run_text words image upper s e) + (held_back t (i + 1) + 16 * (1 - u)) ≤ 14 + held_back s i + 16 * (1 - upper) = step_bound upper s i low
      (omega arith) p e t (seen image s i) refl refl (dec_lt s i) in
      let joined : length (run_text words image upper s e ++ text_from words image n u t (i + 1)) ≡ length (run_text words image upper s e) + length
      (text_from words image n u t (i + 1)) = length-append (run_text words image upper s e) (text_from words image n u t (i + 1)) in
      omega arith

  entries_length : length (text_from words image (words + reading_tail) 0 0 0) ≤ 14 * words + 144
  entries_length =
      let b : Bound (words + reading_tail) 0 0 0 = text_bound (words + reading_tail) 0 0 0 (omega arith) (omega arith) (omega arith) in
      let z : held_back 0 0 ≡ 2 = held_block 0 0 (omega arith) refl in
      omega arith

  -- no text is longer than this
  pub text_length : length (hex_text words image) ≤ 14 * words + 156
  text_length =
      let l : length (text_from words image (words + reading_tail) 0 0 0) ≤ 14 * words + 144 = entries_length in
      let all : length (hex_text words image) ≡ 12 + length (text_from words image (words + reading_tail) 0 0 0) = length_text words image in
      omega arith

  pub text_fits : length (hex_text words image) < text_limit
  text_fits = let l : length (hex_text words image) ≤ 14 * words + 156 = text_length in omega arith

-- ---- the count

-- the text before entry i, where no run is held back, and the end record are counted
pub record Counted (words : ℕ) (image : List ℕ) (total upper i : ℕ) : Type 0 where
  pub rest : total + length (text_from words image (length image - i) upper i i) ≡ length (hex_text words image)
  pub fits : length (hex_text words image) < text_limit
  pub high : i ≤ length image

pub counted_first : (words : ℕ) (image : List ℕ) → words ≤ most_words → length image ≡ words + reading_tail → Counted words image 12 0 0
counted_first words image m long =
    let all : length image - 0 ≡ words + reading_tail = omega arith in
    record { rest = rw all (sym (length_text words image)); fits = text_fits words image m; high = omega arith }

-- the length of a run's records
pub length_records : (upper half address : ℕ) (run : List ℕ) → length (upper_text upper half ++ record_text (run_bytes address run)) ≡ length (upper_text upper half) + (12 + 4 * length run)
length_records upper half address run =
    length-append (upper_text upper half) (record_text (run_bytes address run)) ∙ ap (λ n. length (upper_text upper half) + n) (length_run_record address run)

module _ (words : ℕ) (image : List ℕ) (total upper i : ℕ) (c : Counted words image total upper i) where
  pub counted_on : (r : Run) → RunFrom words image i r → (count half : ℕ) → count ≡ length (upper_text upper (r.address.0 / 65536)) + (12 + 4 * length r.words.now)
      → half ≡ r.address.0 / 65536 → Counted words image (total + count) half r.stop
  counted_on r run count half q h =
      let here : List ℕ = upper_text upper (r.address.0 / 65536) ++ record_text (run_bytes r.address.0 r.words.now) in
      let rest : List ℕ = text_from words image (length image - r.stop) (r.address.0 / 65536) r.stop r.stop in
      let joined : length (here ++ rest) ≡ length here + length rest = length-append here rest in
      let part : length here ≡ length (upper_text upper (r.address.0 / 65536)) + (12 + 4 * length r.words.now) = length_records upper (r.address.0 / 65536) r.address.0 r.words.now in
      let old : total + length (here ++ rest) ≡ length (hex_text words image) = rw (run.text upper) at c.rest in
      record { rest = rw h (omega arith); fits = c.fits; high = run.inside }

  pub counted_all : ((u : ℕ) → text_from words image (length image - i) u i i ≡ []) → total ≡ length (hex_text words image)
  counted_all none =
      let z : total + 0 ≡ length (hex_text words image) = rw (none upper) at c.rest in
      omega arith

-- the code's two lengths of a run's records
module _ (upper half count : ℕ) where
  pub run_same : half ≡ upper → 12 + 4 * count ≡ length (upper_text upper half) + (12 + 4 * count)
  run_same e = rw (upper_same upper half e) (omega arith)

  pub run_new : (half ≡ upper → ⊥) → 16 + (12 + 4 * count) ≡ length (upper_text upper half) + (12 + 4 * count)
  run_new n = let l : length (upper_text upper half) ≡ 16 = length_new upper half n in omega arith
