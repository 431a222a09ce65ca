-- Laws of how long the text of a whole image is: 44 bytes for eight program words, the upper half once, the user IDs, each configuration word, the end record.
use Rattle.std.specs.Prelude.{ℕ, zero, suc, ◌+◌, ◌-◌, ◌*◌, ◌/◌, ◌%◌, ◌≤◌, ◌<◌, ◌≡◌, true, List, min, length, get_or}
use Rattle.std.proofs.Common.{add-zero, arith, sym, ap, ◌∙◌, length-append}
use Rattle.std.proofs.Math.Decide.{ℕ_discrete}
use Rattle.words.specs.Word.{not_given}
use Rattle.device.specs.Record.{most_words}
use Rattle.device.specs.Memory.{reading_tail, ids, cp_word, programmable}
use Rattle.device.specs.LawsMemory.{programmable_low, programmable_config}
use Rattle.hexwrite.specs.Writer.{upper_of, run_text, upper_after, text_from, hex_text}
use Rattle.hexwrite.specs.LawsWrite.{upper_text}
use Rattle.hexwrite.specs.LawsWriteRun.{run_none, after_some, upper_same, length_new, upper_most, upper_rises}
use Rattle.hexwrite.specs.LawsWriteStop.{text_end, text_skip, BlockStop, block_ends, Going, going_first, going_on, RunTo, run_gap, run_whole}
use Rattle.hexwrite.specs.LawsWriteText.{length_run, length_text}

-- an upper half is written at most once, since it only rises
upper_cost : (upper next : ℕ) → upper ≤ next → next ≤ 1 → length (upper_text upper next) + 16 * (1 - next) ≤ 16 * (1 - upper)
upper_cost upper next p q = by (ℕ_discrete next upper)
  where
    by : Dec (next ≡ upper) → length (upper_text upper next) + 16 * (1 - next) ≤ 16 * (1 - upper)
    by (yes e) = rw (upper_same upper next e) (omega arith)
    by (no n) =
        let l : length (upper_text upper next) ≡ 16 = length_new upper next n in
        let less : upper < next = lib.Arith.lt_of_le-ne p (λ e. n (sym e)) in
        omega arith

module _ (words : ℕ) (m : words ≤ most_words) (eighths : words % 8 ≡ 0) (image : List ℕ) (long : length image ≡ words + reading_tail)
    (given : (i : ℕ) → programmable words i ≡ true → get_or image i 0 ≡ not_given → ⊥)
    (never : (i : ℕ) → words + ids ≤ i → i < words + cp_word → get_or image i 0 ≡ not_given) where
  -- the text from entry i on, where no run is held back
  abbrev rest : (upper i : ℕ) → List ℕ
  rest upper i = text_from words image (length image - i) upper i i

  -- ---- one run

  -- neighbours that are given
  going : (start stop k : ℕ) → BlockStop start (length image) stop → start + k + 1 ≤ stop
      → ((j : ℕ) → start ≤ j → j < start + k + 1 → get_or image j 0 ≡ not_given → ⊥) → Going image start stop (start + k + 1)
  going start stop zero b h g = rw (add-zero start) (going_first image start stop b (g start (omega arith) (omega arith)))
  going start stop (suc k) b h g =
      let next : start + k + 1 + 1 ≡ start + suc k + 1 = omega arith in
      rw next at
      (going_on image start stop (start + k + 1) b (going start stop k b (omega arith) (λ j p q. g j p (omega arith))) (omega arith) (g (start + k + 1) (omega arith) (omega arith)))

  run_to : (start stop e : ℕ) → start < e → BlockStop start (length image) stop → e ≤ stop → ((j : ℕ) → start ≤ j → j < e → get_or image j 0 ≡ not_given → ⊥) → Going image start stop e
  run_to start stop e h b w g =
      let all : start + (e - start - 1) + 1 ≡ e = omega arith in
      rw all at (going start stop (e - start - 1) b (omega arith) (λ j p q. g j p (omega arith)))

  -- what it takes, and the text after it
  run_cost : (upper start stop : ℕ) → RunTo image start stop → upper ≤ upper_of words start → start ≤ words + reading_tail
      → length (rest upper start) + 16 * (1 - upper_of words start) ≤ 12 + 4 * (stop - start) + 16 * (1 - upper) + length (rest (upper_of words start) stop)
  run_cost upper start stop r p far =
      let joined : length (rest upper start) ≡ length (run_text words image upper start stop) + length (rest (upper_of words start) stop) =
      ap length (r.text words upper)
      ∙ (length-append (run_text words image upper start stop) (rest (upper_after words upper start stop) stop)
      ∙ ap (λ v. length (run_text words image upper start stop) + length (rest v stop)) (after_some words image upper start stop r.more)) in
      let run : length (run_text words image upper start stop) ≡ length (upper_text upper (upper_of words start)) + (12 + 4 * (stop - start)) = length_run words image upper start stop r.more in
      let half : length (upper_text upper (upper_of words start)) + 16 * (1 - upper_of words start) ≤ 16 * (1 - upper) = upper_cost upper (upper_of words start) p (upper_most words start m far) in
      omega arith

  -- ---- configuration space

  at_end : (upper : ℕ) → length (rest upper (words + 9)) ≡ 0
  at_end upper =
      ap length (text_end words image (length image) upper (words + 9) (words + 9) (rw long (omega arith))
      ∙ run_none words image upper (words + 9) (words + 9) (omega arith))

  -- a configuration word, alone in its record
  second : (upper : ℕ) → upper ≤ upper_of words (words + 8) → length (rest upper (words + 8)) ≤ 16 + 16 * (1 - upper)
  second upper p =
      let e : length image ≡ words + 9 = long in
      let stop : min (length image) ((words + 8) / 8 * 8 + 8) ≡ length image = omega (arith, eighths) in
      let b : BlockStop (words + 8) (length image) (length image) = rw stop at (block_ends (words + 8) (length image) (omega arith)) in
      let run : RunTo image (words + 8) (length image) =
      run_whole image (words + 8) (length image) (length image) b
      (run_to (words + 8) (length image) (length image) (omega arith) b (omega arith) (λ j h w. given j (programmable_config words j (omega arith) (omega arith)))) (omega arith) in
      let cost : length (rest upper (words + 8)) + 16 * (1 - upper_of words (words + 8)) ≤ 12 + 4 * (words + 9 - (words + 8)) + 16 * (1 - upper)
      + length (rest (upper_of words (words + 8)) (words + 9)) =
      run_cost upper (words + 8) (words + 9) (rw e at run) p (omega arith) in
      let none : length (rest (upper_of words (words + 8)) (words + 9)) ≡ 0 = at_end (upper_of words (words + 8)) in
      omega arith

  first : (upper : ℕ) → upper ≤ upper_of words (words + 7) → length (rest upper (words + 7)) ≤ 32 + 16 * (1 - upper)
  first upper p =
      let e : length image ≡ words + 9 = long in
      let stop : min (length image) ((words + 7) / 8 * 8 + 8) ≡ words + 8 = omega (arith, eighths) in
      let b : BlockStop (words + 7) (length image) (words + 8) = rw stop at (block_ends (words + 7) (length image) (omega arith)) in
      let run : RunTo image (words + 7) (words + 8) =
      run_whole image (words + 7) (words + 8) (words + 8) b
      (run_to (words + 7) (words + 8) (words + 8) (omega arith) b (omega arith) (λ j h w. given j (programmable_config words j (omega arith) (omega arith)))) (omega arith) in
      let cost : length (rest upper (words + 7)) + 16 * (1 - upper_of words (words + 7)) ≤ 12 + 4 * (words + 8 - (words + 7)) + 16 * (1 - upper)
      + length (rest (upper_of words (words + 7)) (words + 8)) =
      run_cost upper (words + 7) (words + 8) run p (omega arith) in
      let more : length (rest (upper_of words (words + 7)) (words + 8)) ≤ 16 + 16 * (1 - upper_of words (words + 7)) =
      second (upper_of words (words + 7)) (upper_rises words (words + 7) (words + 8) m (omega arith) (omega arith)) in
      omega arith

  -- the three words that are never given have no text
  skips : (upper i : ℕ) → words + ids ≤ i → i < words + cp_word → rest upper i ≡ rest upper (i + 1)
  skips upper i p q = text_skip words image (length image) upper i (rw long (omega arith)) (never i p q)

  skipped : (upper : ℕ) → rest upper (words + 4) ≡ rest upper (words + 7)
  skipped upper =
      let five : words + 4 + 1 ≡ words + 5 = omega arith in
      let six : words + 5 + 1 ≡ words + 6 = omega arith in
      let seven : words + 6 + 1 ≡ words + 7 = omega arith in
      (skips upper (words + 4) (omega arith) (omega arith) ∙ ap (rest upper) five)
      ∙ ((skips upper (words + 5) (omega arith) (omega arith) ∙ ap (rest upper) six)
      ∙ (skips upper (words + 6) (omega arith) (omega arith) ∙ ap (rest upper) seven))

  -- the user IDs are one record
  tail : (upper : ℕ) → upper ≤ upper_of words words → length (rest upper words) ≤ 60 + 16 * (1 - upper)
  tail upper p =
      let e : length image ≡ words + 9 = long in
      let stop : min (length image) (words / 8 * 8 + 8) ≡ words + 8 = omega (arith, eighths) in
      let b : BlockStop words (length image) (words + 8) = rw stop at (block_ends words (length image) (omega arith)) in
      let run : RunTo image words (words + 4) =
      run_gap image words (words + 8) (words + 4) b
      (run_to words (words + 8) (words + 4) (omega arith) b (omega arith) (λ j h w. given j (programmable_low words j w)))
      (omega arith) (never (words + 4) (omega arith) (omega arith)) in
      let cost : length (rest upper words) + 16 * (1 - upper_of words words) ≤ 12 + 4 * (words + 4 - words) + 16 * (1 - upper) + length (rest (upper_of words words) (words + 4)) =
      run_cost upper words (words + 4) run p (omega arith) in
      let same : length (rest (upper_of words words) (words + 4)) ≡ length (rest (upper_of words words) (words + 7)) = ap length (skipped (upper_of words words)) in
      let more : length (rest (upper_of words words) (words + 7)) ≤ 32 + 16 * (1 - upper_of words words) =
      first (upper_of words words) (upper_rises words words (words + 7) m (omega arith) (omega arith)) in
      omega arith

  -- ---- program words, eight a record

  blocks : (k start upper : ℕ) → start + 8 * k ≡ words → upper ≤ upper_of words start → length (rest upper start) ≤ 44 * k + 60 + 16 * (1 - upper)
  blocks zero start upper all p =
      let here : start ≡ words = omega arith in
      let t : length (rest upper words) ≤ 60 + 16 * (1 - upper) = tail upper (rw here at p) in
      rw here (omega arith)
  blocks (suc k) start upper all p =
      let e : length image ≡ words + 9 = long in
      let stop : min (length image) (start / 8 * 8 + 8) ≡ start + 8 = omega (arith, eighths) in
      let b : BlockStop start (length image) (start + 8) = rw stop at (block_ends start (length image) (omega arith)) in
      let run : RunTo image start (start + 8) =
      run_whole image start (start + 8) (start + 8) b
      (run_to start (start + 8) (start + 8) (omega arith) b (omega arith) (λ j h w. given j (programmable_low words j (omega arith)))) (omega arith) in
      let cost : length (rest upper start) + 16 * (1 - upper_of words start) ≤ 12 + 4 * (start + 8 - start) + 16 * (1 - upper) + length (rest (upper_of words start) (start + 8)) =
      run_cost upper start (start + 8) run p (omega arith) in
      let more : length (rest (upper_of words start) (start + 8)) ≤ 44 * k + 60 + 16 * (1 - upper_of words start) =
      blocks k (start + 8) (upper_of words start) (omega arith) (upper_rises words start (start + 8) m (omega arith) (omega arith)) in
      omega arith

  pub whole_length : length (hex_text words image) ≤ 44 * (words / 8) + 88
  whole_length =
      let all : length (hex_text words image) ≡ 12 + length (text_from words image (words + reading_tail) 0 0 0) = length_text words image in
      let count : length image - 0 ≡ words + reading_tail = omega (arith, long) in
      let from : length (rest 0 0) ≡ length (text_from words image (words + reading_tail) 0 0 0) = ap (λ n. length (text_from words image n 0 0 0)) count in
      let most : length (rest 0 0) ≤ 44 * (words / 8) + 60 + 16 * (1 - 0) = blocks (words / 8) 0 0 (omega (arith, eighths)) (omega arith) in
      omega arith
