-- Laws of the text as it is put: the loop over the runs, the end record, and the call's answers.
use Rattle.std.specs.Prelude.{ℕ, ◌+◌, ◌-◌, ◌*◌, ◌/◌, ◌≤◌, ◌≡◌, refl, List, [], ◌++◌, length}
use Rattle.std.proofs.Common.{arith, ap, ◌∙◌, length-append}
use Rattle.std.proofs.lemmas.List.Edits.{sets}
use Rattle.device.specs.Memory.{reading_tail}
use Rattle.hexwrite.specs.Writer.{sum_of, digits_of, record_text, end_bytes, text_from, hex_text}
use Rattle.hexwrite.specs.LawsWrite.{upper_text, head_text, closing_text}
use Rattle.hexwrite.specs.LawsWriter.{Puts, puts_none, puts_then, record_puts}
use Rattle.hexwrite.specs.LawsWriteRun.{run_bytes}
use Rattle.hexwrite.specs.LawsNextRun.{RunFrom}
use Rattle.hexwrite.specs.LawsWriteText.{length_text, length_records}
use Rattle.hexwrite.specs.declared.run.Run.{Run}
use Rattle.hexwrite.specs.declared.writer.Writer.{Writer}

-- ---- the loop over the runs

-- where the loop stands before entry i, where no run is held back
pub record Turn (words : ℕ) (image : List ℕ) (before now : Writer) (upper i : ℕ) : Type 0 where
  pub left : (after : Writer) → Puts (text_from words image (length image - i) upper i i) now after → Puts (text_from words image (words + reading_tail) 0 0 0) before after
  pub room : now.at + length (text_from words image (length image - i) upper i i) ≤ length now.out.now
  pub high : i ≤ length image

module _ (words : ℕ) (image : List ℕ) (before : Writer) where
  pub turn_first : length image ≡ words + reading_tail → before.at + length (text_from words image (words + reading_tail) 0 0 0) ≤ length before.out.now → Turn words image before before 0 0
  turn_first long h =
      let all : length image - 0 ≡ words + reading_tail = omega arith in
      record { left = λ after p. rw all at p; room = rw all h; high = omega arith }

  module _ (now : Writer) (upper i : ℕ) (turn : Turn words image before now upper i) where
    module _ (r : Run) (run : RunFrom words image i r) where
      abbrev here : List ℕ
      here = upper_text upper (r.address.0 / 65536) ++ record_text (run_bytes r.address.0 r.words.now)

      abbrev rest : List ℕ
      rest = text_from words image (length image - r.stop) (r.address.0 / 65536) r.stop r.stop

      sizes : length (here ++ rest) ≡ length (upper_text upper (r.address.0 / 65536)) + (12 + 4 * length r.words.now) + length rest
      sizes = length-append here rest ∙ ap (λ n. n + length rest) (length_records upper (r.address.0 / 65536) r.address.0 r.words.now)

      whole : now.at + length (here ++ rest) ≤ length now.out.now
      whole = rw (run.text upper) at turn.room

      pub turn_room : now.at + length (upper_text upper (r.address.0 / 65536)) + (12 + 4 * length r.words.now) ≤ length now.out.now
      turn_room = omega (arith, sizes, whole)

      pub turn_on : (next : Writer) (half : ℕ) → Puts here now next → half ≡ r.address.0 / 65536 → Turn words image before next half r.stop
      turn_on next half p h =
          let size : length here ≡ length (upper_text upper (r.address.0 / 65536)) + (12 + 4 * length r.words.now) = length_records upper (r.address.0 / 65536) r.address.0 r.words.now in
          let at : next.at ≡ now.at + length here = p.wrote.end in
          let same : length next.out.now ≡ length now.out.now = p.room in
          record {
            left = λ after q. turn.left after (rw (run.text upper) (puts_then p (rw h at q)));
            room = rw h (omega (arith, sizes, whole));
            high = run.inside;
          }

    pub turn_done : ((u : ℕ) → text_from words image (length image - i) u i i ≡ []) → Puts (text_from words image (words + reading_tail) 0 0 0) before now
    turn_done none = turn.left now (rw (none upper) (puts_none now))

-- ---- the end record

pub end_put : {a b c : Writer} → Puts (head_text 0 0 0 1) a b → Puts (closing_text 1) b c → Puts (record_text end_bytes) a c
unfolding end_bytes
end_put {b = b} p q = record_puts 0 0 0 1 1 [] p nothing summed q
  where
    nothing : Puts (digits_of []) b b
    nothing = unfold digits_of in puts_none b

    summed : 1 ≡ 0 + (0 + (0 + (1 + sum_of [])))
    summed = unfold sum_of in refl

module _ (words : ℕ) (image out : List ℕ) (fits : length (hex_text words image) ≤ length out) where
  pub entries_room : length (text_from words image (words + reading_tail) 0 0 0) ≤ length out
  entries_room = let n : length (hex_text words image) ≡ 12 + length (text_from words image (words + reading_tail) 0 0 0) = length_text words image in omega arith

  module _ (a b : Writer) (start : a.at ≡ 0) (lent : a.out.now ≡ out) (p : Puts (text_from words image (words + reading_tail) 0 0 0) a b) where
    pub end_room : b.at + 12 ≤ length b.out.now
    end_room =
        let n : length (hex_text words image) ≡ 12 + length (text_from words image (words + reading_tail) 0 0 0) = length_text words image in
        let same : length b.out.now ≡ length out = p.room ∙ ap length lent in
        let e : b.at ≡ a.at + length (text_from words image (words + reading_tail) 0 0 0) = p.wrote.end in
        omega arith

    pub text_put : (c : Writer) → Puts (record_text end_bytes) b c → c.out.now ≡ sets out 0 (hex_text words image)
    unfolding hex_text
    text_put c q = (puts_then p q).wrote.bytes ∙ cc
