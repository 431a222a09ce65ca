-- What is written is read back as the same image.
use Prim.Native.Nat.{ℕ, zero, suc, ◌+◌, ◌-◌, ◌*◌, ◌/◌, ◌%◌, ◌≤◌, ◌<◌}
use Rattle.std.proofs.Common.{not-suc-le-zero, le_of_suc-le-suc, ◌∙◌, ⊎_elim, take_at}
use native.Mathlib.Omega.{arith}
use Rattle.std.proofs.Math.Decide.{dec_lt, ℕ_discrete}
use Rattle.std.specs.Prelude.{◌≡◌, Bool, ltb, leb, eqb, take, drop, set, replicate}
use Rattle.std.proofs.Math.Path.{refl, sym, ap}
use Rattle.std.proofs.Math.Bool.{true, false}
use mathlib.Core.List.{List, [], ◌∷◌, ◌++◌, append_assoc, append-nil}
use Rattle.std.proofs.Math.Seq.{sets-eq}
use Rattle.std.proofs.Math.ListN.{length, get_or, get_or-replicate}
use Rattle.std.proofs.lemmas.List.{length-replicate}
use borrow.Author.Tests.{lt-ltb, le-ltb, le-leb, leb-true, eq-eqb, ne_eqb}
use Rattle.words.specs.Choice.{pick}
use Rattle.words.specs.Word.{not_given}
use Rattle.numerals.specs.Text.{split}
use Rattle.words.specs.Lists.{build}
use Rattle.words.specs.Address.{config_base, address_of, doubled}
use Rattle.words.specs.LawsChoice.{pick_true, pick_false, decided}
use Rattle.words.specs.LawsLists.{length_build, get_or_build, built, build_ext, build_set}
use Rattle.words.specs.LawsWord.{is_word_lem}
use Rattle.words.specs.LawsAddress.{halved_doubled, entry_of_address}
use Rattle.words.specs.declared.ByteAddress.{ByteAddress}
use Rattle.device.specs.declared.Device.{Device}
use Rattle.device.specs.Record.{most_words, device_ok}
use Rattle.device.specs.Memory.{reading_tail, programmable, image_ok}
use Rattle.device.specs.LawsRecord.{Rules, rules_lem, words_eighths}
use Rattle.device.specs.LawsMemory.{image_long, image_each, entry_word}
use Rattle.lines.specs.Lines.{lines_of, all_without_cr, without_cr}
use Rattle.hexread.specs.Line.{byte_at, count_of, offset_of, type_of, line_number}
use Rattle.hexread.specs.Step.{word_of, byte_address, entry_at, entry_of_word, word_number, Reading, give_words, record_step, line_refused, line_step}
use Rattle.hexread.specs.Reader.{most_text, blank_image, Outcome, read_lines, begun, text_read}
use Rattle.hexwrite.specs.Writer.{WrittenHex, written_hex, written_out, record_text, hex_address, upper_of, word_bytes, data_bytes, upper_bytes, end_bytes, hex_text}
use Rattle.hexwrite.specs.LawsWrite.{upper_text, refused_with}
use Rattle.hexwrite.specs.LawsWriteRun.{length_words, upper_same, upper_new, upper_most, hex_program, hex_config, hex_below}
use Rattle.hexwrite.specs.LawsWriteText.{text_length}
use Rattle.hexwrite.specs.LawsWriteRecords.{Run, Silent, Records, no_more, run, text_made}
use Rattle.hexround.specs.LawsRoundLine.{Bytes, record_line, lines_record, line_count, line_offset, line_type, line_data, data_sound, end_sound, upper_sound}

-- ---- the image so far

-- the words below entry k, and 'not given' from there on
unfoldable pub up_to : (n : ℕ) → List ℕ → (k : ℕ) → List ℕ
up_to n image k = build n (λ i. pick (ltb i k) (get_or image i 0) not_given)

module _ (n : ℕ) (image : List ℕ) where
  shown : (i k : ℕ) → i < k → pick (ltb i k) (get_or image i 0) not_given ≡ get_or image i 0
  shown i k h = pick_true (ltb i k) (get_or image i 0) not_given (lt-ltb i k h)

  hidden : (i k : ℕ) → k ≤ i → pick (ltb i k) (get_or image i 0) not_given ≡ not_given
  hidden i k h = pick_false (ltb i k) (get_or image i 0) not_given (le-ltb i k h)

  up_to_none : replicate n not_given ≡ up_to n image 0
  unfolding up_to
  up_to_none =
      built (replicate n not_given) n (λ i. pick (ltb i 0) (get_or image i 0) not_given) (length-replicate n not_given)
      (λ i h. get_or-replicate n i not_given 0 h ∙ sym (hidden i 0 (omega arith)))

  up_to_all : length image ≡ n → (k : ℕ) → Silent image k n → up_to n image k ≡ image
  unfolding up_to
  up_to_all long k silent = sym (built image n (λ i. pick (ltb i k) (get_or image i 0) not_given) long (λ i h. by i h (dec_lt i k)))
    where
      by : (i : ℕ) → i < n → Dec (i < k) → get_or image i 0 ≡ pick (ltb i k) (get_or image i 0) not_given
      by i h (yes p) = sym (shown i k p)
      by i h (no p) = silent i (omega arith) h ∙ sym (hidden i k (omega arith))

  -- silent entries change nothing
  up_to_silent : (k s : ℕ) → k ≤ s → Silent image k s → up_to n image k ≡ up_to n image s
  unfolding up_to
  up_to_silent k s low silent =
      build_ext n (λ i. pick (ltb i k) (get_or image i 0) not_given) (λ i. pick (ltb i s) (get_or image i 0) not_given) (λ i h. by i (dec_lt i k) (dec_lt i s))
    where
      by : (i : ℕ) → Dec (i < k) → Dec (i < s) → pick (ltb i k) (get_or image i 0) not_given ≡ pick (ltb i s) (get_or image i 0) not_given
      by i (yes p) q = shown i k p ∙ sym (shown i s (omega arith))
      by i (no p) (yes q) = hidden i k (omega arith) ∙ (sym (silent i (omega arith) q) ∙ sym (shown i s q))
      by i (no p) (no q) = hidden i k (omega arith) ∙ sym (hidden i s (omega arith))

  -- one word given
  up_to_more : (k : ℕ) → set (up_to n image k) k (get_or image k 0) ≡ up_to n image (k + 1)
  unfolding up_to
  up_to_more k =
      build_set n (λ i. pick (ltb i k) (get_or image i 0) not_given) (λ i. pick (ltb i (k + 1)) (get_or image i 0) not_given) k (get_or image k 0)
      (sym (shown k (k + 1) (omega arith))) (λ i ne. by i ne (dec_lt i k))
    where
      by : (i : ℕ) → (i ≡ k → ⊥) → Dec (i < k) → pick (ltb i k) (get_or image i 0) not_given ≡ pick (ltb i (k + 1)) (get_or image i 0) not_given
      by i ne (yes p) = shown i k p ∙ sym (shown i (k + 1) (omega arith))
      by i ne (no p) =
          let far : k < i = lib.Arith.lt_of_le-ne (omega arith) (λ e. ne (sym e)) in
          hidden i k (omega arith) ∙ sym (hidden i (k + 1) (omega arith))

  up_to_next : (k : ℕ) → k < n → get_or (up_to n image k) k not_given ≡ not_given
  up_to_next k h = default (up_to n image k) k (unfold up_to in rw (length_build n (λ i. pick (ltb i k) (get_or image i 0) not_given)) h) ∙ at_next
    where
      default : (l : List ℕ) (i : ℕ) → i < length l → get_or l i not_given ≡ get_or l i 0
      default [] i p = absurd (not-suc-le-zero p)
      default (x ∷ l) zero p = refl
      default (x ∷ l) (suc i) p = default l i (le_of_suc-le-suc p)

      at_next : get_or (up_to n image k) k 0 ≡ not_given
      at_next = unfold up_to in get_or_build n (λ i. pick (ltb i k) (get_or image i 0) not_given) k h ∙ hidden k k (omega arith)

-- ---- a sound line is read as its step

abbrev reading : (upper : ℕ) → List ℕ → Reading
reading upper image = record { ended = false; upper = upper; image = image; number = 0 }

-- a record's step, at every line number
read_on : (words : ℕ) (line : List ℕ) (ls : List (List ℕ)) (k : ℕ) (r next : Reading) → (length line ≡ 0 → ⊥) → r.ended ≡ false → line_number line ≡ 0
    → record_step words line r ≡ next → next.number ≡ 0 → read_lines words (line ∷ ls) k r ≡ read_lines words ls (k + 1) next
unfolding read_lines
read_on words line ls k r next some open_still sound step fine =
    let here : line_step words line r ≡ next = unfold line_step in line_step_lem in
    rw here (pick_true (eqb next.number 0) _ _ (eq-eqb next.number 0 fine))
  where
    line_step_lem : pick (eqb (length line) 0) r (pick r.ended (line_refused 11 r) (pick (eqb (line_number line) 0) (record_step words line r) (line_refused (line_number line) r))) ≡ next
    line_step_lem =
        pick_false (eqb (length line) 0) _ _ (ne_eqb (length line) 0 some)
        ∙ (pick_false r.ended _ _ open_still
        ∙ (pick_true (eqb (line_number line) 0) _ _ (eq-eqb (line_number line) 0 sound) ∙ step))

-- a line has a colon
line_some : (l : List ℕ) → length (record_line l) ≡ 0 → ⊥
unfolding record_line
line_some l e = omega arith

-- ---- the upper half and the end

-- a type 04 record sets the upper half
read_upper : (words upper u : ℕ) (image : List ℕ) (ls : List (List ℕ)) (k : ℕ) → u ≤ 1
    → read_lines words (record_line (upper_bytes u) ∷ ls) k (reading upper image) ≡ read_lines words ls (k + 1) (reading u image)
unfolding upper_bytes
read_upper words upper u image ls k h =
    read_on words line ls k (reading upper image) (reading u image) (line_some (2 ∷ 0 ∷ 0 ∷ 4 ∷ u / 256 ∷ u % 256 ∷ [])) refl
    (upper_sound 2 0 0 4 (u / 256 ∷ u % 256 ∷ []) bs refl refl refl refl refl) step refl
  where
    line : List ℕ
    line = record_line (2 ∷ 0 ∷ 0 ∷ 4 ∷ u / 256 ∷ u % 256 ∷ [])

    bs : Bytes (2 ∷ 0 ∷ 0 ∷ 4 ∷ u / 256 ∷ u % 256 ∷ [])
    bs = (omega arith, (omega arith, (omega arith, (omega arith, (omega arith, (omega arith, tt))))))

    kind : type_of line ≡ 4
    kind = line_type 2 0 0 4 (u / 256 ∷ u % 256 ∷ []) bs refl

    value : 256 * byte_at line 4 + byte_at line 5 ≡ u
    value =
        let high : byte_at line 4 ≡ u / 256 = line_data 2 0 0 4 (u / 256 ∷ u % 256 ∷ []) bs refl 0 (omega arith) in
        let low : byte_at line 5 ≡ u % 256 = line_data 2 0 0 4 (u / 256 ∷ u % 256 ∷ []) bs refl 1 (omega arith) in
        omega arith

    step : record_step words line (reading upper image) ≡ reading u image
    step = unfold record_step pick in rw (kind, value)

-- the end record, after which there is only an empty line
read_end : (words upper : ℕ) (image : List ℕ) (k : ℕ) → read_lines words (lines_of (record_text end_bytes)) k (reading upper image) ≡ record { number = 0; line = 0; column = 0; image = image }
unfolding end_bytes
read_end words upper image k =
    let lines : lines_of (record_text (0 ∷ 0 ∷ 0 ∷ 1 ∷ [])) ≡ line ∷ lines_of [] = rw append-nil at (lines_record (0 ∷ 0 ∷ 0 ∷ 1 ∷ []) []) in
    rw lines
    (read_on words line (lines_of []) k (reading upper image) over (line_some (0 ∷ 0 ∷ 0 ∷ 1 ∷ [])) refl
    (end_sound 0 0 0 1 [] bs refl refl refl refl refl) step refl ∙ last)
  where
    line : List ℕ
    line = record_line (0 ∷ 0 ∷ 0 ∷ 1 ∷ [])

    over : Reading
    over = record { ended = true; upper = upper; image = image; number = 0 }

    bs : Bytes (0 ∷ 0 ∷ 0 ∷ 1 ∷ [])
    bs = (omega arith, (omega arith, (omega arith, (omega arith, tt))))

    kind : type_of line ≡ 1
    kind = line_type 0 0 0 1 [] bs refl

    step : record_step words line (reading upper image) ≡ over
    step = unfold record_step pick in rw kind

    last : read_lines words (lines_of []) (k + 1) over ≡ record { number = 0; line = 0; column = 0; image = image }
    last = unfold lines_of all_without_cr without_cr split read_lines line_step pick in refl

-- ---- the words of a data record

module _ (image : List ℕ) where
  words_bytes : (n i : ℕ) → ((k : ℕ) → i ≤ k → k < i + n → get_or image k 0 < 0x4000) → Bytes (word_bytes n i image)
  unfolding word_bytes
  words_bytes zero i h = tt
  words_bytes (suc n) i h =
      let here : get_or image i 0 < 0x4000 = h i (omega arith) (omega arith) in
      (omega arith, (omega arith, words_bytes n (i + 1) (λ k p q. h k (omega arith) (omega arith))))

  word_low : (n i j : ℕ) → j < n → get_or (word_bytes n i image) (2 * j) 0 ≡ get_or image (i + j) 0 % 256
  unfolding word_bytes
  word_low zero i j h = absurd (not-suc-le-zero h)
  word_low (suc n) i zero h = let e : i + 0 ≡ i = omega arith in rw e
  word_low (suc n) i (suc j) h =
      let two : 2 * suc j ≡ suc (suc (2 * j)) = omega arith in
      let e : i + suc j ≡ i + 1 + j = omega arith in
      rw (two, e) (word_low n (i + 1) j (le_of_suc-le-suc h))

  word_high : (n i j : ℕ) → j < n → get_or (word_bytes n i image) (suc (2 * j)) 0 ≡ get_or image (i + j) 0 / 256
  unfolding word_bytes
  word_high zero i j h = absurd (not-suc-le-zero h)
  word_high (suc n) i zero h = let e : i + 0 ≡ i = omega arith in rw e
  word_high (suc n) i (suc j) h =
      let two : 2 * suc j ≡ suc (suc (2 * j)) = omega arith in
      let e : i + suc j ≡ i + 1 + j = omega arith in
      rw (two, e) (word_high n (i + 1) j (le_of_suc-le-suc h))

-- a run of a sound image
module _ (words : ℕ) (image : List ℕ) (s e : ℕ) (eighths : words % 8 ≡ 0) (m : words ≤ most_words) (ok : image_ok words image ≡ true) (r : Run words image s e) where
  few : e ≤ s + 8
  few = let p : s < e = r.some in let q : (e - 1) / 8 ≡ s / 8 = r.block (e - 1) (omega arith) (omega arith) in omega arith

  -- a word of the run is given, and may be
  word_fits : (k : ℕ) → s ≤ k → k < e → (get_or image k 0 < 0x4000) × (programmable words k ≡ true)
  word_fits k p q =
      let far : e ≤ words + reading_tail = r.within in
      entry_word words k (get_or image k 0) (image_each words image ok k (omega arith)) (r.given k p q)

  abbrev data_line : List ℕ
  data_line = record_line (data_bytes words image s e)

  abbrev ds : List ℕ
  ds = word_bytes (e - s) s image

  bs : Bytes (2 * (e - s) ∷ hex_address words s % 65536 / 256 ∷ hex_address words s % 256 ∷ 0 ∷ ds)
  bs =
      let f : e ≤ s + 8 = few in
      let l : s < e = r.some in
      (omega arith, (omega arith, (omega arith, (omega arith, words_bytes image (e - s) s (λ k p q. (word_fits k p (omega arith)).0)))))

  count_back : count_of data_line ≡ 2 * (e - s)
  unfolding data_bytes
  count_back = line_count (2 * (e - s)) (hex_address words s % 65536 / 256) (hex_address words s % 256) 0 ds bs (length_words (e - s) s image)

  offset_back : offset_of data_line ≡ hex_address words s % 65536
  unfolding data_bytes
  offset_back = line_offset (2 * (e - s)) (hex_address words s % 65536 / 256) (hex_address words s % 256) 0 ds bs (length_words (e - s) s image) ∙ omega arith

  type_back : type_of data_line ≡ 0
  unfolding data_bytes
  type_back = line_type (2 * (e - s)) (hex_address words s % 65536 / 256) (hex_address words s % 256) 0 ds bs (length_words (e - s) s image)

  data_fine : line_number data_line ≡ 0
  unfolding data_bytes
  data_fine =
      let even : hex_address words s % 2 ≡ 0 = unfold hex_address in omega arith in
      data_sound (2 * (e - s)) (hex_address words s % 65536 / 256) (hex_address words s % 256) 0 ds bs (length_words (e - s) s image) refl (omega arith) (omega arith)

  byte_back : (k : ℕ) → k < 2 * (e - s) → byte_at data_line (4 + k) ≡ get_or ds k 0
  unfolding data_bytes
  byte_back k h = line_data (2 * (e - s)) (hex_address words s % 65536 / 256) (hex_address words s % 256) 0 ds bs (length_words (e - s) s image) k h

  word_back : (j : ℕ) → j < e - s → word_of data_line j ≡ get_or image (s + j) 0
  unfolding word_of
  word_back j h =
      let low : byte_at data_line (4 + 2 * j) ≡ get_or image (s + j) 0 % 256 = byte_back (2 * j) (omega arith) ∙ word_low image (e - s) s j h in
      let odd : 5 + 2 * j ≡ 4 + suc (2 * j) = omega arith in
      let high : byte_at data_line (5 + 2 * j) ≡ get_or image (s + j) 0 / 256 = ap (byte_at data_line) odd ∙ (byte_back (suc (2 * j)) (omega arith) ∙ word_high image (e - s) s j h) in
      omega arith

  -- the address of word j of the run
  hex_back : (j : ℕ) → j < e - s → hex_address words (s + j) ≡ hex_address words s + 2 * j
  hex_back j h = by (dec_lt s words)
    where
      one : (s + j) / 8 ≡ s / 8
      one = r.block (s + j) (omega arith) (omega arith)

      by : Dec (s < words) → hex_address words (s + j) ≡ hex_address words s + 2 * j
      by (yes p) = let o : (s + j) / 8 ≡ s / 8 = one in rw (hex_program words (s + j) (omega arith), hex_program words s p) (omega arith)
      by (no p) = rw (hex_config words (s + j) (omega arith), hex_config words s (omega arith)) (omega arith)

  module _ (upper : ℕ) (half : upper ≡ upper_of words s) where
    address_back : (j : ℕ) → j < e - s → byte_address upper data_line j ≡ doubled (record { 0 = address_of config_base words (s + j) })
    unfolding byte_address doubled
    address_back j h = ap byte_address_lem (rw (offset_back, half) sum)
      where
        byte_address_lem : ℕ → ByteAddress
        byte_address_lem n = record { 0 = n }

        sum : upper_of words s * 65536 + hex_address words s % 65536 + 2 * j ≡ 2 * address_of config_base words (s + j)
        sum =
            let u : upper_of words s ≡ hex_address words s / 65536 = unfold upper_of in refl in
            let z : hex_address words (s + j) ≡ hex_address words s + 2 * j = hex_back j h in
            let w : hex_address words (s + j) ≡ 2 * address_of config_base words (s + j) = unfold hex_address in refl in
            omega arith

    entry_back : (j : ℕ) → j < e - s → entry_of_word words upper data_line j ≡ s + j
    unfolding entry_of_word entry_at
    entry_back j h =
        let far : e ≤ words + reading_tail = r.within in
        let w : hex_address words (s + j) ≡ 2 * address_of config_base words (s + j) = unfold hex_address in refl in
        let b : hex_address words (s + j) < 0x20000 = hex_below words (s + j) m (omega arith) in
        rw (address_back j h, halved_doubled (record { 0 = address_of config_base words (s + j) }) (omega arith))
        (entry_of_address config_base words reading_tail (s + j) (omega arith) (omega arith))

    -- word j is given where the entries before it are
    number_back : (j : ℕ) → j < e - s → word_number words upper data_line (up_to (words + reading_tail) image (s + j)) j ≡ 0
    unfolding word_number pick
    number_back j h =
        let far : e ≤ words + reading_tail = r.within in
        rw (
          entry_back j h,
          (word_fits (s + j) (omega arith) (omega arith)).1,
          word_back j h,
          is_word_lem (get_or image (s + j) 0) (word_fits (s + j) (omega arith) (omega arith)).0,
          up_to_next (words + reading_tail) image (s + j) (omega arith),
        )

    give_back : (n j : ℕ) → j + n ≡ e - s → give_words words upper data_line (up_to (words + reading_tail) image (s + j)) j n ≡ reading upper (up_to (words + reading_tail) image e)
    unfolding give_words
    give_back zero j h =
        let l : s < e = r.some in
        let end : s + j ≡ e = omega arith in
        rw end
    give_back (suc n) j h =
        let next : s + j + 1 ≡ s + (j + 1) = omega arith in
        pick_true (eqb (word_number words upper data_line (up_to (words + reading_tail) image (s + j)) j) 0) _ _
        (eq-eqb (word_number words upper data_line (up_to (words + reading_tail) image (s + j)) j) 0 (number_back j (omega arith)))
        ∙ (rw (entry_back j (omega arith), word_back j (omega arith), up_to_more (words + reading_tail) image (s + j), next) (give_back n (j + 1) (omega arith)))

    step_back : record_step words data_line (reading upper (up_to (words + reading_tail) image s)) ≡ reading upper (up_to (words + reading_tail) image e)
    unfolding record_step pick
    step_back =
        let l : s < e = r.some in
        let half_count : 2 * (e - s) / 2 ≡ e - s = omega arith in
        let start : s ≡ s + 0 = omega arith in
        let z : give_words words upper data_line (up_to (words + reading_tail) image (s + 0)) 0 (e - s) ≡ reading upper (up_to (words + reading_tail) image e) = give_back (e - s) 0 (omega arith) in
        let z' : give_words words upper data_line (up_to (words + reading_tail) image s) 0 (e - s) ≡ reading upper (up_to (words + reading_tail) image e) = rw (← start) at z in
        rw (type_back, count_back, half_count) z'

    -- the record's line gives the run
    read_data : (ls : List (List ℕ)) (k : ℕ) → read_lines words (data_line ∷ ls) k (reading upper (up_to (words + reading_tail) image s)) ≡ read_lines words ls (k + 1) (reading upper (up_to (words + reading_tail) image e))
    read_data ls k =
        read_on words data_line ls k (reading upper (up_to (words + reading_tail) image s)) (reading upper (up_to (words + reading_tail) image e))
        (line_some (data_bytes words image s e)) refl data_fine step_back refl

-- ---- the whole text

module _ (words : ℕ) (image : List ℕ) (eighths : words % 8 ≡ 0) (m : words ≤ most_words) (ok : image_ok words image ≡ true) where
  -- a run's lines: the upper half where it changes, and the data
  read_run : (upper s e : ℕ) (rest : List ℕ) → Run words image s e → Dec (upper_of words s ≡ upper)
      → ((k : ℕ) → read_lines words (lines_of rest) k (reading (upper_of words s) (up_to (words + reading_tail) image e)) ≡ record { number = 0; line = 0; column = 0; image = image })
      → (k : ℕ) → read_lines words (lines_of (upper_text upper (upper_of words s) ++ (record_text (data_bytes words image s e) ++ rest))) k
      (reading upper (up_to (words + reading_tail) image s)) ≡ record { number = 0; line = 0; column = 0; image = image }
  read_run upper s e rest r (yes same) next k =
      rw (upper_same upper (upper_of words s) same, lines_record (data_bytes words image s e) rest, ← same)
      (read_data words image s e eighths m ok r (upper_of words s) refl (lines_of rest) k ∙ next (k + 1))
  read_run upper s e rest r (no new) next k =
      let far : e ≤ words + reading_tail = r.within in
      let l : s < e = r.some in
      rw (upper_new upper (upper_of words s) new, lines_record (upper_bytes (upper_of words s)) (record_text (data_bytes words image s e) ++ rest), lines_record (data_bytes words image s e) rest)
      (read_upper words upper (upper_of words s) (up_to (words + reading_tail) image s) (record_line (data_bytes words image s e) ∷ lines_of rest) k (upper_most words s m (omega arith))
      ∙ (read_data words image s e eighths m ok r (upper_of words s) refl (lines_of rest) (k + 1) ∙ next (k + 1 + 1)))

  read_records : {from upper : ℕ} {text : List ℕ} → Records words image from upper text → (k : ℕ)
      → read_lines words (lines_of (text ++ record_text end_bytes)) k (reading upper (up_to (words + reading_tail) image from)) ≡ record { number = 0; line = 0; column = 0; image = image }
  read_records {from} {upper} (no_more silent) k =
      rw (up_to_all (words + reading_tail) image (image_long words image ok) from silent) (read_end words upper image k)
  read_records {from} {upper} (run {rest = rest} s e low silent r more) k =
      let whole : List ℕ = upper_text upper (upper_of words s) ++ record_text (data_bytes words image s e) in
      let parts : (whole ++ rest) ++ record_text end_bytes ≡ upper_text upper (upper_of words s) ++ (record_text (data_bytes words image s e) ++ (rest ++ record_text end_bytes)) =
      append_assoc whole rest (record_text end_bytes) ∙ append_assoc (upper_text upper (upper_of words s)) (record_text (data_bytes words image s e)) (rest ++ record_text end_bytes) in
      rw (parts, up_to_silent (words + reading_tail) image from s low silent)
      (read_run upper s e (rest ++ record_text end_bytes) r (ℕ_discrete (upper_of words s) upper) (λ j. read_records more j) k)

  read_text : (k : ℕ) → read_lines words (lines_of (hex_text words image)) k (begun words) ≡ record { number = 0; line = 0; column = 0; image = image }
  unfolding hex_text begun blank_image
  read_text k = rw (up_to_none (words + reading_tail) image) (read_records (text_made words image) k)

-- every image that a device may have is read back from its text, into any buffer of its length
pub round_trip : (d : Device) (image buffer : List ℕ) → device_ok d ≡ true → image_ok d.words image ≡ true → length buffer ≡ d.words + reading_tail
    → text_read d (hex_text d.words image) buffer ≡ record { number = 0; line = 0; column = 0; image = image }
unfolding text_read
round_trip d image buffer sound ok long =
    let keeps : Rules d = rules_lem d sound in
    let short : length (hex_text d.words image) ≤ 14 * d.words + 156 = text_length d.words image keeps.most in
    pick_true (device_ok d) _ _ sound
    ∙ (pick_true (eqb (length buffer) (d.words + reading_tail)) _ _ (eq-eqb (length buffer) (d.words + reading_tail) long)
    ∙ (pick_true (leb (length (hex_text d.words image)) most_text) _ _ (le-leb (length (hex_text d.words image)) most_text (omega arith))
    ∙ read_text d.words image (words_eighths d keeps) keeps.most ok 1))

-- a text that was read without refusal had a sound record
read_sound : (d : Device) (text buffer : List ℕ) → (text_read d text buffer).number ≡ 0 → device_ok d ≡ true
read_sound d text buffer e = ⊎_elim (λ t. t) (λ f. absurd (refused f)) (decided (device_ok d))
  where
    refused : device_ok d ≡ false → ⊥
    refused f =
        let n : (text_read d text buffer).number ≡ 13 = unfold text_read in ap (λ (o : Outcome). o.number) (pick_false (device_ok d) _ (record { number = 13; line = 0; column = 0; image = buffer }) f) in
        omega arith

-- the other way round: what was read is read again from the text that is written of it. `ok`: a text that is read without
-- refusal leaves a sound image
pub read_again : (d : Device) (text buffer other : List ℕ) → (text_read d text buffer).number ≡ 0 → (ok : image_ok d.words (text_read d text buffer).image ≡ true)
    → length other ≡ d.words + reading_tail
    → text_read d (hex_text d.words (text_read d text buffer).image) other ≡ record { number = 0; line = 0; column = 0; image = (text_read d text buffer).image }
read_again d text buffer other e ok long = round_trip d (text_read d text buffer).image other (read_sound d text buffer e) ok long

-- ---- of the calls' own answers

-- an answer of 0: the record and the image are sound, and the text fits
record Fine (d : Device) (image out : List ℕ) : Type 0 where
  pub sound : device_ok d ≡ true
  pub ok : image_ok d.words image ≡ true
  pub fits : length (hex_text d.words image) ≤ length out

written_fine : (d : Device) (image out : List ℕ) → (written_hex d image out).number ≡ 0 → Fine d image out
unfolding written_hex
written_fine d image out e = by (device_ok d) (image_ok d.words image) (leb (length (hex_text d.words image)) (length out)) refl refl refl e
  where
    refused : (n : ℕ) → (n ≡ 0 → ⊥) → n ≡ 0 → Fine d image out
    refused n nz z = absurd (nz z)

    by : (a b c : Bool) → device_ok d ≡ a → image_ok d.words image ≡ b → leb (length (hex_text d.words image)) (length out) ≡ c
        → (pick a (pick b (pick c (record { number = 0; length = length (hex_text d.words image) }) (refused_with 26)) (refused_with 20)) (refused_with 13)).number ≡ 0 → Fine d image out
    by true true true p q r z = record { sound = p; ok = q; fits = leb-true (length (hex_text d.words image)) (length out) r }
    by true true false p q r z = refused 26 (λ y. omega arith) (unfold pick in z)
    by true false c p q r z = refused 20 (λ y. omega arith) (unfold pick in z)
    by false b c p q r z = refused 13 (λ y. omega arith) (unfold pick in z)

-- the bytes that the writer's answer counts are the text
pub written_text : (d : Device) (image out : List ℕ) → (written_hex d image out).number ≡ 0 → take (written_hex d image out).length (written_out d image out) ≡ hex_text d.words image
written_text d image out e = rw (long, stored) (take_at (hex_text d.words image) _ (length (hex_text d.words image)) refl)
  where
    fine : Fine d image out
    fine = written_fine d image out e

    answer : written_hex d image out ≡ record { number = 0; length = length (hex_text d.words image) }
    answer = unfold written_hex pick in rw (fine.sound, fine.ok, le-leb (length (hex_text d.words image)) (length out) fine.fits)

    long : (written_hex d image out).length ≡ length (hex_text d.words image)
    long = ap (λ (r : WrittenHex). r.length) answer

    stored : written_out d image out ≡ hex_text d.words image ++ drop (0 + length (hex_text d.words image)) out
    stored =
        unfold written_out in
        pick_true (eqb (written_hex d image out).number 0) _ out (eq-eqb (written_hex d image out).number 0 e)
        ∙ sets-eq (hex_text d.words image) out 0 (let f : length (hex_text d.words image) ≤ length out = fine.fits in omega arith)

-- and they are read back as the image that was written
pub written_read : (d : Device) (image out buffer : List ℕ) → (written_hex d image out).number ≡ 0 → length buffer ≡ d.words + reading_tail
    → text_read d (take (written_hex d image out).length (written_out d image out)) buffer ≡ record { number = 0; line = 0; column = 0; image = image }
written_read d image out buffer e long =
    let f : Fine d image out = written_fine d image out e in
    rw (written_text d image out e) (round_trip d image buffer f.sound f.ok long)
