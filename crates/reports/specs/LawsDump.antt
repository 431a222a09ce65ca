-- Laws of the program dump: a reading whose three words that are never given are hidden is an image, its text has room, and the programs take it.
use Rattle.std.specs.Prelude.{Result, Ok, Err, IfOk, ℕ, suc, ◌-◌, ◌+◌, ◌*◌, ◌/◌, ◌≤◌, ◌<◌, ◌≡◌, refl, ◌⊎◌, Bool, true, List, ◌++◌, length, get_or, set, take, drop, replicate}
use Rattle.std.proofs.Common.{append_assoc, length-take-le, length-drop, add-zero, zero-add, ◌∙◌, inl, inr, take_at}
use Rattle.std.proofs.Math.Decide.{dec_lt, ℕ_discrete}
use native.Mathlib.Omega.{arith}
use Rattle.std.proofs.Math.Path.{sym, ap}
use Rattle.std.proofs.Math.Bool.{false, not}
use Rattle.std.proofs.lemmas.List.{length-set, drop-drop}
use Rattle.std.proofs.lemmas.List.Edits.{sets, sets-eq}
use Rattle.std.proofs.Math.Seq.{take-set-lt, length-sets}
use Rattle.std.proofs.Math.Dec.{eqb}
use borrow.Author.Tests.{eq-eqb, ne_eqb, le-leb}
use Rattle.words.specs.Choice.{pick, unless}
use Rattle.words.specs.Word.{not_given}
use Rattle.words.specs.Lists.{in_range, overlay}
use Rattle.words.specs.LawsChoice.{pick_true, pick_false, decided}
use Rattle.words.specs.LawsLists.{length_build, get_or_build, build_ext, in_range_lem, below_range, above_range, overlay_none, overlay_more}
use Rattle.device.specs.declared.Device.{Device}
use Rattle.device.specs.Record.{device_up_to, device_ok}
use Rattle.device.specs.Memory.{reading_tail, ids, cp_word, programmable, entry_ok, image_ok, reading_ok, protected}
use Rattle.device.specs.LawsRecord.{Rules, rules_lem, words_eighths}
use Rattle.device.specs.LawsMemory.{programmable_low, programmable_never, programmable_config, programmable_lt, entry_none, entry_given, image_of_lem, reading_each}
use Rattle.refusal.specs.declared.Refusal.{Refusal}
use Rattle.refusal.specs.Refusal.{number_of, number_in}
use Rattle.refusal.specs.LawsRefusal.{number_of_positive}
use Rattle.hexwrite.specs.Writer.{hex_text, written_told, written_hex, written_out, WroteHex}
use Rattle.print.specs.Print.{refused_text}
use Rattle.print.specs.LawsLines.{refused_short, either_short}
use Rattle.board.specs.Open.{most_program, record_of, board_number, board_reading, opened_reading}
use Rattle.board.specs.LawsOpen.{served_sound, served_most}
use Rattle.board.specs.LawsBoard.{most_reading, Board, board_opened, board_served, Holds, refusal_text, answer_text}
use Rattle.reports.specs.Dump.{image_of, dump_text}
use Rattle.reports.specs.LawsWhole.{whole_length}

-- the most bytes of a text: 44 for eight words, and 88
abbrev pub most_dump : ℕ
most_dump = 44 * (most_program / 8) + 88

-- three entries made 'not given'
unfoldable hidden : (first : ℕ) → List ℕ → List ℕ
hidden first l = overlay first 3 (λ i. not_given) l

-- ---- the image of a reading

hidden_three : (l : List ℕ) (first : ℕ) → set (set (set l first not_given) (first + 1) not_given) (first + 2) not_given ≡ hidden first l
unfolding hidden
hidden_three l first = overlay_more first 2 (λ i. not_given) l _ not_given two refl
  where
    one : set l first not_given ≡ overlay first 1 (λ i. not_given) l
    one = ap (λ n. set l n not_given) (sym (add-zero first)) ∙ overlay_more first 0 (λ i. not_given) l l not_given (sym (overlay_none first (λ i. not_given) l)) refl

    two : set (set l first not_given) (first + 1) not_given ≡ overlay first 2 (λ i. not_given) l
    two = overlay_more first 1 (λ i. not_given) l _ not_given one refl

-- the three words that are not programmable are those that are hidden
hidden_entry : (words i x : ℕ) → i < words + reading_tail → pick (in_range (words + ids) 3 i) not_given x ≡ pick (programmable words i) x not_given
hidden_entry words i x h = by (dec_lt i (words + ids)) (dec_lt i (words + cp_word))
  where
    by : Dec (i < words + ids) → Dec (i < words + cp_word) → pick (in_range (words + ids) 3 i) not_given x ≡ pick (programmable words i) x not_given
    by (yes p) q = pick_false _ _ _ (below_range (words + ids) 3 i p) ∙ sym (pick_true _ _ _ (programmable_low words i p))
    by (no p) (yes q) = pick_true _ _ _ (in_range_lem (words + ids) 3 i (omega arith) (omega arith)) ∙ sym (pick_false _ _ _ (programmable_never words i (omega arith) q))
    by (no p) (no q) = pick_false _ _ _ (above_range (words + ids) 3 i (omega arith)) ∙ sym (pick_true _ _ _ (programmable_config words i (omega arith) h))

image_is : (words : ℕ) (reading : List ℕ) → length reading ≡ words + reading_tail → hidden (words + ids) reading ≡ image_of words reading
unfolding hidden overlay image_of
image_is words reading e = rw e (build_ext (words + reading_tail) _ _ (λ i h. hidden_entry words i (get_or reading i 0) h))

image_sound : (words : ℕ) (reading : List ℕ) → reading_ok words reading ≡ true → image_ok words (image_of words reading) ≡ true
unfolding image_of
image_sound words reading ok = image_of_lem words _ (length_build (words + reading_tail) entry)
    (λ i h. ap (entry_ok words i) (get_or_build (words + reading_tail) entry i h) ∙ by i (decided (programmable words i)))
  where
    entry : ℕ → ℕ
    entry i = pick (programmable words i) (get_or reading i 0) not_given

    by : (i : ℕ) → (programmable words i ≡ true) ⊎ (programmable words i ≡ false) → entry_ok words i (entry i) ≡ true
    by i (inl t) = ap (entry_ok words i) (pick_true _ _ _ t) ∙ (entry_given words i (get_or reading i 0) (reading_each words reading ok i) ∙ t)
    by i (inr f) = entry_none words i (entry i) (pick_false _ _ _ f)

-- its words are given but for the three
image_long : (words : ℕ) (reading : List ℕ) → length (image_of words reading) ≡ words + reading_tail
unfolding image_of
image_long words reading = length_build (words + reading_tail) _

image_given : (words : ℕ) (reading : List ℕ) → reading_ok words reading ≡ true → (i : ℕ) → programmable words i ≡ true → get_or (image_of words reading) i 0 ≡ not_given → ⊥
unfolding image_of
image_given words reading ok i t e =
    let small : get_or reading i 0 < 0x4000 = reading_each words reading ok i in
    let here : get_or (image_of words reading) i 0 ≡ get_or reading i 0 = get_or_build (words + reading_tail) _ i (programmable_lt words i t) ∙ pick_true _ _ _ t in
    omega (arith, sym here ∙ e)

image_never : (words : ℕ) (reading : List ℕ) (i : ℕ) → words + ids ≤ i → i < words + cp_word → get_or (image_of words reading) i 0 ≡ not_given
unfolding image_of
image_never words reading i p q = get_or_build (words + reading_tail) _ i (omega arith) ∙ pick_false _ _ _ (programmable_never words i p q)

-- ---- the text of an image, in a buffer that has room for it

text_few : (d : Device) → device_up_to most_program d ≡ true → (reading : List ℕ) → reading_ok d.words reading ≡ true → length (hex_text d.words (image_of d.words reading)) ≤ most_dump
text_few d served reading ok =
    let most : d.words ≤ most_program = served_most d served in
    let keeps : Rules d = rules_lem d (served_sound d served) in
    let short : length (hex_text d.words (image_of d.words reading)) ≤ 44 * (d.words / 8) + 88 =
    whole_length d.words keeps.most (words_eighths d keeps) (image_of d.words reading) (image_long d.words reading)
    (image_given d.words reading ok) (image_never d.words reading) in
    omega arith

module _ (d : Device) (sound : device_ok d ≡ true) (image : List ℕ) (ok : image_ok d.words image ≡ true) (room_enough : length (hex_text d.words image) ≤ most_dump) where
  -- the writer answers its length, and it stands at the start of the buffer
  dumped : (out : List ℕ) → length out ≡ most_dump → (r : Result ℕ Refusal) (after : List ℕ) → WroteHex d image out (written_told r) after → (number_in r ≡ 0) × IfOk r (λ n. Holds (hex_text d.words image) n after)
  dumped out long r after p = by r p.answer
    where
      text : List ℕ
      text = hex_text d.words image

      room : length text ≤ length out
      room = rw long room_enough

      is : written_hex d image out ≡ record { number = 0; length = length text }
      is = unfold written_hex pick in rw (sound, ok, le-leb (length (hex_text d.words image)) (length out) room)

      stored : after ≡ sets out 0 text
      stored = p.bytes ∙ (unfold written_out in pick_true _ _ _ (eq-eqb _ 0 (ap (λ x. x.number) is)))

      placed : sets out 0 text ≡ text ++ drop (0 + length text) out
      placed = sets-eq text out 0 (rw zero-add room)

      by : (a : Result ℕ Refusal) → written_told a ≡ written_hex d image out → (number_in a ≡ 0) × IfOk a (λ n. Holds text n after)
      by (Err e) q = let n : 0 < number_of e = number_of_positive e in absurd (omega (arith, ap (λ x. x.number) (q ∙ is)))
      by (Ok n) q =
          let count : n ≡ length text = ap (λ x. x.length) (q ∙ is) in (
            refl,
            record {
              within = rw (count, stored, length-sets out 0 text) room;
              whole = ap (λ k. take k after) count ∙ (ap (take (length text)) (stored ∙ placed) ∙ take_at text (drop (0 + length text) out) (length text) refl);
            },
          )

-- ---- the program

-- the reading of a board that is not refused
board_good : (table sheet : List ℕ) → board_number table sheet ≡ 0 → reading_ok (record_of table sheet).words (board_reading table sheet) ≡ true
board_good table sheet z = ap (reading_ok (record_of table sheet).words) (sym b.front) ∙ b.good
  where
    b : Board table sheet (record_of table sheet) (opened_reading table sheet (replicate most_reading 0))
    b = board_opened table sheet (board_number table sheet) refl z (record_of table sheet) refl (opened_reading table sheet (replicate most_reading 0)) refl

pub dump_short : (table sheet : List ℕ) → length (dump_text table sheet) ≤ most_dump
unfolding dump_text
dump_short table sheet =
    either_short most_dump (omega arith) (board_number table sheet) 0 0 _
    (λ z. by (not (protected (record_of table sheet).words (board_reading table sheet)))
    (text_few (record_of table sheet) (board_served table sheet z) (board_reading table sheet) (board_good table sheet z)) (refused_short 23 0 0))
  where
    by : (c : Bool) → length (hex_text (record_of table sheet).words (image_of (record_of table sheet).words (board_reading table sheet))) ≤ most_dump → length (refused_text 23 0 0) ≤ 41
        → length (pick c (hex_text (record_of table sheet).words (image_of (record_of table sheet).words (board_reading table sheet))) (refused_text 23 0 0)) ≤ most_dump
    by true h s = unfold pick in h
    by false h s = unfold pick in omega arith

-- the programs take a HEX file of this length
pub dump_fits : (table sheet : List ℕ) → length (dump_text table sheet) ≤ 65536
dump_fits table sheet = let s : length (dump_text table sheet) ≤ most_dump = dump_short table sheet in omega arith

-- the refusals of a dump: those of the board, and 23
unfoldable pub dump_number : (table sheet : List ℕ) → ℕ
dump_number table sheet =
    unless (eqb (board_number table sheet) 0) (board_number table sheet)
    (unless (not (protected (record_of table sheet).words (board_reading table sheet))) 23 0)

-- the HEX text of a board's sheet stands at the start of a buffer
abbrev pub Dumped : (table sheet : List ℕ) (n : ℕ) (out : List ℕ) → Type 0
Dumped table sheet n out = Holds (hex_text (record_of table sheet).words (image_of (record_of table sheet).words (board_reading table sheet))) n out

module _ (table sheet : List ℕ) where
  pub dump_unopened : (e : Refusal) → number_of e ≡ board_number table sheet → number_of e ≡ dump_number table sheet
  unfolding dump_number
  dump_unopened e p = p ∙ sym (pick_false _ _ _ (ne_eqb (board_number table sheet) 0 (λ z. let n : 0 < number_of e = number_of_positive e in omega (arith, p ∙ z))))

  -- its text
  dump_is : dump_text table sheet
      ≡ pick (eqb (dump_number table sheet) 0) (hex_text (record_of table sheet).words (image_of (record_of table sheet).words (board_reading table sheet))) (refused_text (dump_number table sheet) 0 0)
  unfolding dump_text dump_number
  dump_is = by (board_number table sheet) (ℕ_discrete (board_number table sheet) 0) (not (protected (record_of table sheet).words (board_reading table sheet)))
    where
      text : List ℕ
      text = hex_text (record_of table sheet).words (image_of (record_of table sheet).words (board_reading table sheet))

      away : (n : ℕ) (b : Bool) → eqb n 0 ≡ false → pick (eqb n 0) (pick b text (refused_text 23 0 0)) (refused_text n 0 0)
          ≡ pick (eqb (pick (eqb n 0) (pick b 0 23) n) 0) text (refused_text (pick (eqb n 0) (pick b 0 23) n) 0 0)
      away n b e = unfold pick in rw (e, e)

      by : (n : ℕ) → Dec (n ≡ 0) → (b : Bool) → pick (eqb n 0) (pick b text (refused_text 23 0 0)) (refused_text n 0 0)
          ≡ pick (eqb (pick (eqb n 0) (pick b 0 23) n) 0) text (refused_text (pick (eqb n 0) (pick b 0 23) n) 0 0)
      by n (yes z) true = unfold pick in rw (eq-eqb n 0 z)
      by n (yes z) false = unfold pick in rw (eq-eqb n 0 z)
      by n (no h) b = away n b (ne_eqb n 0 h)

  pub dump_refused : (e : Refusal) → number_of e ≡ dump_number table sheet → refused_text (number_of e) 0 0 ≡ dump_text table sheet
  dump_refused e p = refusal_text (dump_number table sheet) _ e p ∙ sym dump_is

  pub dump_all : 0 ≡ dump_number table sheet → (n : ℕ) (out : List ℕ) → Dumped table sheet n out → take n out ≡ dump_text table sheet
  dump_all z n out h = h.whole ∙ (answer_text (dump_number table sheet) _ (refused_text (dump_number table sheet) 0 0) z ∙ sym dump_is)

  module _ (z : 0 ≡ board_number table sheet) (d : Device) (reading : List ℕ) (b : Board table sheet d reading) where
    protected_is : protected d.words (take (d.words + reading_tail) reading) ≡ protected (record_of table sheet).words (board_reading table sheet)
    protected_is = ap (protected d.words) b.front ∙ ap (λ x. protected x.words (board_reading table sheet)) b.record_is

    opened : dump_number table sheet ≡ pick (not (protected d.words (take (d.words + reading_tail) reading))) 0 23
    unfolding dump_number
    opened = pick_true _ _ _ (eq-eqb (board_number table sheet) 0 (sym z)) ∙ ap (λ b. pick (not b) 0 23) (sym protected_is)

    pub dump_23 : true ≡ protected d.words (take (d.words + reading_tail) reading) → 23 ≡ dump_number table sheet
    dump_23 t = sym (opened ∙ pick_false _ _ _ (ap not (sym t)))

    dump_room : d.words + ids + 3 ≤ length reading
    dump_room = let w : d.words + reading_tail ≤ length reading = b.within in omega arith

    -- the writer's answer of the image that the three hidden words leave
    module _ (f : false ≡ protected d.words (take (d.words + reading_tail) reading)) (three hides : List ℕ) (t : three ≡ replicate (length (take (d.words + ids + 3 - (d.words + ids)) (drop (d.words + ids) reading))) not_given)
        (h : hides ≡ take (d.words + ids) reading ++ (three ++ drop (d.words + ids + 3 - (d.words + ids)) (drop (d.words + ids) reading))) where
      sets_three : hides ≡ set (set (set reading (d.words + ids) not_given) (d.words + ids + 1) not_given) (d.words + ids + 2) not_given
      sets_three =
          h ∙ ((λ i. take (d.words + ids) reading ++ ((t ∙ ap (λ n. replicate n not_given) count) i ++ rest i))
          ∙ (sym (append_assoc (take (d.words + ids) reading) (replicate 3 not_given) (drop (d.words + ids + 3) reading))
          ∙ (sym (sets-eq (replicate 3 not_given) reading (d.words + ids) dump_room)
          ∙ (λ i. set (set (set reading (d.words + ids) not_given) (one i) not_given) (two i) not_given))))
        where
          count : length (take (d.words + ids + 3 - (d.words + ids)) (drop (d.words + ids) reading)) ≡ 3
          count =
              let room : d.words + ids + 3 ≤ length reading = dump_room in
              length-take-le (d.words + ids + 3 - (d.words + ids)) (drop (d.words + ids) reading) (rw length-drop (omega arith)) ∙ omega arith

          past : d.words + ids + (d.words + ids + 3 - (d.words + ids)) ≡ d.words + ids + 3
          past = omega arith

          rest : drop (d.words + ids + 3 - (d.words + ids)) (drop (d.words + ids) reading) ≡ drop (d.words + ids + 3) reading
          rest = drop-drop (d.words + ids + 3 - (d.words + ids)) (d.words + ids) reading ∙ ap (λ n. drop n reading) past

          one : suc (d.words + ids) ≡ d.words + ids + 1
          one = omega arith

          two : suc (suc (d.words + ids)) ≡ d.words + ids + 2
          two = omega arith

      front : take (d.words + reading_tail) hides ≡ image_of d.words (take (d.words + reading_tail) reading)
      front =
          ap (take (d.words + reading_tail)) sets_three
          ∙ (take-set-lt (d.words + reading_tail) _ (d.words + ids + 2) not_given (omega arith)
          ∙ (ap (λ l. set l (d.words + ids + 2) not_given) (take-set-lt (d.words + reading_tail) _ (d.words + ids + 1) not_given (omega arith)
          ∙ ap (λ l. set l (d.words + ids + 1) not_given) (take-set-lt (d.words + reading_tail) reading (d.words + ids) not_given (omega arith)))
          ∙ (hidden_three (take (d.words + reading_tail) reading) (d.words + ids) ∙ image_is d.words (take (d.words + reading_tail) reading) b.long)))

      pub dump_within : d.words + reading_tail ≤ length hides
      dump_within = rw sets_three (simp length-set b.within)

      ok : image_ok d.words (take (d.words + reading_tail) hides) ≡ true
      ok = ap (image_ok d.words) front ∙ image_sound d.words (take (d.words + reading_tail) reading) b.good

      few : length (hex_text d.words (take (d.words + reading_tail) hides)) ≤ most_dump
      few = rw front (text_few d b.served (take (d.words + reading_tail) reading) b.good)

      text_is : hex_text d.words (take (d.words + reading_tail) hides) ≡ hex_text (record_of table sheet).words (image_of (record_of table sheet).words (board_reading table sheet))
      text_is =
          ap (hex_text d.words) (front ∙ ap (image_of d.words) b.front)
          ∙ ap (λ x. hex_text x.words (image_of x.words (board_reading table sheet))) b.record_is

      pub dump_written : (out : List ℕ) → length out ≡ most_dump → (r : Result ℕ Refusal) (after : List ℕ) → WroteHex d (take (d.words + reading_tail) hides) out (written_told r) after
          → (number_in r ≡ dump_number table sheet) × IfOk r (λ n. Dumped table sheet n after)
      dump_written out long r after p =
          let w = dumped d b.sound (take (d.words + reading_tail) hides) ok few out long r after p in
          (w.0 ∙ sym (opened ∙ pick_true _ _ _ (ap not (sym f))), rw text_is at w.1)
