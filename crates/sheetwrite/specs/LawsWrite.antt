-- Laws of the writers: what is still to be written, and the answers.
use Prim.Native.Nat.{ℕ, suc, ◌+◌, ◌-◌, ◌*◌, ◌/◌, ◌≤◌, ◌<◌}
use Rattle.std.proofs.Common.{add-zero, zero-add, add-one, ◌∙◌, length-append, length-drop, length-take-le, get_or-take, get_or-drop, drop_of_length-le, take_all, drop-drop}
use native.Mathlib.Omega.{arith}
use Rattle.std.specs.Prelude.{zero, ◌≡◌, Result, Ok, Err, Bool, ◌&&◌, get_or, set, take, drop}
use Rattle.std.proofs.Math.Path.{refl, sym, ap}
use Rattle.std.proofs.Math.Bool.{true, false}
use mathlib.Core.List.{List, [], ◌∷◌, ◌++◌, append_assoc, append-nil}
use Rattle.std.proofs.Math.Dec.{leb}
use Rattle.std.proofs.Math.ListN.{length}
use Rattle.std.proofs.Math.Seq.{sets, take-length, drop-append_seam}
use Rattle.std.proofs.lemmas.List.{get_or_append_left}
use Rattle.std.proofs.lemmas.List.Edits.{sets-eq}
use borrow.Author.Tests.{le-leb, lt-leb, leb-true}
use Rattle.words.specs.Choice.{pick}
use Rattle.words.specs.LawsChoice.{both, first_fails, second_fails}
use Rattle.words.specs.LawsTests.{by_test}
use Rattle.words.specs.LawsLists.{sets_append}
use Rattle.words.specs.Address.{config_base}
use Rattle.numerals.specs.Text.{tab, lf}
use Rattle.numerals.specs.Hex.{word_text}
use Rattle.numerals.specs.LawsHex.{length_word_text}
use Rattle.device.specs.declared.Device.{Device}
use Rattle.refusal.specs.Refusal.{number_of}
use Rattle.refusal.specs.declared.Refusal.{Refusal}
use Rattle.refusal.specs.LawsRefusal.{answer_unique, number_of_positive}
use Rattle.device.specs.Record.{device_ok, record_number}
use Rattle.device.specs.LawsRecord.{Rules, rules_lem, breaks, judged_good, judged_bad}
use Rattle.device.specs.Memory.{reading_tail, reading_ok}
use Rattle.device.specs.LawsId.{with_id}
use Rattle.table.specs.Table.{name_ok}
use Rattle.judge.specs.Checksum.{config_sum, checksum_of, summed, sum_told}
use Rattle.judge.specs.LawsChecksum.{summed_0, summed_13, summed_21}
use Rattle.sheet.specs.FirstLine.{old_line, new_line}
use Rattle.sheet.specs.Sheet.{fields, line_text, program_lines, body_text, sheet_with, new_with}
use Rattle.sheet.specs.LawsFirstLine.{length_old, length_new}
use Rattle.sheet.specs.LawsBody.{length_fields, length_line, length_lines, length_body}
use Rattle.sheetwrite.specs.Write.{Written, written_told, sheet_text, sheet_length, written, written_text, new_text, new_length, new_written, new_written_text}

-- a text stored, and the next one where it ends
pub sets_then : (l : List ℕ) (at : ℕ) (vs ws : List ℕ) (n : ℕ) → length vs ≡ n → sets l at (vs ++ ws) ≡ sets (sets l at vs) (at + n) ws
sets_then l at vs ws n e = rw (← e) (sym (sets_append l at vs ws))

-- ---- fields and lines, one turn of a loop

module _ (n i k : ℕ) (l : List ℕ) (h : k < n) where
  fields_open : fields (n - k) (i + k) l ≡ tab ∷ (word_text (get_or l (i + k) 0) ++ fields (n - (k + 1)) (i + (k + 1)) l)
  unfolding fields
  fields_open =
      let more : n - k ≡ suc (n - (k + 1)) = omega arith in
      let next : i + k + 1 ≡ i + (k + 1) = omega arith in
      rw (more, next)

  pub fields_turn : (at : ℕ) (o p q : List ℕ) → p ≡ set o (at + 5 * k) tab → q ≡ sets p (at + 5 * k + 1) (word_text (get_or l (i + k) 0))
      → sets o (at + 5 * k) (fields (n - k) (i + k) l) ≡ sets q (at + 5 * (k + 1)) (fields (n - (k + 1)) (i + (k + 1)) l)
  fields_turn at o p q e f =
      let place : at + 5 * k + 1 + 4 ≡ at + 5 * (k + 1) = omega arith in
      ap (sets o (at + 5 * k)) fields_open
      ∙ (ap (λ m. sets (set o (at + 5 * k) tab) m (word_text (get_or l (i + k) 0) ++ fields (n - (k + 1)) (i + (k + 1)) l)) (sym (add-one (at + 5 * k)))
      ∙ (sets_then (set o (at + 5 * k) tab) (at + 5 * k + 1) (word_text (get_or l (i + k) 0)) (fields (n - (k + 1)) (i + (k + 1)) l) 4 (length_word_text (get_or l (i + k) 0))
      ∙ rw (place, f, e)))

pub fields_done : (n i k at : ℕ) (l o : List ℕ) → n ≤ k → sets o (at + 5 * k) (fields (n - k) (i + k) l) ≡ o
unfolding fields
fields_done n i k at l o h = let none : n - k ≡ 0 = omega arith in rw none

pub fields_all : (n i at : ℕ) (l o : List ℕ) → sets o at (fields n i l) ≡ sets o (at + 5 * 0) (fields (n - 0) (i + 0) l)
fields_all n i at l o =
    let place : at + 5 * 0 ≡ at = omega arith in
    let all : n - 0 ≡ n = omega arith in
    rw (place, all, add-zero i)

module _ (address n i at : ℕ) (l o p q r : List ℕ) where
  pub line_put : p ≡ sets o at (word_text address) → q ≡ sets p (at + 4) (fields n i l) → r ≡ set q (at + 4 + 5 * n) lf → r ≡ sets o at (line_text address n i l)
  unfolding line_text
  line_put e f g =
      sym (sets_then o at (word_text address) (fields n i l ++ lf ∷ []) 4 (length_word_text address)
      ∙ (sets_then (sets o at (word_text address)) (at + 4) (fields n i l) (lf ∷ []) (5 * n) (length_fields n i l)
      ∙ rw (g, f, e)))

-- words by themselves, and where they stand in a longer list
module _ (l s : List ℕ) where
  fields_part : (n i j : ℕ) → ((k : ℕ) → k < n → get_or s (j + k) 0 ≡ get_or l (i + k) 0) → fields n j s ≡ fields n i l
  unfolding fields
  fields_part zero i j h = refl
  fields_part (suc n) i j h =
      let first : get_or s j 0 ≡ get_or l i 0 = rw (add-zero j, add-zero i) at (h 0 (omega arith)) in
      let rest : fields n (j + 1) s ≡ fields n (i + 1) l =
      fields_part n (i + 1) (j + 1) (λ k q. let a : j + 1 + k ≡ j + (k + 1) = omega arith in let b : i + 1 + k ≡ i + (k + 1) = omega arith in rw (a, b) (h (k + 1) (omega arith))) in
      (λ x. tab ∷ (word_text (first x) ++ rest x))

  line_part : (address n i : ℕ) → ((k : ℕ) → k < n → get_or s k 0 ≡ get_or l (i + k) 0) → line_text address n 0 s ≡ line_text address n i l
  unfolding line_text
  line_part address n i h = ap (λ f. word_text address ++ (f ++ lf ∷ [])) (fields_part n i 0 (λ k q. rw (zero-add k) (h k q)))

  lines_part : (n k : ℕ) → ((i : ℕ) → i < 8 * (k + n) → get_or s i 0 ≡ get_or l i 0) → program_lines n k s ≡ program_lines n k l
  unfolding program_lines line_text
  lines_part zero k h = refl
  lines_part (suc n) k h =
      let here : fields 8 (8 * k) s ≡ fields 8 (8 * k) l = fields_part 8 (8 * k) (8 * k) (λ i q. h (8 * k + i) (omega arith)) in
      let rest : program_lines n (k + 1) s ≡ program_lines n (k + 1) l = lines_part n (k + 1) (λ i q. h i (omega arith)) in
      (λ x. (word_text (8 * k) ++ (here x ++ lf ∷ [])) ++ rest x)

-- eight words more of a list
module _ (l rest eight after : List ℕ) (k : ℕ) (e : rest ≡ drop (8 * k) l) (f : rest ≡ eight ++ after) (long : length eight ≡ 8) where
  pub eight_within : 8 * k + 8 ≤ length l
  eight_within =
      let a : length rest ≡ length l - 8 * k = ap length e ∙ length-drop (8 * k) l in
      let b : length rest ≡ length eight + length after = ap length f ∙ length-append eight after in
      omega arith

  pub eight_after : after ≡ drop (8 * (k + 1)) l
  eight_after =
      let place : 8 * k + 8 ≡ 8 * (k + 1) = omega arith in
      sym (drop-append_seam eight after) ∙ (λ i. drop (long i) ((sym f ∙ e) i)) ∙ (drop-drop 8 (8 * k) l ∙ ap (λ n. drop n l) place)

  pub eight_line : line_text (8 * k) (length eight) 0 eight ≡ line_text (8 * k) 8 (8 * k) l
  eight_line =
      rw long
      (line_part l eight (8 * k) 8 (8 * k)
      (λ i q. sym (get_or_append_left eight after 0 i (omega arith)) ∙ (ap (λ x. get_or x i 0) (sym f ∙ e) ∙ get_or-drop (8 * k) l i 0)))

module _ (at n k : ℕ) (l o p : List ℕ) (h : k < n) where
  pub lines_turn : p ≡ sets o (at + 45 * k) (line_text (8 * k) 8 (8 * k) l) → sets o (at + 45 * k) (program_lines (n - k) k l) ≡ sets p (at + 45 * (k + 1)) (program_lines (n - (k + 1)) (k + 1) l)
  unfolding program_lines
  lines_turn e =
      let more : n - k ≡ suc (n - (k + 1)) = omega arith in
      let place : at + 45 * k + 45 ≡ at + 45 * (k + 1) = omega arith in
      ap (λ m. sets o (at + 45 * k) (program_lines m k l)) more
      ∙ (sets_then o (at + 45 * k) (line_text (8 * k) 8 (8 * k) l) (program_lines (n - (k + 1)) (k + 1) l) 45 (length_line (8 * k) 8 (8 * k) l)
      ∙ rw (place, e))

pub lines_done : (at n k : ℕ) (l o : List ℕ) → n ≤ k → sets o (at + 45 * k) (program_lines (n - k) k l) ≡ o
unfolding program_lines
lines_done at n k l o h = let none : n - k ≡ 0 = omega arith in rw none

pub lines_all : (at n : ℕ) (l o : List ℕ) → sets o at (program_lines n 0 l) ≡ sets o (at + 45 * 0) (program_lines (n - 0) 0 l)
lines_all at n l o =
    let place : at + 45 * 0 ≡ at = omega arith in
    let all : n - 0 ≡ n = omega arith in
    rw (place, all)

-- ---- the lines after line 1: the program lines, the last line

module _ (at words : ℕ) (l program config o p q : List ℕ) (long : length l ≡ words + reading_tail) (first : program ≡ take words l) (last : config ≡ drop words l) where
  program_long : length program ≡ words
  program_long = ap length first ∙ length-take-le words l (omega arith)

  config_long : length config ≡ reading_tail
  config_long = ap length last ∙ length-drop words l ∙ omega arith

  pub body_put : p ≡ sets o at (program_lines (length program / 8) 0 program) → q ≡ sets p (at + 45 * (length program / 8)) (line_text config_base (length config) 0 config)
      → q ≡ sets o at (body_text words l)
  unfolding body_text
  body_put e f =
      let rows : program_lines (length program / 8) 0 program ≡ program_lines (words / 8) 0 l =
      rw program_long (lines_part l program (words / 8) 0 (λ i h. ap (λ x. get_or x i 0) first ∙ get_or-take words l i 0 (omega arith))) in
      let tail : line_text config_base (length config) 0 config ≡ line_text config_base reading_tail words l =
      rw config_long (line_part l config config_base reading_tail words (λ k h. ap (λ x. get_or x k 0) last ∙ get_or-drop words l k 0)) in
      let place : at + 45 * (length program / 8) ≡ at + 45 * (words / 8) = ap (λ n. at + 45 * (n / 8)) program_long in
      let e' : p ≡ sets o at (program_lines (words / 8) 0 l) = e ∙ ap (sets o at) rows in
      let f' : q ≡ sets p (at + 45 * (words / 8)) (line_text config_base reading_tail words l) = f ∙ (λ i. sets p (place i) (tail i)) in
      sym (sets_then o at (program_lines (words / 8) 0 l) (line_text config_base reading_tail words l) (45 * (words / 8)) (length_lines (words / 8) 0 l) ∙ rw (f', e'))

-- ---- line 1

-- the old form's, and the other lines after it
module _ (d : Device) (l o p q r : List ℕ) where
  pub sheet_put : p ≡ sets o 0 (word_text d.id) → q ≡ set p 4 lf → r ≡ sets q 5 (body_text d.words l) → r ≡ sets o 0 (sheet_text d l)
  unfolding sheet_text sheet_with old_line
  sheet_put e f g =
      sym (ap (sets o 0) (append_assoc (word_text d.id) (lf ∷ []) (body_text d.words l))
      ∙ (sets_then o 0 (word_text d.id) (lf ∷ body_text d.words l) 4 (length_word_text d.id) ∙ rw (g, f, e)))

-- the new form's
pub sum_put : (at sum : ℕ) (o p q r : List ℕ) → p ≡ set o at tab → q ≡ sets p (at + 1) (word_text sum) → r ≡ set q (at + 5) lf → r ≡ sets o at (tab ∷ (word_text sum ++ (lf ∷ [])))
sum_put at sum o p q r e f g =
    let place : at + 1 + 4 ≡ at + 5 = omega arith in
    sym (ap (λ m. sets (set o at tab) m (word_text sum ++ (lf ∷ []))) (sym (add-one at))
    ∙ (sets_then (set o at tab) (at + 1) (word_text sum) (lf ∷ []) 4 (length_word_text sum) ∙ rw (place, g, f, e)))

module _ (id sum : ℕ) (name o p q r s : List ℕ) where
  pub first_put : p ≡ sets o 0 (word_text id) → q ≡ set p 4 tab → r ≡ sets q 5 name → s ≡ sets r (5 + length name) (tab ∷ (word_text sum ++ (lf ∷ []))) → s ≡ sets o 0 (new_line id name sum)
  unfolding new_line
  first_put e f g h =
      let last : List ℕ = tab ∷ (word_text sum ++ (lf ∷ [])) in
      sym (sets_then o 0 (word_text id) (tab ∷ (name ++ last)) 4 (length_word_text id)
      ∙ (sets_then (set (sets o 0 (word_text id)) 4 tab) 5 name last (length name) refl ∙ rw (h, g, f, e)))

-- a text stored where it fits, as the kit copies it
pub name_put : (name o p q : List ℕ) → 5 + length name ≤ length o → p ≡ take (length name) name ++ drop (length name) (take (length o - 5) (drop 5 o))
    → q ≡ take 5 o ++ (p ++ drop (length o - 5) (drop 5 o)) → q ≡ sets o 5 name
name_put name o p q h e f =
    let rest : take (length o - 5) (drop 5 o) ≡ drop 5 o = take_all (length o - 5) (drop 5 o) (rw length-drop (omega arith)) in
    let all : length (drop 5 o) ≤ length o - 5 = rw length-drop (omega arith) in
    let none : drop (length o - 5) (drop 5 o) ≡ [] = drop_of_length-le (drop 5 o) all in
    let copied : p ≡ name ++ drop (5 + length name) o = e ∙ (λ i. take-length name i ++ (ap (drop (length name)) rest ∙ drop-drop (length name) 5 o) i) in
    f ∙ ((λ i. take 5 o ++ (copied i ++ none i))
    ∙ (ap (λ x. take 5 o ++ x) (append-nil (name ++ drop (5 + length name) o))
    ∙ sym (sets-eq name o 5 h ∙ append_assoc (take 5 o) name (drop (5 + length name) o))))

-- the same where just the name's places are lent
pub name_copied : (name o p q : List ℕ) → 5 + length name ≤ length o → p ≡ name → q ≡ take 5 o ++ (p ++ drop (5 + length name - 5) (drop 5 o)) → q ≡ sets o 5 name
name_copied name o p q h e f =
    let count : 5 + length name - 5 ≡ length name = omega arith in
    f ∙ ((λ i. take 5 o ++ (e i ++ (ap (λ k. drop k (drop 5 o)) count ∙ drop-drop (length name) 5 o) i))
    ∙ sym (sets-eq name o 5 h ∙ append_assoc (take 5 o) name (drop (5 + length name) o)))

-- line 1 and the other lines
pub then_put : (line body o p q : List ℕ) (n : ℕ) → length line ≡ n → p ≡ sets o 0 line → q ≡ sets p n body → q ≡ sets o 0 (line ++ body)
then_put line body o p q n e f g = sym (sets_then o 0 line body n e ∙ rw (zero-add, g, f))

-- a record whose ID is another writes the same words with that ID
pub with_text : (d : Device) (id : ℕ) (l : List ℕ) → sheet_text (with_id d id) l ≡ sheet_with id d l
unfolding sheet_text sheet_with
with_text d id l = refl

pub with_new : (d : Device) (id : ℕ) (name l : List ℕ) → new_text (with_id d id) name l ≡ new_with id name (checksum_of d l) d l
unfolding new_text new_with checksum_of config_sum
with_new d id name l = refl

-- ---- lengths

pub length_with : (id : ℕ) (d : Device) (l : List ℕ) → length (sheet_with id d l) ≡ sheet_length d
unfolding sheet_with sheet_length
length_with id d l = rw (length-append, length_old, length_body)

pub length_sheet : (d : Device) (l : List ℕ) → length (sheet_text d l) ≡ sheet_length d
unfolding sheet_text
length_sheet d l = length_with d.id d l

pub length_new_with : (id : ℕ) (name : List ℕ) (sum : ℕ) (d : Device) (l : List ℕ) → length (new_with id name sum d l) ≡ new_length d name
unfolding new_with new_length
length_new_with id name sum d l = rw (length-append, length_new, length_body)

pub length_new_sheet : (d : Device) (name l : List ℕ) → length (new_text d name l) ≡ new_length d name
unfolding new_text
length_new_sheet d name l = length_new_with d.id name (checksum_of d l) d l

-- ---- the answers of the writer in the old form

-- what a call leaves: its answer and the text
abbrev pub Wrote : Device → (l out : List ℕ) → Written → List ℕ → Type 0
Wrote d l out r after = (r ≡ written d l out) × (after ≡ written_text d l out)

module _ (d : Device) (l out : List ℕ) where
  -- no more is written than there is room for, whatever the record and the reading
  pub written_short : (w : Written) → w ≡ written d l out → w.length ≤ length out
  unfolding written
  written_short w e = rw e (by (device_ok d) (reading_ok d.words l) (leb (sheet_length d) (length out)) (leb-true (sheet_length d) (length out)))
    where
      by : (a b c : Bool) → (c ≡ true → sheet_length d ≤ length out)
          → (pick {A = Written} a
          (pick b (pick c (record { number = 0; length = sheet_length d }) (record { number = 26; length = 0 })) (record { number = 21; length = 0 }))
          (record { number = 13; length = 0 })).length ≤ length out
      by true true true r = unfold pick in r refl
      by true true false r = unfold pick in omega arith
      by true false c r = unfold pick in omega arith
      by false b c r = unfold pick in omega arith

  pub refused_record : (n : ℕ) → 0 < n → n ≡ record_number d → Wrote d l out (record { number = n; length = 0 }) out
  unfolding written written_text pick
  refused_record n h e =
      let bad : Rules d → ⊥ = λ r. let z : 0 ≡ record_number d = judged_good d r in omega arith in
      let f : device_ok d ≡ false = breaks d bad in
      let same : n ≡ 13 = e ∙ sym (judged_bad d bad) in
      (rw (f, same), rw f)

  module _ (t : device_ok d ≡ true) where
    pub refused_reading : reading_ok d.words l ≡ false → Wrote d l out (record { number = 21; length = 0 }) out
    unfolding written written_text pick
    refused_reading f = (rw (t, f), rw (t, f))

    module _ (u : reading_ok d.words l ≡ true) where
      pub refused_short : length out < sheet_length d → Wrote d l out (record { number = 26; length = 0 }) out
      unfolding written written_text pick
      refused_short h =
          let f : leb (sheet_length d) (length out) ≡ false = lt-leb (sheet_length d) (length out) h in
          (rw (t, u, f), rw (t, u, f))

      pub all_written : sheet_length d ≤ length out → (n : ℕ) → n ≡ sheet_length d → (after : List ℕ) → after ≡ sets out 0 (sheet_text d l) → Wrote d l out (record { number = 0; length = n }) after
      unfolding written written_text pick
      all_written h n e after w =
          let v : leb (sheet_length d) (length out) ≡ true = le-leb (sheet_length d) (length out) h in
          (rw (t, u, v, e), rw (t, u, v) w)

-- ---- the answers of the writer in the new form

abbrev pub WroteNew : Device → (name l out : List ℕ) → Written → List ℕ → Type 0
WroteNew d name l out r after = (r ≡ new_written d name l out) × (after ≡ new_written_text d name l out)

module _ (d : Device) (name l out : List ℕ) where
  new_13 : (device_ok d && name_ok name) ≡ false → WroteNew d name l out (record { number = 13; length = 0 }) out
  unfolding new_written new_written_text pick
  new_13 f = (rw f, rw f)

  new_21 : (device_ok d && name_ok name) ≡ true → reading_ok d.words l ≡ false → WroteNew d name l out (record { number = 21; length = 0 }) out
  unfolding new_written new_written_text pick
  new_21 t f = (rw (t, f), rw (t, f))

  pub new_no_name : name_ok name ≡ false → WroteNew d name l out (record { number = 13; length = 0 }) out
  new_no_name f = new_13 (second_fails (device_ok d) (name_ok name) f)

  -- a record or a reading that the checksum refuses
  pub new_refused : name_ok name ≡ true → (e : Refusal) → sum_told (Err e) ≡ summed d l → WroteNew d name l out (record { number = number_of e; length = 0 }) out
  new_refused n e is =
      by_test (device_ok d)
      (λ y. by_test (reading_ok d.words l)
      (λ z. let none : number_of e ≡ 0 = ap (λ x. x.number) (is ∙ summed_0 d l y z) in absurd (omega (arith, number_of_positive e)))
      (λ f. let same : number_of e ≡ 21 = ap (λ x. x.number) (is ∙ summed_21 d l y f) in rw same (new_21 (both (device_ok d) (name_ok name) y n) f)))
      (λ f. let same : number_of e ≡ 13 = ap (λ x. x.number) (is ∙ summed_13 d l f) in rw same (new_13 (first_fails (device_ok d) (name_ok name) f)))

  module _ (named : name_ok name ≡ true) (sum : ℕ) (is : sum_told (Ok sum) ≡ summed d l) where
    new_sound : (device_ok d ≡ true) × (reading_ok d.words l ≡ true) × (sum ≡ checksum_of d l)
    new_sound =
        by_test (device_ok d)
        (λ y. by_test (reading_ok d.words l)
        (λ z. (y, z, ap (λ x. x.sum) (is ∙ summed_0 d l y z)))
        (λ f. absurd (let same : 0 ≡ 21 = ap (λ x. x.number) (is ∙ summed_21 d l y f) in omega arith)))
        (λ f. absurd (let same : 0 ≡ 13 = ap (λ x. x.number) (is ∙ summed_13 d l f) in omega arith))

    pub new_rules : Rules d
    new_rules = rules_lem d new_sound.0

    pub new_reading : reading_ok d.words l ≡ true
    new_reading = new_sound.1

    t : (device_ok d && name_ok name) ≡ true
    t = both (device_ok d) (name_ok name) new_sound.0 named

    pub new_short : length out < new_length d name → WroteNew d name l out (record { number = 26; length = 0 }) out
    unfolding new_written new_written_text pick
    new_short h =
        let f : leb (new_length d name) (length out) ≡ false = lt-leb (new_length d name) (length out) h in
        (rw (t, new_reading, f), rw (t, new_reading, f))

    pub new_all : new_length d name ≤ length out → (n : ℕ) → n ≡ new_length d name → (first after : List ℕ) → first ≡ sets out 0 (new_line d.id name sum)
        → after ≡ sets first (11 + length name) (body_text d.words l) → WroteNew d name l out (record { number = 0; length = n }) after
    unfolding new_written new_written_text new_text new_with pick
    new_all h n e first after w v =
        let y : leb (new_length d name) (length out) ≡ true = le-leb (new_length d name) (length out) h in
        let whole : after ≡ sets out 0 (new_line d.id name (checksum_of d l) ++ body_text d.words l) =
        then_put (new_line d.id name sum) (body_text d.words l) out first after (11 + length name) (length_new d.id name sum) w v
        ∙ ap (λ x. sets out 0 (new_line d.id name x ++ body_text d.words l)) new_sound.2 in
        (rw (t, new_reading, y, e), rw (t, new_reading, y) whole)

-- ---- two answers that are told alike are equal

pub written_told_unique : (a b : Result ℕ Refusal) → written_told a ≡ written_told b → a ≡ b
written_told_unique a b e = answer_unique 0 a b (ap (λ x. x.number) e) (ap (λ x. x.length) e)
