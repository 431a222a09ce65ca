-- Laws of the lines that are printed: each made of its parts, and how long it is at most.
use Rattle.std.specs.Prelude.{ℕ, ◌≤◌, ◌≡◌, refl, Bool, true, List, [], ◌∷◌, ◌++◌, eqb}
use native.Mathlib.Omega.{arith}
use Rattle.std.proofs.Math.Path.{ap}
use Rattle.std.proofs.Common.{◌∙◌, append_assoc, eq-eqb, ne_eqb, eqb-true}
use Rattle.std.proofs.Math.Bool.{false}
use Rattle.std.proofs.Math.ListN.{length, length-append}
use Rattle.words.specs.Choice.{pick}
use Rattle.numerals.specs.Text.{tab, lf}
use Rattle.numerals.specs.Hex.{word_text}
use Rattle.numerals.specs.LawsHex.{length_word_text}
use Rattle.print.specs.Print.{decimal_text, refused_text, sum_text, verdict_text, Prints}
use Rattle.print.specs.LawsPrint.{Wrote, part, prints, wrote_as, wrote_then, length_decimal}

-- ---- a refusal

-- its first field and the tab after it
abbrev pub refused_head : List ℕ
refused_head = 0x72 ∷ 0x65 ∷ 0x66 ∷ 0x75 ∷ 0x73 ∷ 0x65 ∷ 0x64 ∷ tab ∷ []

pub refused_end : (out : List ℕ) (r : ℕ) (out' : List ℕ) → Prints refused_head out r out' → r ≡ 8
refused_end out r out' p = p.count

module _ (number line column : ℕ) where
  -- the fields after the number, and all after the first
  abbrev line_on : List ℕ
  line_on = (decimal_text line ++ tab ∷ []) ++ (decimal_text column ++ lf ∷ [])

  abbrev number_on : List ℕ
  number_on = (decimal_text number ++ tab ∷ []) ++ line_on

  refused_parts : refused_head ++ number_on ≡ refused_text number line column
  unfolding refused_text
  refused_parts =
      ap (λ x. refused_head ++ x) (append_assoc (decimal_text number) (tab ∷ []) line_on)
      ∙ ap (λ x. refused_head ++ (decimal_text number ++ tab ∷ x)) (append_assoc (decimal_text line) (tab ∷ []) (decimal_text column ++ lf ∷ []))

  pub refused_printed : (out a b c e : List ℕ) (r s t u : ℕ) → Prints refused_head out r a → Wrote r (decimal_text number ++ tab ∷ []) a s b
      → Wrote s (decimal_text line ++ tab ∷ []) b t c → Wrote t (decimal_text column ++ lf ∷ []) c u e → Prints (refused_text number line column) out u e
  refused_printed out a b c e r s t u p q v w =
      prints (refused_text number line column) out u e
      (wrote_as 0 out (refused_head ++ number_on) (refused_text number line column) u e refused_parts
      (wrote_then 0 out refused_head number_on r u a e (part refused_head out r a p)
      (wrote_then r a (decimal_text number ++ tab ∷ []) line_on s u b e q
      (wrote_then s b (decimal_text line ++ tab ∷ []) (decimal_text column ++ lf ∷ []) t u c e v w))))

  pub refused_short : length (refused_text number line column) ≤ 41
  unfolding refused_text
  refused_short =
      let a : length (decimal_text number) ≤ 10 = length_decimal number in
      let b : length (decimal_text line) ≤ 10 = length_decimal line in
      let c : length (decimal_text column) ≤ 10 = length_decimal column in
      rw (
        length-append (decimal_text number) (tab ∷ (decimal_text line ++ tab ∷ (decimal_text column ++ lf ∷ []))),
        length-append (decimal_text line) (tab ∷ (decimal_text column ++ lf ∷ [])),
        length-append (decimal_text column) (lf ∷ []),
      ) (omega arith)

-- a text, or a refusal
pub either_short : (most : ℕ) → 41 ≤ most → (number line column : ℕ) (text : List ℕ) → (number ≡ 0 → length text ≤ most)
    → length (pick (eqb number 0) text (refused_text number line column)) ≤ most
either_short most room number line column text short = by (eqb number 0) refl
  where
    by : (b : Bool) → eqb number 0 ≡ b → length (pick b text (refused_text number line column)) ≤ most
    by true e = unfold pick in short (eqb-true number 0 e)
    by false e = unfold pick in let a : length (refused_text number line column) ≤ 41 = refused_short number line column in omega arith

-- ---- a checksum

pub sum_printed : (word : ℕ) (out : List ℕ) (r : ℕ) (out' : List ℕ) → Wrote 0 (word_text word ++ lf ∷ []) out r out' → Prints (sum_text word) out r out'
unfolding sum_text
sum_printed word out r out' p = prints (word_text word ++ lf ∷ []) out r out' p

pub sum_short : (word : ℕ) → length (sum_text word) ≤ 30
unfolding sum_text
sum_short word = rw (length-append (word_text word) (lf ∷ []), length_word_text) (omega arith)

-- ---- a verdict

module _ (number address count : ℕ) where
  verdict_parts : number ≡ 40 → (decimal_text 40 ++ tab ∷ []) ++ ((word_text address ++ tab ∷ []) ++ (decimal_text count ++ lf ∷ [])) ≡ verdict_text number address count
  unfolding verdict_text pick
  verdict_parts e =
      rw (eq-eqb number 40 e)
      (append_assoc (decimal_text 40) (tab ∷ []) ((word_text address ++ tab ∷ []) ++ (decimal_text count ++ lf ∷ []))
      ∙ ap (λ x. decimal_text 40 ++ tab ∷ x) (append_assoc (word_text address) (tab ∷ []) (decimal_text count ++ lf ∷ [])))

  verdict_other : (number ≡ 40 → ⊥) → decimal_text number ++ lf ∷ [] ≡ verdict_text number address count
  unfolding verdict_text pick
  verdict_other n = rw (ne_eqb number 40 n)

  pub verdict_40 : number ≡ 40 → (out a b c : List ℕ) (r s t : ℕ) → Wrote 0 (decimal_text 40 ++ tab ∷ []) out r a → Wrote r (word_text address ++ tab ∷ []) a s b
      → Wrote s (decimal_text count ++ lf ∷ []) b t c → Prints (verdict_text number address count) out t c
  verdict_40 e out a b c r s t p q u =
      prints (verdict_text number address count) out t c
      (wrote_as 0 out ((decimal_text 40 ++ tab ∷ []) ++ ((word_text address ++ tab ∷ []) ++ (decimal_text count ++ lf ∷ []))) (verdict_text number address count) t c (verdict_parts e)
      (wrote_then 0 out (decimal_text 40 ++ tab ∷ []) ((word_text address ++ tab ∷ []) ++ (decimal_text count ++ lf ∷ [])) r t a c p
      (wrote_then r a (word_text address ++ tab ∷ []) (decimal_text count ++ lf ∷ []) s t b c q u)))

  pub verdict_alone : (number ≡ 40 → ⊥) → (out : List ℕ) (r : ℕ) (out' : List ℕ) → Wrote 0 (decimal_text number ++ lf ∷ []) out r out' → Prints (verdict_text number address count) out r out'
  verdict_alone n out r out' p =
      prints (verdict_text number address count) out r out'
      (wrote_as 0 out (decimal_text number ++ lf ∷ []) (verdict_text number address count) r out' (verdict_other n) p)

  pub verdict_short : length (verdict_text number address count) ≤ 30
  unfolding verdict_text
  verdict_short = by (eqb number 40)
    where
      bare : (n : ℕ) → length (decimal_text n ++ lf ∷ []) ≤ 11
      bare n = let a : length (decimal_text n) ≤ 10 = length_decimal n in rw (length-append (decimal_text n) (lf ∷ [])) (omega arith)

      placed : length (word_text address ++ tab ∷ (decimal_text count ++ lf ∷ [])) ≤ 16
      placed =
          let a : length (decimal_text count ++ lf ∷ []) ≤ 11 = bare count in
          rw (length-append (word_text address) (tab ∷ (decimal_text count ++ lf ∷ [])), length_word_text) (omega arith)

      whole : length (decimal_text 40 ++ tab ∷ (word_text address ++ tab ∷ (decimal_text count ++ lf ∷ []))) ≤ 30
      whole =
          let a : length (decimal_text 40) ≤ 10 = length_decimal 40 in
          let b : length (word_text address ++ tab ∷ (decimal_text count ++ lf ∷ [])) ≤ 16 = placed in
          rw (length-append (decimal_text 40) (tab ∷ (word_text address ++ tab ∷ (decimal_text count ++ lf ∷ [])))) (omega arith)

      by : (b : Bool) → length (pick b (decimal_text 40 ++ tab ∷ (word_text address ++ tab ∷ (decimal_text count ++ lf ∷ []))) (decimal_text number ++ lf ∷ [])) ≤ 30
      by true = unfold pick in whole
      by false = unfold pick in let a : length (decimal_text number ++ lf ∷ []) ≤ 11 = bare number in omega arith
