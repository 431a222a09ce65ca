-- Laws of a table's line: what its five or six tabs cut it into, and its rules as rules of the numbers read.
use Rattle.std.specs.Prelude.{ℕ, suc, ◌+◌, ◌*◌, ◌≤◌, ◌<◌, ◌≡◌, Bool, true, false, ◌&&◌, ◌||◌, Option, Some, None, Result, Ok, Err, List, [], ◌∷◌, ltb, leb, eqb, length, refl}
use Rattle.std.specs.List.{list_all}
use Rattle.std.specs.Int.Bits.{bit_and, and_zero_r}
use Rattle.std.specs.Result.{result_ok}
use Rattle.std.specs.Option.{MatchOption, is_some}
use Rattle.std.proofs.Common.{sym, ap, arith, ◌∙◌, unwrap_or}
use Rattle.std.proofs.Math.Nat.{mul-le-mul_left}
use Rattle.std.proofs.lemmas.Nat.{and_le_l, and_comm}
use Rattle.std.proofs.lemmas.Nat.Bits.{and_pow, bit_at_above}
use borrow.Author.Tests.{lt-ltb, le-ltb, eq-eqb, ne_eqb, le-leb, lt-leb}
use Rattle.words.specs.Choice.{pick, below}
use Rattle.words.specs.Word.{erased}
use Rattle.words.specs.LawsChoice.{pick_true, pick_false, true_not_false}
use Rattle.words.specs.LawsTests.{by_lt, fails}
use Rattle.numerals.specs.Text.{tab, split, in_front}
use Rattle.numerals.specs.Hex.{within, capital_of, joined, byte_by, word_by}
use Rattle.numerals.specs.Decimal.{is_decimal, value_of, decimal_of}
use Rattle.numerals.specs.LawsText.{some_piece}
use Rattle.numerals.specs.LawsDecimal.{decimal_read, decimal_value}
use Rattle.refusal.specs.Refusal.{number_in}
use Rattle.refusal.specs.declared.Refusal.{Refusal}
use Rattle.refusal.specs.LawsRefusal.{number_of_positive}
use Rattle.device.specs.declared.Device.{Device}
use Rattle.device.specs.Record.{most_words, device_ok, record_number}
use Rattle.device.specs.LawsRecord.{Rules, Row, ok_of_judged, bad_of_judged, rules_lem, row as row_rule}
use Rattle.table.specs.Table.{field, all_printable, name_ok, hex_field, hex_ok, id_of, id_mask_of, device_of, count_ok, line_up_to, clash}
use Rattle.table.specs.LawsPieces.{Parted}

-- ---- results of the code's parts

-- a character of a name
abbrev pub printable : ℕ → Bool
printable c = leb 0x20 c && leb c 0x7e

-- a mask of every bit, as text
abbrev pub every_bit : List ℕ
every_bit = 0x33 ∷ 0x46 ∷ 0x46 ∷ 0x46 ∷ []

-- a line has six fields or seven
unfoldable pub six_or_seven : List ℕ → Bool
six_or_seven line = eqb (length (split tab line)) 6 || eqb (length (split tab line)) 7

-- the fields of a line that has six or seven, a text of every bit where it has six
pub record Seven (line name id words row mask1 mask2 idmask : List ℕ) : Type 0 where
  pub name_is : field 0 line ≡ name
  pub id_is : field 1 line ≡ id
  pub words_is : field 2 line ≡ words
  pub row_is : field 3 line ≡ row
  pub mask1_is : field 4 line ≡ mask1
  pub mask2_is : field 5 line ≡ mask2
  pub count_is : count_ok line ≡ hex_ok idmask
  pub idmask_is : id_mask_of line ≡ hex_field idmask

-- the device of numbers
abbrev pub device_by : (id words row mask1 mask2 idmask : ℕ) → Device
device_by id words row mask1 mask2 idmask = record { id = id; words = words; row = row; mask1 = mask1; mask2 = mask2; idmask = idmask }

-- the device of fields, which are of their kinds and make one that keeps the rules of a record
pub record Made (id words row mask1 mask2 idmask : List ℕ) (d : Device) : Type 0 where
  pub device_is : d ≡ device_by (hex_field id) (value_of words) (value_of row) (hex_field mask1) (hex_field mask2) (hex_field idmask)
  pub words_decimal : is_decimal words ≡ true
  pub row_decimal : is_decimal row ≡ true
  pub kept : device_ok d ≡ true

abbrev pub NotMade : (id words row mask1 mask2 idmask : List ℕ) → Type 0
NotMade id words row mask1 mask2 idmask = (d : Device) → Made id words row mask1 mask2 idmask d → ⊥

-- a line read that keeps every rule: its device and the length of its name
pub record LineRead (line : List ℕ) (name : ℕ) (d : Device) : Type 0 where
  pub test : line_up_to most_words line ≡ true
  pub device : d ≡ device_of line
  pub named : name ≡ length (field 0 line)

-- ---- numbers below a limit

module _ (limit n : ℕ) where
  pub below_low : n < limit → below limit n ≡ Some n
  below_low h = pick_true (ltb n limit) (Some n) None (lt-ltb n limit h)

  pub below_high : limit ≤ n → below limit n ≡ None
  below_high h = pick_false (ltb n limit) (Some n) None (le-ltb n limit h)

  pub below_none : below limit n ≡ None → limit ≤ n
  below_none e = by_lt n limit (λ h. let z : Some n ≡ None = sym (below_low h) ∙ e in cc) (λ h. h)

  pub below_some : (k : ℕ) → below limit n ≡ Some k → (n < limit) × (n ≡ k)
  below_some k e =
      by_lt n limit
      (λ h. let z : Some n ≡ Some k = sym (below_low h) ∙ e in (h, cc))
      (λ h. let z : None ≡ Some k = sym (below_high h) ∙ e in cc)

  pub below_fits : (k : ℕ) → below limit n ≡ Some k → k < limit
  below_fits k e = let h = below_some k e in omega arith

-- ---- the answer on a record

module _ (d : Device) where
  pub kept_of_ok : (u : Unit {0}) (r : Result (Unit {0}) Refusal) → number_in r ≡ record_number d → result_ok r ≡ Some u → device_ok d ≡ true
  kept_of_ok u (Ok v) e s = ok_of_judged d (sym e)
  kept_of_ok u (Err f) e s = cc

  pub broken_of_none : (r : Result (Unit {0}) Refusal) → number_in r ≡ record_number d → result_ok r ≡ None → device_ok d ≡ false
  broken_of_none (Ok v) e s = cc
  broken_of_none (Err f) e s = bad_of_judged d (λ z. let p = number_of_positive f in omega arith)

-- ---- a name

all_printable_is : (f : List ℕ) → all_printable f ≡ list_all printable f
unfolding all_printable within
all_printable_is [] = refl
all_printable_is (c ∷ f) = ap (λ t. leb 0x20 c && leb c 0x7e && t) (all_printable_is f)

module _ (f : List ℕ) where
  pub name_other : ((1 ≤ length f) × (length f ≤ 16) → ⊥) → false ≡ name_ok f
  unfolding name_ok
  name_other n =
      by_lt (length f) 1
      (λ h. rw (lt-leb 1 (length f) h))
      (λ h. by_lt 16 (length f) (λ k. rw (lt-leb (length f) 16 k, le-leb 1 (length f) h)) (λ k. absurd (n (h, k))))

  pub name_of : 1 ≤ length f → length f ≤ 16 → list_all printable f ≡ name_ok f
  unfolding name_ok
  name_of p q = rw (le-leb 1 (length f) p, le-leb (length f) 16 q) (sym (all_printable_is f))

-- ---- a field of four digits

joined_small : (limit high low : ℕ) → joined limit high low ≤ limit * limit
unfolding joined
joined_small limit high low =
    by_lt high limit
    (λ h. by_lt low limit
    (λ k. rw (lt-ltb high limit h, lt-ltb low limit k) (unfold pick in omega (arith, mul-le-mul_left limit h)))
    (λ k. rw (lt-ltb high limit h, le-ltb low limit k) (unfold pick in omega arith)))
    (λ h. rw (le-ltb high limit h) (unfold pick in omega arith))

module _ (f : List ℕ) where
  pub hex_four : length f ≡ 4 → hex_field f ≡ word_by capital_of f 0
  unfolding hex_field pick
  hex_four h = rw (eq-eqb (length f) 4 h)

  pub hex_other : (length f ≡ 4 → ⊥) → hex_field f ≡ 65536
  unfolding hex_field pick
  hex_other h = rw (ne_eqb (length f) 4 h)

  hex_most : hex_field f ≤ 65536
  unfolding hex_field word_by
  hex_most = by (eqb (length f) 4)
    where
      by : (t : Bool) → pick t (joined 256 (byte_by capital_of f 0) (byte_by capital_of f 2)) 65536 ≤ 65536
      by true = unfold pick in joined_small 256 _ _
      by false = unfold pick in omega arith

  hex_ok_lem : hex_field f < 0x4000 → hex_ok f ≡ true
  unfolding hex_ok
  hex_ok_lem h = lt-ltb (hex_field f) 65536 (omega arith)

every_bit_lem : hex_field every_bit ≡ erased
unfolding hex_field word_by byte_by joined capital_of within pick
every_bit_lem = refl

-- ---- an option as the code asks it

module _ {A : Type 0} (o : Option A) (P : Type 0) (Q : A → Type 0) where
  -- what holds of the value, or else of the default
  pub of_either : (d r : A) (R : A → Type 0) → r ≡ unwrap_or o d → MatchOption o P Q → (P → R d) → ((x : A) → Q x → R x) → R r
  of_either d r R e m f g = rw e ((elim o as (λ o'. MatchOption o' P Q → R (unwrap_or o' d)) [ None ↦ f | Some x ↦ g x ]) m)

  pub of_none : MatchOption o P Q → is_some o ≡ false → P
  of_none m e = (elim o as (λ o'. MatchOption o' P Q → is_some o' ≡ false → P) [ None ↦ (λ p z. p) | Some x ↦ (λ q z. absurd (true_not_false refl z)) ]) m e

  pub of_some : (R : Type 0) → MatchOption o P Q → is_some o ≡ true → ((x : A) → Q x → R) → R
  of_some R m e g = (elim o as (λ o'. MatchOption o' P Q → is_some o' ≡ true → R) [ None ↦ (λ p z. absurd (true_not_false z refl)) | Some x ↦ (λ q z. g x q) ]) m e

-- ---- the fields of a line

one_piece : (l : List ℕ) → 1 ≤ length (split tab l)
one_piece l = some_piece tab l (λ s. 1 ≤ length s) (λ p ps. omega arith)

-- the text of every bit is one field
pub every_bit_whole : (first rest : List ℕ) → Parted tab every_bit first rest → ⊥
unfolding split in_front pick
every_bit_whole first rest p = let e : length (split tab every_bit) ≡ suc (length (split tab rest)) = ap length p.pieces in let h = one_piece rest in omega arith

-- a piece more
pub more : {line first rest : List ℕ} {n : ℕ} → Parted tab line first rest → length (split tab rest) ≡ n → length (split tab line) ≡ suc n
more p e = ap length p.pieces ∙ ap suc e

pub few : (line : List ℕ) (n : ℕ) → length (split tab line) ≡ n → n < 6 → six_or_seven line ≡ false
unfolding six_or_seven
few line n e h = rw (e, ne_eqb n 6 (λ q. omega arith), ne_eqb n 7 (λ q. omega arith))

-- line after line parted at a tab
module _ (line name rest₁ id rest₂ words rest₃ row rest₄ mask1 rest₅ : List ℕ)
    (p₁ : Parted tab line name rest₁) (p₂ : Parted tab rest₁ id rest₂) (p₃ : Parted tab rest₂ words rest₃) (p₄ : Parted tab rest₃ row rest₄) (p₅ : Parted tab rest₄ mask1 rest₅) where
  five : split tab line ≡ name ∷ id ∷ words ∷ row ∷ mask1 ∷ split tab rest₅
  five = rw (p₁.pieces, p₂.pieces, p₃.pieces, p₄.pieces, p₅.pieces)

  -- six fields: the sixth is the last
  pub six_fields : split tab rest₅ ≡ rest₅ ∷ [] → Seven line name id words row mask1 rest₅ every_bit
  unfolding field count_ok id_mask_of hex_ok pick
  six_fields e =
      let all : split tab line ≡ name ∷ id ∷ words ∷ row ∷ mask1 ∷ rest₅ ∷ [] = five ∙ ap (λ s. name ∷ id ∷ words ∷ row ∷ mask1 ∷ s) e in
      record {
        name_is = rw all;
        id_is = rw all;
        words_is = rw all;
        row_is = rw all;
        mask1_is = rw all;
        mask2_is = rw all;
        count_is = rw (all, every_bit_lem);
        idmask_is = rw (all, every_bit_lem);
      }

  module _ (mask2 idmask : List ℕ) (p₆ : Parted tab rest₅ mask2 idmask) where
    six : split tab line ≡ name ∷ id ∷ words ∷ row ∷ mask1 ∷ mask2 ∷ split tab idmask
    six = five ∙ ap (λ s. name ∷ id ∷ words ∷ row ∷ mask1 ∷ s) p₆.pieces

    pub seven_fields : split tab idmask ≡ idmask ∷ [] → Seven line name id words row mask1 mask2 idmask
    unfolding field count_ok id_mask_of pick
    seven_fields e =
        let all : split tab line ≡ name ∷ id ∷ words ∷ row ∷ mask1 ∷ mask2 ∷ idmask ∷ [] = six ∙ ap (λ s. name ∷ id ∷ words ∷ row ∷ mask1 ∷ mask2 ∷ s) e in
        record {
          name_is = rw all;
          id_is = rw all;
          words_is = rw all;
          row_is = rw all;
          mask1_is = rw all;
          mask2_is = rw all;
          count_is = rw all;
          idmask_is = rw all;
        }

    -- a tab more
    pub many_fields : (first rest : List ℕ) → Parted tab idmask first rest → six_or_seven line ≡ false
    unfolding six_or_seven
    many_fields first rest p =
        rw (six, p.pieces)
        (some_piece tab rest (λ t. (eqb (length (name ∷ id ∷ words ∷ row ∷ mask1 ∷ mask2 ∷ first ∷ t)) 6 || eqb (length (name ∷ id ∷ words ∷ row ∷ mask1 ∷ mask2 ∷ first ∷ t)) 7) ≡ false)
        (λ q t. rw (ne_eqb (suc (suc (suc (suc (suc (suc (suc (suc (length t))))))))) 6 (λ z. omega arith), ne_eqb (suc (suc (suc (suc (suc (suc (suc (suc (length t))))))))) 7 (λ z. omega arith))))

-- ---- the device of the fields

module _ (id words row mask1 mask2 idmask : List ℕ) where
  abbrev pub made_device : Device
  made_device = device_by (hex_field id) (value_of words) (value_of row) (hex_field mask1) (hex_field mask2) (hex_field idmask)

  module _ (d : Device) (m : Made id words row mask1 mask2 idmask d) where
    made_rules : Rules made_device
    made_rules = rules_lem made_device (ap device_ok (sym m.device_is) ∙ m.kept)

  pub no_id : below 65536 (hex_field id) ≡ None → NotMade id words row mask1 mask2 idmask
  no_id e d m = let r = made_rules d m in omega (arith, below_none _ _ e, r.id_word)

  pub no_words : below (most_words + 1) (decimal_of most_words words) ≡ None → NotMade id words row mask1 mask2 idmask
  no_words e d m =
      let r = made_rules d m in
      omega (arith, below_none _ _ e, decimal_value most_words words m.words_decimal r.most, r.most)

  pub no_row : below (32 + 1) (decimal_of 32 row) ≡ None → NotMade id words row mask1 mask2 idmask
  no_row e d m =
      let r = made_rules d m in
      let v : Row (value_of row) = row_rule (value_of row) r.row_is in
      omega (arith, below_none _ _ e, decimal_value 32 row m.row_decimal v.high)

  pub no_mask1 : below 65536 (hex_field mask1) ≡ None → NotMade id words row mask1 mask2 idmask
  no_mask1 e d m = let r = made_rules d m in omega (arith, below_none _ _ e, r.mask1_word)

  pub no_mask2 : below 65536 (hex_field mask2) ≡ None → NotMade id words row mask1 mask2 idmask
  no_mask2 e d m = let r = made_rules d m in omega (arith, below_none _ _ e, r.mask2_word)

  pub no_idmask : below 65536 (hex_field idmask) ≡ None → NotMade id words row mask1 mask2 idmask
  no_idmask e d m = let r = made_rules d m in omega (arith, below_none _ _ e, r.idmask_word)

  -- every field is a number
  module _ (i w r a b k : ℕ) (iₑ : below 65536 (hex_field id) ≡ Some i) (wₑ : below (most_words + 1) (decimal_of most_words words) ≡ Some w) (rₑ : below (32 + 1) (decimal_of 32 row) ≡ Some r)
      (aₑ : below 65536 (hex_field mask1) ≡ Some a) (bₑ : below 65536 (hex_field mask2) ≡ Some b) (kₑ : below 65536 (hex_field idmask) ≡ Some k) where
    words_read : (is_decimal words ≡ true) × (decimal_of most_words words ≡ value_of words)
    words_read = decimal_read most_words words (omega (arith, (below_some _ _ _ wₑ).0))

    row_read : (is_decimal row ≡ true) × (decimal_of 32 row ≡ value_of row)
    row_read = decimal_read 32 row (omega (arith, (below_some _ _ _ rₑ).0))

    numbers : device_by i w r a b k ≡ made_device
    numbers =
        rw (← (below_some _ _ _ iₑ).1, ← (below_some _ _ _ wₑ).1, ← (below_some _ _ _ rₑ).1, ← (below_some _ _ _ aₑ).1, ← (below_some _ _ _ bₑ).1, ← (below_some _ _ _ kₑ).1, words_read.1, row_read.1)

    pub made : device_ok (device_by i w r a b k) ≡ true → Made id words row mask1 mask2 idmask (device_by i w r a b k)
    made e = record { device_is = numbers; words_decimal = words_read.0; row_decimal = row_read.0; kept = e }

    pub no_rules : device_ok (device_by i w r a b k) ≡ false → NotMade id words row mask1 mask2 idmask
    no_rules f d m = true_not_false m.kept (ap device_ok (m.device_is ∙ sym numbers) ∙ f)

-- ---- a whole line

eight : (a b c d e f g h : Bool) → (a && b && c && d && e && f && g && h) ≡ true → (b ≡ true) × (d ≡ true) × (e ≡ true) × (h ≡ true)
eight true true true true true true true h q = (refl, refl, refl, q)
eight true true true true true true false h q = absurd (true_not_false q refl)
eight true true true true true false g h q = absurd (true_not_false q refl)
eight true true true true false f g h q = absurd (true_not_false q refl)
eight true true true false e f g h q = absurd (true_not_false q refl)
eight true true false d e f g h q = absurd (true_not_false q refl)
eight true false c d e f g h q = absurd (true_not_false q refl)
eight false b c d e f g h q = absurd (true_not_false q refl)

module _ (line name id words row mask1 mask2 idmask : List ℕ) (s : Seven line name id words row mask1 mask2 idmask) where
  line_is : line_up_to most_words line ≡ (hex_ok idmask && name_ok name && hex_ok id && is_decimal words && is_decimal row && hex_ok mask1 && hex_ok mask2 && device_ok (made_device id words row mask1 mask2 idmask))
  unfolding line_up_to device_of device_ok id_of
  line_is = rw (s.count_is, s.name_is, s.id_is, s.words_is, s.row_is, s.mask1_is, s.mask2_is, s.idmask_is)

  kinds : line_up_to most_words line ≡ true → (name_ok name ≡ true) × (is_decimal words ≡ true) × (is_decimal row ≡ true) × (device_ok (made_device id words row mask1 mask2 idmask) ≡ true)
  kinds e = eight (hex_ok idmask) (name_ok name) (hex_ok id) (is_decimal words) (is_decimal row) (hex_ok mask1) (hex_ok mask2) (device_ok (made_device id words row mask1 mask2 idmask)) (sym line_is ∙ e)

  pub no_name : name_ok name ≡ false → line_up_to most_words line ≡ false
  no_name f = fails _ (λ e. true_not_false (kinds e).0 f)

  pub no_device : NotMade id words row mask1 mask2 idmask → line_up_to most_words line ≡ false
  no_device n =
      fails _ (λ e. let h = kinds e in
      n (made_device id words row mask1 mask2 idmask) (record { device_is = refl; words_decimal = h.1; row_decimal = h.2; kept = h.3 }))

  device_same : made_device id words row mask1 mask2 idmask ≡ device_of line
  unfolding device_of id_of
  device_same = rw (s.id_is, s.words_is, s.row_is, s.mask1_is, s.mask2_is, s.idmask_is)

  pub whole_line : (d : Device) → name_ok name ≡ true → Made id words row mask1 mask2 idmask d → LineRead line (length name) d
  whole_line d n m =
      let r = made_rules _ _ _ _ _ _ d m in
      record {
        test = line_is ∙ (rw (hex_ok_lem idmask r.idmask_word, n, hex_ok_lem id r.id_word, m.words_decimal, m.row_decimal, hex_ok_lem mask1 r.mask1_word, hex_ok_lem mask2 r.mask2_word) (ap device_ok (sym m.device_is) ∙ m.kept));
        device = m.device_is ∙ device_same;
        named = rw s.name_is;
      }

-- a line of another number of fields
pub no_line : (line : List ℕ) → six_or_seven line ≡ false → line_up_to most_words line ≡ false
unfolding line_up_to count_ok six_or_seven
no_line line f = rw (by (eqb (length (split tab line)) 6) (eqb (length (split tab line)) 7) (hex_ok (field 6 line)) f)
  where
    by : (a b k : Bool) → (a || b) ≡ false → (a || (b && k)) ≡ false
    by true b k e = e
    by false true k e = absurd (true_not_false refl e)
    by false false k e = refl

-- ---- the ID and its mask

pub mask_few : (line : List ℕ) → six_or_seven line ≡ false → Some erased ≡ below 65536 (id_mask_of line)
unfolding id_mask_of six_or_seven
mask_few line f = by (eqb (length (split tab line)) 6) (eqb (length (split tab line)) 7) f
  where
    by : (a b : Bool) → (a || b) ≡ false → Some erased ≡ below 65536 (pick b (hex_field (field 6 line)) erased)
    by true b e = absurd (true_not_false refl e)
    by false true e = absurd (true_not_false refl e)
    by false false e = unfold pick in refl

-- no second field
pub id_none : (line : List ℕ) → split tab line ≡ line ∷ [] → below 65536 (id_of line) ≡ None
unfolding id_of field hex_field pick
id_none line e = rw e

pub id_last : (line name rest : List ℕ) → Parted tab line name rest → split tab rest ≡ rest ∷ [] → id_of line ≡ hex_field rest
unfolding id_of field
id_last line name rest p e = rw (p.pieces, e)

pub id_field : (line name rest id more : List ℕ) → Parted tab line name rest → Parted tab rest id more → id_of line ≡ hex_field id
unfolding id_of field
id_field line name rest id more p q = rw (p.pieces, q.pieces)

-- ---- a device held against a line

-- a bit above those of a number
high_bit : (n : ℕ) → n < 65536 → bit_and n 65536 ≡ 0
high_bit n h = and_pow n 16 ∙ (rw (bit_at_above n 16 16 h (omega arith)))

-- what is no number counts as 0: its one bit is above those of another
same_bits : (n w : ℕ) → n ≤ 65536 → w < 65536 → bit_and w (unwrap_or (below 65536 n) 0) ≡ bit_and w n
same_bits n w h k =
    by_lt n 65536
    (λ p. rw (below_low 65536 n p))
    (λ p. let e : n ≡ 65536 = omega arith in rw (below_high 65536 n p, e) (and_zero_r w ∙ sym (high_bit w k)))

mask_most : (line : List ℕ) → id_mask_of line ≤ 65536
unfolding id_mask_of
mask_most line = by (eqb (length (split tab line)) 7)
  where
    by : (t : Bool) → pick t (hex_field (field 6 line)) erased ≤ 65536
    by true = unfold pick in hex_most (field 6 line)
    by false = unfold pick in omega arith

id_most : (line : List ℕ) → id_of line ≤ 65536
unfolding id_of
id_most line = hex_most (field 1 line)

pub clash_by : (line : List ℕ) (d : Device) (id mask : Option ℕ) → d.idmask < 65536 → id ≡ below 65536 (id_of line) → mask ≡ below 65536 (id_mask_of line)
    → eqb (bit_and d.id (bit_and d.idmask (unwrap_or mask 0))) (bit_and (unwrap_or id 0) (bit_and d.idmask (unwrap_or mask 0))) ≡ clash d (device_of line)
unfolding clash device_of
clash_by line d id mask h i m =
    let w : ℕ = bit_and d.idmask (id_mask_of line) in
    let e : bit_and d.idmask (unwrap_or mask 0) ≡ w = ap (λ o. bit_and d.idmask (unwrap_or o 0)) m ∙ same_bits (id_mask_of line) d.idmask (mask_most line) h in
    let small : w < 65536 = omega (arith, and_le_l d.idmask (id_mask_of line)) in
    let f : bit_and (unwrap_or id 0) w ≡ bit_and (id_of line) w =
    and_comm (unwrap_or id 0) w ∙ (ap (λ o. bit_and w (unwrap_or o 0)) i ∙ same_bits (id_of line) w (id_most line) small) ∙ and_comm w (id_of line) in
    rw (e, f)
