-- A record that is written is a line that is read: its bytes, its sum, and what it is.
use Rattle.std.specs.Prelude.{ℕ, zero, suc, ◌+◌, ◌-◌, ◌*◌, ◌/◌, ◌%◌, ◌≤◌, ◌<◌, ◌≡◌, List, [], ◌∷◌, ◌++◌, get_or}
use Rattle.std.proofs.Common.{not-suc-le-zero, le_of_suc-le-suc, sym, ap, ◌∙◌, append_assoc, append-nil, length-append}
use native.Mathlib.Omega.{arith}
use Rattle.std.proofs.Math.Decide.{dec_lt}
use Rattle.std.proofs.Math.Path.{refl}
use Rattle.std.proofs.Math.Bool.{true}
use Rattle.std.proofs.Math.Dec.{ltb}
use Rattle.std.proofs.Math.ListN.{length, take, get_or-append}
use Rattle.std.proofs.Math.Seq.{take-suc, take-length}
use borrow.Author.Tests.{lt-ltb, eq-eqb, ne_eqb}
use Rattle.words.specs.Choice.{pick}
use Rattle.words.specs.Lists.{every}
use Rattle.words.specs.LawsLists.{every_all}
use Rattle.numerals.specs.Text.{lf, cr, split, in_front}
use Rattle.numerals.specs.Hex.{digit_of, digit_text, byte_text}
use Rattle.numerals.specs.LawsHex.{digit_of_text, byte_of_text, digit_text_low, digit_text_high}
use Rattle.lines.specs.Lines.{without_cr, all_without_cr, lines_of}
use Rattle.hexread.specs.Line.{byte_at, count_of, offset_of, type_of, is_record, bytes_to, sum_ok, type_ok, shape_ok, data_ok, line_number}
use Rattle.hexwrite.specs.Writer.{sum_of, digits_of, record_text}
use Rattle.hexwrite.specs.LawsWrite.{length_digits}

-- ---- bytes

-- each number is a byte
abbrev pub Bytes : List ℕ → Type 0
Bytes [] = Unit
Bytes (b ∷ l) = (b < 256) × Bytes l

pub bytes_at : (l : List ℕ) → Bytes l → (j : ℕ) → get_or l j 0 < 256
bytes_at [] bs j = omega arith
bytes_at (b ∷ l) bs zero = bs.0
bytes_at (b ∷ l) bs (suc j) = bytes_at l bs.1 j

pub bytes_append : (l m : List ℕ) → Bytes l → Bytes m → Bytes (l ++ m)
bytes_append [] m p q = q
bytes_append (b ∷ l) m p q = (p.0, bytes_append l m p.1 q)

-- ---- a record's line

-- the byte that makes a record sum to 0 mod 256, and the record with it
unfoldable pub sum_byte : List ℕ → ℕ
sum_byte l = (256 - sum_of l % 256) % 256

unfoldable pub whole : List ℕ → List ℕ
whole l = l ++ (sum_byte l ∷ [])

-- the line without its LF
unfoldable pub record_line : List ℕ → List ℕ
record_line l = 0x3a ∷ digits_of (whole l)

digits_append : (l m : List ℕ) → digits_of (l ++ m) ≡ digits_of l ++ digits_of m
unfolding digits_of
digits_append [] m = refl
digits_append (b ∷ l) m = rw (digits_append l m) (sym (append_assoc (byte_text b) (digits_of l) (digits_of m)))

digits_one : (b : ℕ) → digits_of (b ∷ []) ≡ byte_text b
unfolding digits_of
digits_one b = append-nil (byte_text b)

pub record_line_lem : (l rest : List ℕ) → record_text l ++ rest ≡ record_line l ++ (lf ∷ rest)
unfolding record_text record_line whole sum_byte
record_line_lem l rest =
    let s : List ℕ = byte_text ((256 - sum_of l % 256) % 256) in
    let last : digits_of ((256 - sum_of l % 256) % 256 ∷ []) ≡ s = digits_one ((256 - sum_of l % 256) % 256) in
    rw (digits_append l ((256 - sum_of l % 256) % 256 ∷ []), last)
    (ap (λ t. 0x3a ∷ t)
    (append_assoc (digits_of l) (s ++ lf ∷ []) rest
    ∙ (ap (λ t. digits_of l ++ t) (append_assoc s (lf ∷ []) rest)
    ∙ sym (append_assoc (digits_of l) s (lf ∷ rest)))))

-- ---- lines of a text

-- each character is above the marks that end a line
abbrev Printed : List ℕ → Type 0
Printed [] = Unit
Printed (c ∷ l) = (0x30 ≤ c) × Printed l

printed_append : (l m : List ℕ) → Printed l → Printed m → Printed (l ++ m)
printed_append [] m p q = q
printed_append (c ∷ l) m p q = (p.0, printed_append l m p.1 q)

digit_printed : (n : ℕ) → 0x30 ≤ digit_text n
digit_printed n = by (dec_lt n 10)
  where
    by : Dec (n < 10) → 0x30 ≤ digit_text n
    by (yes h) = rw (digit_text_low n h) (omega arith)
    by (no h) = rw (digit_text_high n (omega arith)) (omega arith)

digits_printed : (l : List ℕ) → Printed (digits_of l)
unfolding digits_of byte_text
digits_printed [] = tt
digits_printed (b ∷ l) = (digit_printed (b / 16), (digit_printed (b % 16), digits_printed l))

line_printed : (l : List ℕ) → Printed (record_line l)
unfolding record_line
line_printed l = (omega arith, digits_printed (whole l))

split_printed : (l rest : List ℕ) → Printed l → split lf (l ++ (lf ∷ rest)) ≡ l ∷ split lf rest
unfolding split pick in_front
split_printed [] rest p = refl
split_printed (c ∷ l) rest p = rw (ne_eqb c lf (λ e. omega (arith, p.0)), split_printed l rest p.1)

kept_printed : (l : List ℕ) → Printed l → without_cr l ≡ l
unfolding without_cr pick
kept_printed [] p = refl
kept_printed (c ∷ []) p = rw (ne_eqb c cr (λ e. omega (arith, p.0)))
kept_printed (c ∷ b ∷ l) p = ap (λ t. c ∷ t) (kept_printed (b ∷ l) p.1)

-- a record is the first line, and what follows it are the other lines
pub lines_record : (l rest : List ℕ) → lines_of (record_text l ++ rest) ≡ record_line l ∷ lines_of rest
unfolding lines_of all_without_cr
lines_record l rest =
    ap (λ t. all_without_cr (split lf t)) (record_line_lem l rest)
    ∙ (ap all_without_cr (split_printed (record_line l) rest (line_printed l))
    ∙ ap (λ t. t ∷ all_without_cr (split lf rest)) (kept_printed (record_line l) (line_printed l)))

-- ---- a record's bytes

digits_high : (ws : List ℕ) (j : ℕ) → j < length ws → get_or (digits_of ws) (2 * j) 0 ≡ digit_text (get_or ws j 0 / 16)
unfolding digits_of byte_text
digits_high [] j h = absurd (not-suc-le-zero h)
digits_high (b ∷ l) zero h = refl
digits_high (b ∷ l) (suc j) h = let two : 2 * suc j ≡ suc (suc (2 * j)) = omega arith in rw two (digits_high l j (le_of_suc-le-suc h))

digits_low : (ws : List ℕ) (j : ℕ) → j < length ws → get_or (digits_of ws) (suc (2 * j)) 0 ≡ digit_text (get_or ws j 0 % 16)
unfolding digits_of byte_text
digits_low [] j h = absurd (not-suc-le-zero h)
digits_low (b ∷ l) zero h = refl
digits_low (b ∷ l) (suc j) h = let two : 2 * suc j ≡ suc (suc (2 * j)) = omega arith in rw two (digits_low l j (le_of_suc-le-suc h))

-- what was written as a byte is read as that byte
byte_back : (ws : List ℕ) (j : ℕ) → Bytes ws → j < length ws → byte_at (0x3a ∷ digits_of ws) j ≡ get_or ws j 0
unfolding byte_at
byte_back ws j bs h =
    byte_of_text digit_of digit_of_text (0x3a ∷ digits_of ws) (1 + 2 * j) (get_or ws j 0) (bytes_at ws bs j)
    (let one : 1 + 2 * j ≡ suc (2 * j) = omega arith in rw one (digits_high ws j h))
    (let two : 1 + 2 * j + 1 ≡ suc (suc (2 * j)) = omega arith in rw two (digits_low ws j h))

sum_append : (l m : List ℕ) → sum_of (l ++ m) ≡ sum_of l + sum_of m
unfolding sum_of
sum_append [] m = omega arith
sum_append (b ∷ l) m = let ih : sum_of (l ++ m) ≡ sum_of l + sum_of m = sum_append l m in omega arith

-- the first n bytes of a line that is read add up to the first n that were written
bytes_back : (ws : List ℕ) → Bytes ws → (n : ℕ) → n ≤ length ws → bytes_to n (0x3a ∷ digits_of ws) ≡ sum_of (take n ws)
unfolding bytes_to
bytes_back ws bs zero h = unfold sum_of in refl
bytes_back ws bs (suc n) h =
    let ih : bytes_to n (0x3a ∷ digits_of ws) ≡ sum_of (take n ws) = bytes_back ws bs n (omega arith) in
    let b : byte_at (0x3a ∷ digits_of ws) n ≡ get_or ws n 0 = byte_back ws n bs h in
    let one : sum_of (get_or ws n 0 ∷ []) ≡ get_or ws n 0 = unfold sum_of in omega arith in
    rw (ih, b, take-suc ws n 0 h, sum_append (take n ws) (get_or ws n 0 ∷ []), one)

whole_sum : (l : List ℕ) → sum_of (whole l) % 256 ≡ 0
unfolding whole sum_byte
whole_sum l =
    let s : ℕ = (256 - sum_of l % 256) % 256 in
    let one : sum_of (s ∷ []) ≡ s = unfold sum_of in omega arith in
    let all : sum_of (l ++ (s ∷ [])) ≡ sum_of l + sum_of (s ∷ []) = sum_append l (s ∷ []) in
    omega arith

-- the record with its sum byte has bytes alone
whole_bytes : (l : List ℕ) → Bytes l → Bytes (whole l)
unfolding whole sum_byte
whole_bytes l bs = bytes_append l ((256 - sum_of l % 256) % 256 ∷ []) bs (omega arith, tt)

length_whole : (l : List ℕ) → length (whole l) ≡ length l + 1
unfolding whole
length_whole l = length-append l (sum_byte l ∷ [])

whole_at : (l : List ℕ) (j : ℕ) → j < length l → get_or (whole l) j 0 ≡ get_or l j 0
unfolding whole
whole_at l j h = get_or-append l (sum_byte l ∷ []) 0 j h

-- byte j of a record's line
module _ (l : List ℕ) (bs : Bytes l) where
  pub line_byte : (j : ℕ) → j < length l → byte_at (record_line l) j ≡ get_or l j 0
  unfolding record_line
  line_byte j h = byte_back (whole l) j (whole_bytes l bs) (rw length_whole (omega arith)) ∙ whole_at l j h

  line_bytes : (j : ℕ) → j < length l + 1 → byte_at (record_line l) j < 256
  unfolding record_line
  line_bytes j h = rw (byte_back (whole l) j (whole_bytes l bs) (rw length_whole h)) (bytes_at (whole l) (whole_bytes l bs) j)

  line_sum : bytes_to (length l + 1) (record_line l) % 256 ≡ 0
  unfolding record_line
  line_sum =
      let n : length (whole l) ≡ length l + 1 = length_whole l in
      let all : bytes_to (length l + 1) (0x3a ∷ digits_of (whole l)) ≡ sum_of (take (length l + 1) (whole l)) = bytes_back (whole l) (whole_bytes l bs) (length l + 1) (omega arith) in
      let full : take (length l + 1) (whole l) ≡ whole l = rw (← n) (take-length (whole l)) in
      rw (all, full) (whole_sum l)

length_line : (l : List ℕ) → length (record_line l) ≡ 1 + 2 * (length l + 1)
unfolding record_line
length_line l =
    let d : length (digits_of (whole l)) ≡ 2 * length (whole l) = length_digits (whole l) in
    let n : length (whole l) ≡ length l + 1 = length_whole l in
    omega arith

line_colon : (l : List ℕ) → get_or (record_line l) 0 0 ≡ 0x3a
unfolding record_line
line_colon l = refl

-- a record of c bytes after LL, two of address and the type
module _ (c a b t : ℕ) (ds : List ℕ) (bs : Bytes (c ∷ a ∷ b ∷ t ∷ ds)) (long : length ds ≡ c) where
  abbrev line : List ℕ
  line = record_line (c ∷ a ∷ b ∷ t ∷ ds)

  pub line_count : count_of line ≡ c
  unfolding count_of
  line_count = line_byte (c ∷ a ∷ b ∷ t ∷ ds) bs 0 (omega arith)

  pub line_offset : offset_of line ≡ 256 * a + b
  unfolding offset_of
  line_offset = rw (line_byte (c ∷ a ∷ b ∷ t ∷ ds) bs 1 (omega arith), line_byte (c ∷ a ∷ b ∷ t ∷ ds) bs 2 (omega arith))

  pub line_type : type_of line ≡ t
  unfolding type_of
  line_type = line_byte (c ∷ a ∷ b ∷ t ∷ ds) bs 3 (omega arith)

  pub line_data : (k : ℕ) → k < c → byte_at line (4 + k) ≡ get_or ds k 0
  line_data k h =
      let four : 4 + k ≡ suc (suc (suc (suc k))) = omega arith in
      line_byte (c ∷ a ∷ b ∷ t ∷ ds) bs (4 + k) (omega arith) ∙ (rw four)

  bytes : c + 5 ≡ length (c ∷ a ∷ b ∷ t ∷ ds) + 1
  bytes = omega arith

  is_record_lem : is_record line ≡ true
  unfolding is_record
  is_record_lem =
      let n : length line ≡ 1 + 2 * (c + 5) = length_line (c ∷ a ∷ b ∷ t ∷ ds) ∙ omega arith in
      let digits : every (c + 5) (λ j. ltb (byte_at line j) 256) ≡ true = every_all (c + 5) (λ j. ltb (byte_at line j) 256)
      (λ j h. lt-ltb (byte_at line j) 256 (line_bytes (c ∷ a ∷ b ∷ t ∷ ds) bs j (omega arith))) in
      rw (line_count, line_colon, lt-ltb c 256 bs.0, eq-eqb (length line) (1 + 2 * (c + 5)) n, digits)

  sum_ok_lem : sum_ok line ≡ true
  unfolding sum_ok
  sum_ok_lem = rw (line_count, bytes) (eq-eqb (bytes_to (length (c ∷ a ∷ b ∷ t ∷ ds) + 1) line % 256) 0 (line_sum (c ∷ a ∷ b ∷ t ∷ ds) bs))

  -- nothing is wrong with it if its kind fits what it holds
  sound : type_ok line ≡ true → shape_ok line ≡ true → data_ok line ≡ true → line_number line ≡ 0
  unfolding line_number pick
  sound p q r = rw (is_record_lem, sum_ok_lem, p, q, r)

  pub data_sound : t ≡ 0 → b % 2 ≡ 0 → c % 2 ≡ 0 → line_number line ≡ 0
  unfolding type_ok shape_ok data_ok
  data_sound e p q =
      let kind : type_of line ≡ 0 = line_type ∙ e in
      let even : (256 * a + b) % 2 ≡ 0 = omega arith in
      sound (rw kind) (rw kind) (rw (kind, line_offset, line_count, eq-eqb ((256 * a + b) % 2) 0 even, eq-eqb (c % 2) 0 q))

  none : a ≡ 0 → b ≡ 0 → offset_of line ≡ 0
  none p q = line_offset ∙ omega arith

  pub end_sound : t ≡ 1 → a ≡ 0 → b ≡ 0 → c ≡ 0 → line_number line ≡ 0
  unfolding type_ok shape_ok data_ok
  end_sound e p q z =
      let kind : type_of line ≡ 1 = line_type ∙ e in
      let count : count_of line ≡ 0 = line_count ∙ z in
      sound (rw kind) (rw (kind, none p q, count)) (rw kind)

  pub upper_sound : t ≡ 4 → a ≡ 0 → b ≡ 0 → c ≡ 2 → line_number line ≡ 0
  unfolding type_ok shape_ok data_ok
  upper_sound e p q z =
      let kind : type_of line ≡ 4 = line_type ∙ e in
      let count : count_of line ≡ 2 = line_count ∙ z in
      sound (rw kind) (rw (kind, none p q, count)) (rw kind)
