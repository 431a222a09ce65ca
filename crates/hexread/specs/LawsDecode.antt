-- Laws of a record's bytes, decoded once from its digits: each is the line's byte, and so is what is taken from them.
use Rattle.std.specs.Prelude.{ℕ, ◌+◌, ◌*◌, ◌/◌, ◌%◌, ◌≤◌, ◌<◌, ◌≡◌, refl, Bool, true, false, ◌&&◌, Option, Some, None, Result, Ok, Err, IfOk, ◌⊎◌, List, eqb, length, set}
use Rattle.std.proofs.Math.Decide.{dec_lt, ℕ_discrete}
use native.Mathlib.Omega.{arith}
use Rattle.std.proofs.Common.{sym, ◌∙◌, length-set, get_or-set_same, get_or-set_other, ne_eqb, eq-eqb, eqb-true, inl, inr}
use Rattle.std.specs.Int.Bits.{bit_or, bit_and, or_add_and}
use Rattle.std.proofs.lemmas.Nat.{or_lt, and_le_l, and_le_r}
use Rattle.std.proofs.Math.ListN.{get_or}
use Rattle.refusal.specs.Refusal.{number_in}
use Rattle.refusal.specs.declared.Refusal.{Refusal}
use Rattle.refusal.specs.declared.Refusal.TheVariants.{NotARecord, WrongSum, UnknownType, WrongLengthOrAddress, OddData}
use Rattle.words.specs.Choice.{pick, below}
use Rattle.words.specs.Lists.{build}
use Rattle.numerals.specs.Hex.{digit_of, byte_by, joined}
use Rattle.words.specs.LawsChoice.{second_holds, second_fails}
use Rattle.numerals.specs.LawsHex.{joined_both, joined_no_high, joined_no_low, byte_none_past, no_digit, below_some, below_none, some_below, none_below}
use Rattle.words.specs.LawsLists.{get_or_build}
use Rattle.hexread.specs.Line.{byte_at, count_of, offset_of, type_of, shape_ok, line_number}
use Rattle.hexread.specs.Step.{word_of}
use Rattle.hexread.specs.LawsLine.{ByteRead, OffsetRead, byte_most, sum_read, Summed, summed_none, summed_more, summed_bad, summed_all, kind_number, no_count, wrong_length, no_digits, wrong_sum, right_sum}
use Rattle.hexread.specs.declared.line.Record.{Record}
use Rattle.hexread.specs.declared.line.Record.TheVariants.{Data, End, Upper}

-- ---- two digits

-- an entry of the table
pub table_digit : (digits : List ℕ) (c : ℕ) → digits ≡ build 256 digit_of → c < 256 → get_or digits c 0 ≡ digit_of c
table_digit digits c e h = rw e (get_or_build 256 digit_of c h)

module _ (high low : ℕ) where
  -- one test for both
  pub both_low : bit_or high low < 16 → (high < 16) × (low < 16)
  both_low h = let e : bit_or high low + bit_and high low ≡ high + low = or_add_and high low in
      (omega (arith, and_le_r high low), omega (arith, and_le_l high low))

  joined_or : bit_or high low < 16 → joined 16 high low ≡ 16 * high + low
  joined_or h = joined_both 16 high low (both_low h).0 (both_low h).1

  joined_no_or : 16 ≤ bit_or high low → joined 16 high low ≡ 256
  joined_no_or h = by (dec_lt high 16) (dec_lt low 16)
    where
      by : Dec (high < 16) → Dec (low < 16) → joined 16 high low ≡ 256
      by (yes p) (yes q) = let z : bit_or high low < 16 = or_lt 4 high low p q in absurd (omega arith)
      by (yes p) (no q) = joined_no_low 16 high low (omega arith)
      by (no p) q = joined_no_high 16 high low (omega arith)

  pub byte_or : bit_or high low < 16 → Some (16 * high + low) ≡ below 256 (joined 16 high low)
  byte_or h = rw (joined_or h) (below_some 256 (16 * high + low) (let b = both_low h in omega (arith, b.0, b.1)))

  pub byte_no_or : 16 ≤ bit_or high low → None ≡ below 256 (joined 16 high low)
  byte_no_or h = rw (joined_no_or h) (below_none 256 256 (omega arith))

-- the two digits of byte j
pub byte_is : (line : List ℕ) (j : ℕ) → joined 16 (digit_of (get_or line (1 + 2 * j) 0)) (digit_of (get_or line (2 + 2 * j) 0)) ≡ byte_at line j
unfolding byte_at byte_by
byte_is line j = let e : 2 + 2 * j ≡ 1 + 2 * j + 1 = omega arith in rw e

-- a byte that was read
pub byte_read : (line : List ℕ) (j b : ℕ) → Some b ≡ below 256 (byte_at line j) → ByteRead line j b × (b < 256)
byte_read line j b e =
    let s = some_below 256 (byte_at line j) b e in
    (record { value = s.0; most = rw s.0 (byte_most line j) }, rw s.0 s.1)

-- a line that is too short for LL
pub no_room : (line : List ℕ) → length line < 3 → None ≡ below 256 (byte_at line 0)
unfolding byte_at
no_room line h = byte_none_past digit_of line 1 no_digit (omega arith)

-- ---- all bytes of a record

-- r is their sum mod 256, if each of them is two digits
pub record Decoded (line : List ℕ) (n : ℕ) (r : Option ℕ) (bytes : List ℕ) : Type 0 where
  pub sum : r ≡ below 256 (sum_read n line)
  pub stored : (s : ℕ) → r ≡ Some s → (j : ℕ) → j < n → get_or bytes j 0 ≡ byte_at line j

-- j bytes are decoded
pub record Decoding (line : List ℕ) (n j sum : ℕ) (bytes : List ℕ) : Type 0 where
  pub summed : Summed line n j sum
  pub stored : (k : ℕ) → k < j → get_or bytes k 0 ≡ byte_at line k
  pub long : length bytes ≡ 260

module _ (line : List ℕ) (n : ℕ) where
  pub decoding_none : (bytes : List ℕ) → length bytes ≡ 260 → Decoding line n 0 0 bytes
  decoding_none bytes l = record { summed = summed_none line n; stored = λ k h. absurd (omega arith); long = l }

  module _ (j sum : ℕ) (bytes : List ℕ) (d : Decoding line n j sum bytes) where
    pub decoding_bad : j < n → None ≡ below 256 (byte_at line j) → (bytes' : List ℕ) → Decoded line n None bytes'
    decoding_bad here e bytes' =
        record {
          sum = below_none 256 (sum_read n line) (rw (← (summed_bad line n j sum (byte_at line j) d.summed here (record { value = refl; most = byte_most line j }) (none_below 256 (byte_at line j) e))) (omega arith));
          stored = λ s z. cc;
        }

    pub decoding_more : j < n → n ≤ 260 → (b : ℕ) → Some b ≡ below 256 (byte_at line j) → Decoding line n (j + 1) (sum + b) (set bytes j b)
    decoding_more here few b e =
        let r = byte_read line j b e in
        record {
          summed = summed_more line n j sum b d.summed here r.0 r.1;
          stored = λ k m. by k m r.0 (ℕ_discrete k j);
          long = length-set bytes j b ∙ d.long;
        }
      where
        by : (k : ℕ) → k < j + 1 → ByteRead line j b → Dec (k ≡ j) → get_or (set bytes j b) k 0 ≡ byte_at line k
        by k m r (yes e) = rw e (get_or-set_same bytes j b 0 (omega (arith, d.long)) ∙ r.value)
        by k m r (no e) = get_or-set_other bytes j k b 0 e ∙ d.stored k (omega arith)

    pub decoding_all : n ≤ j → Decoded line n (Some (sum % 256)) bytes
    decoding_all h = record { sum = rw (← (summed_all line n j sum d.summed h)) (below_some 256 (sum % 256) (omega arith)); stored = λ s z k m. d.stored k (omega arith) }

-- ---- what is taken from the bytes

-- the bytes of a sound record
pub record Sound (line bytes : List ℕ) : Type 0 where
  pub number : line_number line ≡ 0
  pub stored : (j : ℕ) → j < count_of line + 5 → get_or bytes j 0 ≡ byte_at line j

-- a number that is 0 passed the first test
pub pick_zero : (b : Bool) (x k : ℕ) → (k ≡ 0 → ⊥) → pick b x k ≡ 0 → (b ≡ true) × (x ≡ 0)
unfolding pick
pick_zero true x k n e = (refl, e)
pick_zero false x k n e = absurd (n e)

-- a sound record that is neither data nor the end has two bytes
upper_count : (line : List ℕ) → line_number line ≡ 0 → (type_of line ≡ 0 → ⊥) → (type_of line ≡ 1 → ⊥) → count_of line ≡ 2
unfolding line_number shape_ok
upper_count line e z o =
    let a = pick_zero _ _ 2 (λ k. omega arith) e in
    let b = pick_zero _ _ 3 (λ k. omega arith) a.1 in
    let c = pick_zero _ _ 4 (λ k. omega arith) b.1 in
    let d : shape_ok line ≡ true = (pick_zero _ _ 5 (λ k. omega arith) c.1).0 in
    let s : (eqb (offset_of line) 0 && (eqb (type_of line) 4 && eqb (count_of line) 2)) ≡ true = rw (ne_eqb (type_of line) 0 z, ne_eqb (type_of line) 1 o) at d in
    eqb-true (count_of line) 2 (second_holds (eqb (type_of line) 4) _ (second_holds (eqb (offset_of line) 0) _ s))

module _ (line bytes : List ℕ) (s : Sound line bytes) where
  stored_byte : (j : ℕ) → j < count_of line + 5 → ByteRead line j (get_or bytes j 0)
  stored_byte j h = let e : get_or bytes j 0 ≡ byte_at line j = s.stored j h in record { value = e; most = rw e (byte_most line j) }

  pub sound_byte : (j : ℕ) → j < 5 → ByteRead line j (get_or bytes j 0)
  sound_byte j h = stored_byte j (omega arith)

  pub sound_count : get_or bytes 0 0 ≡ count_of line
  unfolding count_of
  sound_count = (sound_byte 0 (omega arith)).value

  pub sound_offset : 256 * get_or bytes 1 0 + get_or bytes 2 0 ≡ offset_of line
  unfolding offset_of
  sound_offset = rw ((sound_byte 1 (omega arith)).value, (sound_byte 2 (omega arith)).value)

  pub sound_word : (j word : ℕ) → j < get_or bytes 0 0 / 2 → word ≡ get_or bytes (4 + 2 * j) 0 + 256 * get_or bytes (5 + 2 * j) 0 → word ≡ word_of line j
  unfolding word_of
  sound_word j word h e =
      let c : get_or bytes 0 0 ≡ count_of line = sound_count in
      e ∙ rw (s.stored (4 + 2 * j) (omega arith), s.stored (5 + 2 * j) (omega arith))

  module _ (z : get_or bytes 3 0 ≡ 0 → ⊥) (o : get_or bytes 3 0 ≡ 1 → ⊥) where
    two : count_of line ≡ 2
    two =
        let k : get_or bytes 3 0 ≡ type_of line = (unfold type_of in (sound_byte 3 (omega arith)).value) in
        upper_count line s.number (λ e. z (k ∙ e)) (λ e. o (k ∙ e))

    pub sound_high : ByteRead line 4 (get_or bytes 4 0)
    sound_high = stored_byte 4 (omega arith)

    pub sound_low : ByteRead line 5 (get_or bytes 5 0)
    sound_low = let t : count_of line ≡ 2 = two in stored_byte 5 (omega arith)

-- ---- what a record tells

-- by its type
abbrev pub KindOf : (bytes : List ℕ) (count : ℕ) → Record → Type 0
KindOf bytes count (Data c o) = (get_or bytes 3 0 ≡ 0) × (c ≡ count) × (o ≡ 256 * get_or bytes 1 0 + get_or bytes 2 0)
KindOf bytes count End = get_or bytes 3 0 ≡ 1
KindOf bytes count (Upper half) = (get_or bytes 3 0 ≡ 4) × (half ≡ 256 * get_or bytes 4 0 + get_or bytes 5 0)

-- as it is read off the bytes
pub record Kind (bytes : List ℕ) (count : ℕ) (r : Result Record Refusal) : Type 0 where
  pub number : number_in r ≡ kind_number (get_or bytes 3 0) (256 * get_or bytes 1 0 + get_or bytes 2 0) count
  pub told : IfOk r (KindOf bytes count)

module _ (bytes : List ℕ) (count offset : ℕ) (o : offset ≡ 256 * get_or bytes 1 0 + get_or bytes 2 0) where
  pub kind_odd : get_or bytes 3 0 ≡ 0 → (offset % 2 ≡ 0 → ⊥) ⊎ (count % 2 ≡ 0 → ⊥) → Kind bytes count (Err OddData)
  unfolding kind_number pick
  kind_odd k (inl n) = record { number = rw (← o, k, ne_eqb (offset % 2) 0 n); told = tt }
  kind_odd k (inr n) = record { number = rw (← o, k, ne_eqb (count % 2) 0 n, second_fails (eqb (offset % 2) 0) false refl); told = tt }

  pub kind_data : get_or bytes 3 0 ≡ 0 → offset % 2 ≡ 0 → count % 2 ≡ 0 → Kind bytes count (Ok (Data count offset))
  unfolding kind_number pick
  kind_data k e f = record { number = rw (← o, k, eq-eqb (offset % 2) 0 e, eq-eqb (count % 2) 0 f); told = (k, refl, o) }

  pub kind_no_end : get_or bytes 3 0 ≡ 1 → (offset ≡ 0 → ⊥) ⊎ (count ≡ 0 → ⊥) → Kind bytes count (Err WrongLengthOrAddress)
  unfolding kind_number pick
  kind_no_end k (inl n) = record { number = rw (← o, k, ne_eqb offset 0 n); told = tt }
  kind_no_end k (inr n) = record { number = rw (← o, k, ne_eqb count 0 n, second_fails (eqb offset 0) false refl); told = tt }

  pub kind_end : get_or bytes 3 0 ≡ 1 → offset ≡ 0 → count ≡ 0 → Kind bytes count (Ok End)
  unfolding kind_number pick
  kind_end k e f = record { number = rw (← o, k, e, f); told = k }

  pub kind_no_upper : get_or bytes 3 0 ≡ 4 → (offset ≡ 0 → ⊥) ⊎ (count ≡ 2 → ⊥) → Kind bytes count (Err WrongLengthOrAddress)
  unfolding kind_number pick
  kind_no_upper k (inl n) = record { number = rw (← o, k, ne_eqb offset 0 n); told = tt }
  kind_no_upper k (inr n) = record { number = rw (← o, k, ne_eqb count 2 n, second_fails (eqb offset 0) false refl); told = tt }

  pub kind_upper : get_or bytes 3 0 ≡ 4 → offset ≡ 0 → count ≡ 2 → (half : ℕ) → half ≡ 256 * get_or bytes 4 0 + get_or bytes 5 0 → Kind bytes count (Ok (Upper half))
  unfolding kind_number pick
  kind_upper k e f half h = record { number = rw (← o, k, e, f); told = (k, h) }

pub kind_unknown : (bytes : List ℕ) (count : ℕ) → (get_or bytes 3 0 ≡ 0 → ⊥) → (get_or bytes 3 0 ≡ 1 → ⊥) → (get_or bytes 3 0 ≡ 4 → ⊥) → Kind bytes count (Err UnknownType)
unfolding kind_number pick
kind_unknown bytes count z o f = record { number = rw (ne_eqb (get_or bytes 3 0) 0 z, ne_eqb (get_or bytes 3 0) 1 o, ne_eqb (get_or bytes 3 0) 4 f); told = tt }

-- of a line
pub record Tells (line bytes : List ℕ) (r : Record) : Type 0 where
  pub sound : Sound line bytes
  pub kind : KindOf bytes (count_of line) r

-- ---- the judgement of a line, and the bytes that it leaves

pub record Judged (line : List ℕ) (r : Result Record Refusal) (bytes : List ℕ) : Type 0 where
  pub number : number_in r ≡ line_number line
  pub told : IfOk r (Tells line bytes)

module _ (line bytes : List ℕ) where
  pub judged_2 : 2 ≡ line_number line → Judged line (Err NotARecord) bytes
  judged_2 e = record { number = e; told = tt }

  pub no_count_there : None ≡ below 256 (byte_at line 0) → Judged line (Err NotARecord) bytes
  no_count_there e = judged_2 (no_count line (byte_at line 0) (record { value = refl; most = byte_most line 0 }) (none_below 256 (byte_at line 0) e))

  module _ (count : ℕ) (read : Some count ≡ below 256 (byte_at line 0)) where
    c : ByteRead line 0 count
    c = (byte_read line 0 count read).0

    pub wrong_length_there : (length line ≡ 1 + 2 * (count + 5) → ⊥) → Judged line (Err NotARecord) bytes
    wrong_length_there h = judged_2 (wrong_length line count c h)

    module _ (colon : get_or line 0 0 ≡ 0x3a) (long : length line ≡ 1 + 2 * (count + 5)) where
      low : count < 256
      low = (byte_read line 0 count read).1

      pub no_digits_there : Decoded line (count + 5) None bytes → Judged line (Err NotARecord) bytes
      no_digits_there d = judged_2 (no_digits line count c colon low long (sum_read (count + 5) line) refl (none_below 256 _ d.sum))

      module _ (sum : ℕ) (d : Decoded line (count + 5) (Some sum) bytes) where
        summed : (sum ≡ sum_read (count + 5) line) × (sum_read (count + 5) line < 256)
        summed = some_below 256 (sum_read (count + 5) line) sum d.sum

        few : sum < 256
        few = rw summed.0 summed.1

        pub wrong_sum_there : (sum ≡ 0 → ⊥) → Judged line (Err WrongSum) bytes
        wrong_sum_there n = record { number = wrong_sum line count c colon low long sum summed.0 few n; told = tt }

        pub judged_kind : sum ≡ 0 → (r : Result Record Refusal) → Kind bytes count r → Judged line r bytes
        judged_kind zero r k = record { number = n; told = told_by r k.told n }
          where
            same : count ≡ count_of line
            same = unfold count_of in c.value

            byte : (j : ℕ) → j < count + 5 → ByteRead line j (get_or bytes j 0)
            byte j h = let v : get_or bytes j 0 ≡ byte_at line j = d.stored sum refl j h in record { value = v; most = rw v (byte_most line j) }

            address : OffsetRead line (256 * get_or bytes 1 0 + get_or bytes 2 0)
            address = unfold offset_of in record { value = rw ((byte 1 (omega arith)).value, (byte 2 (omega arith)).value); most = omega (arith, (byte 1 (omega arith)).most, (byte 2 (omega arith)).most) }

            n : number_in r ≡ line_number line
            n = right_sum line count c colon low long sum summed.0 few zero (get_or bytes 3 0) (256 * get_or bytes 1 0 + get_or bytes 2 0) (number_in r) (byte 3 (omega arith)) address k.number

            told_by : (r : Result Record Refusal) → IfOk r (KindOf bytes count) → number_in r ≡ line_number line → IfOk r (Tells line bytes)
            told_by (Ok x) t e = record { sound = record { number = sym e; stored = λ j h. d.stored sum refl j (rw same h) }; kind = rw same at t }
            told_by (Err x) t e = tt
