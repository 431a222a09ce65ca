-- Laws of a printed stream that is read again: its lines are its steps, and their bytes are its bytes.
use Rattle.std.specs.Prelude.{ℕ, ◌+◌, ◌-◌, ◌*◌, ◌/◌, ◌%◌, ◌≤◌, ◌<◌, ◌≡◌, true, false, List, [], ◌∷◌, ◌++◌, eqb, length}
use native.Mathlib.Omega.{arith}
use Rattle.std.proofs.Math.Decide.{dec_lt}
use Rattle.std.proofs.Math.Path.{refl}
use Rattle.std.proofs.Common.{sym, ap, ◌∙◌}
use borrow.Author.Tests.{lt-ltb, le-leb, ne_eqb}
use Rattle.words.specs.Choice.{pick}
use Rattle.numerals.specs.Text.{tab, lf, split, in_front}
use Rattle.numerals.specs.Hex.{capital_of, byte_by, word_by, digit_text, byte_text}
use Rattle.numerals.specs.LawsHex.{capital_of_text, byte_of_text, joined_both, digit_text_low, digit_text_high}
use Rattle.target.specs.declared.Order.{Order}
use Rattle.target.specs.declared.Order.TheVariants.{LoadConfiguration, LoadData, Read, Increment, ResetAddress, Begin, BulkErase, RowErase}
use Rattle.target.specs.Stream.{code_of, payload_of, bytes_of}
use Rattle.target.specs.LawsStream.{FitsOrder, FitsAll}
use Rattle.target.specs.LawsBoard.{no_bytes, three_bytes}
use Rattle.listings.specs.Streams.{stream_text}
use Rattle.trials.specs.Trial.{most_steps, is_step, typed_bytes, bad_from, bytes_in, bad_line, stream_of}

-- ---- the lines of a text

-- no character ends a line
abbrev Unbroken : List ℕ → Type 0
Unbroken [] = Unit
Unbroken (c ∷ l) = (eqb c lf ≡ false) × Unbroken l

first_line : (line rest : List ℕ) → Unbroken line → split lf (line ++ lf ∷ rest) ≡ line ∷ split lf rest
unfolding split in_front pick
first_line [] rest p = refl
first_line (c ∷ line) rest p = rw (p.0, first_line line rest p.1)

digit_unbroken : (n : ℕ) → eqb (digit_text n) lf ≡ false
digit_unbroken n = ne_eqb (digit_text n) lf (λ e. high e (dec_lt n 10))
  where
    high : digit_text n ≡ lf → Dec (n < 10) → ⊥
    high e (yes h) = let d : digit_text n ≡ 0x30 + n = digit_text_low n h in omega arith
    high e (no h) = let d : digit_text n ≡ 0x41 + (n - 10) = digit_text_high n (omega arith) in omega arith

-- ---- the line of a step

module _ (c l h : ℕ) where
  -- without its LF
  abbrev line : List ℕ
  line = digit_text (c / 16) ∷ digit_text (c % 16) ∷ tab ∷ digit_text (h / 16) ∷ digit_text (h % 16) ∷ digit_text (l / 16) ∷ digit_text (l % 16) ∷ []

  line_unbroken : Unbroken line
  line_unbroken =
      (digit_unbroken (c / 16), (digit_unbroken (c % 16), (refl, (digit_unbroken (h / 16), (digit_unbroken (h % 16), (digit_unbroken (l / 16), (digit_unbroken (l % 16), tt)))))))

  lines_of : (s : List ℕ) → split lf (stream_text (c ∷ l ∷ h ∷ s)) ≡ line ∷ split lf (stream_text s)
  lines_of s = ap (split lf) opened ∙ first_line line (stream_text s) line_unbroken
    where
      opened : stream_text (c ∷ l ∷ h ∷ s) ≡ line ++ lf ∷ stream_text s
      opened = unfold stream_text byte_text in refl

  module _ (cb : c < 256) (lb : l < 256) (hb : h < 256) where
    code_read : byte_by capital_of line 0 ≡ c
    code_read = byte_of_text capital_of capital_of_text line 0 c cb refl refl

    payload_read : word_by capital_of line 3 ≡ 256 * h + l
    unfolding word_by
    payload_read =
        let high : byte_by capital_of line 3 ≡ h = byte_of_text capital_of capital_of_text line 3 h hb refl refl in
        let low : byte_by capital_of line 5 ≡ l = byte_of_text capital_of capital_of_text line 5 l lb refl refl in
        rw (high, low) (joined_both 256 h l hb lb)

    line_step : is_step line ≡ true
    unfolding is_step
    line_step = rw (code_read, lt-ltb c 256 cb, payload_read, lt-ltb (256 * h + l) 65536 (omega arith))

    line_bytes : typed_bytes line ≡ c ∷ l ∷ h ∷ []
    unfolding typed_bytes
    line_bytes =
        let low : (256 * h + l) % 256 ≡ l = omega arith in
        let high : (256 * h + l) / 256 ≡ h = omega arith in
        rw (code_read, payload_read, low, high)

    -- it is no bad line, as long as it is not one too many
    line_on : (k : ℕ) (rest : List (List ℕ)) → k ≤ most_steps → bad_from k (line ∷ rest) ≡ bad_from (k + 1) rest
    unfolding bad_from pick
    line_on k rest few = rw (line_step, le-leb k most_steps few)

    bytes_on : (rest : List (List ℕ)) → bytes_in (line ∷ rest) ≡ c ∷ l ∷ h ∷ bytes_in rest
    unfolding bytes_in pick
    bytes_on rest = rw (line_step, line_bytes)

-- ---- the lines of a stream

-- the bytes of an order whose word fits are bytes
code_byte : (o : Order) → code_of o < 256
unfolding code_of
code_byte (LoadConfiguration w) = omega arith
code_byte (LoadData w) = omega arith
code_byte Read = omega arith
code_byte Increment = omega arith
code_byte ResetAddress = omega arith
code_byte Begin = omega arith
code_byte BulkErase = omega arith
code_byte RowErase = omega arith

payload_bytes : (o : Order) → FitsOrder o → payload_of o < 65536
unfolding payload_of
payload_bytes (LoadConfiguration w) f = omega (arith, f)
payload_bytes (LoadData w) f = omega (arith, f)
payload_bytes Read f = omega arith
payload_bytes Increment f = omega arith
payload_bytes ResetAddress f = omega arith
payload_bytes Begin f = omega arith
payload_bytes BulkErase f = omega arith
payload_bytes RowErase f = omega arith

-- after the last line nothing stands
none_printed : split lf (stream_text (bytes_of [])) ≡ [] ∷ []
none_printed = ap (λ b. split lf (stream_text b)) no_bytes ∙ (unfold stream_text split in refl)

module _ (o : Order) (s : List Order) (f : FitsOrder o) where
  abbrev low : ℕ
  low = payload_of o % 256

  abbrev high : ℕ
  high = payload_of o / 256

  more_printed : split lf (stream_text (bytes_of (o ∷ s))) ≡ line (code_of o) low high ∷ split lf (stream_text (bytes_of s))
  more_printed = ap (λ b. split lf (stream_text b)) (three_bytes o s) ∙ lines_of (code_of o) low high (bytes_of s)

  low_byte : low < 256
  low_byte = omega arith

  high_byte : high < 256
  high_byte = let p : payload_of o < 65536 = payload_bytes o f in omega arith

  bad_more : (k : ℕ) → k ≤ most_steps → bad_from k (split lf (stream_text (bytes_of (o ∷ s)))) ≡ bad_from (k + 1) (split lf (stream_text (bytes_of s)))
  bad_more k few = ap (bad_from k) more_printed ∙ line_on (code_of o) low high (code_byte o) low_byte high_byte k (split lf (stream_text (bytes_of s))) few

  bytes_more : bytes_in (split lf (stream_text (bytes_of (o ∷ s)))) ≡ code_of o ∷ low ∷ high ∷ bytes_in (split lf (stream_text (bytes_of s)))
  bytes_more = ap bytes_in more_printed ∙ bytes_on (code_of o) low high (code_byte o) low_byte high_byte (split lf (stream_text (bytes_of s)))

none_bad : (s : List Order) → FitsAll s → (k : ℕ) → k + length s ≤ most_steps + 1 → bad_from k (split lf (stream_text (bytes_of s))) ≡ 0
none_bad [] f k few = ap (bad_from k) none_printed ∙ (unfold bad_from pick in refl)
none_bad (o ∷ s) f k few = bad_more o s f.0 k (omega arith) ∙ none_bad s f.1 (k + 1) (omega arith)

none_typed : bytes_in ([] ∷ []) ≡ []
unfolding bytes_in is_step pick
none_typed = refl

all_bytes : (s : List Order) → FitsAll s → bytes_in (split lf (stream_text (bytes_of s))) ≡ bytes_of s
all_bytes [] f = ap bytes_in none_printed ∙ (none_typed ∙ sym no_bytes)
all_bytes (o ∷ s) f = bytes_more o s f.0 ∙ (ap (λ b. code_of o ∷ payload_of o % 256 ∷ payload_of o / 256 ∷ b) (all_bytes s f.1) ∙ sym (three_bytes o s))

-- a stream that is printed has no bad line, if it has no more steps than are played
pub printed_sound : (s : List Order) → FitsAll s → length s ≤ most_steps → bad_line (stream_text (bytes_of s)) ≡ 0
unfolding bad_line
printed_sound s f few = none_bad s f 1 (omega arith)

-- and it is read as the bytes that were printed
pub printed_read : (s : List Order) → FitsAll s → stream_of (stream_text (bytes_of s)) ≡ bytes_of s
unfolding stream_of
printed_read s f = all_bytes s f
