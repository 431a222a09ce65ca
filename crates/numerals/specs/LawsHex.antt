-- Laws of hex digits: where digits stand, what they give, and that what is printed is read back.
use Rattle.std.specs.Prelude.{ℕ, ◌+◌, ◌-◌, ◌*◌, ◌/◌, ◌%◌, ◌≤◌, ◌<◌, ◌≡◌, Bool, ◌&&◌, List, [], ◌∷◌, ◌++◌, ◌⊎◌, Some, None, ltb, leb, length, get_or, set}
use Rattle.std.proofs.Common.{le_refl, add-one, arith, sym, ap, ◌∙◌, inl, inr, ⊎_elim}
use Rattle.std.proofs.Math.Decide.{dec_lt}
use Rattle.std.proofs.Math.Path.{refl}
use Rattle.std.proofs.Math.Bool.{true, false}
use Rattle.std.proofs.Math.Seq.{sets}
use Rattle.std.specs.Option.{unwrap_or}
use borrow.Author.Tests.{lt-ltb, le-ltb, le-leb, lt-leb}
use Rattle.words.specs.Choice.{pick, below}
use Rattle.numerals.specs.Hex.{within, digit_of, capital_of, digit_by, joined, byte_by, word_by, digit_text, byte_text, word_text}
use Rattle.words.specs.LawsChoice.{pick_same}
use Rattle.words.specs.LawsLists.{get_d_past, sets_append, sets_past}

-- ---- one character

module _ (a b c : ℕ) where
  pub within_yes : a ≤ c → c ≤ b → within a b c ≡ true
  unfolding within
  within_yes p q = rw (le-leb a c p, le-leb c b q)

  pub within_low : c < a → within a b c ≡ false
  unfolding within
  within_low p = rw (lt-leb a c p)

  pub within_high : b < c → within a b c ≡ false
  unfolding within
  within_high p = rw (lt-leb c b p) (second (leb a c))
    where
      second : (x : Bool) → (x && false) ≡ false
      second true = refl
      second false = refl

-- no character of a range: past its last one, if it is not below the first
pub within_no : (a b c : ℕ) → (a ≤ c → b < c) → within a b c ≡ false
within_no a b c h = by (dec_lt c a)
  where
    by : Dec (c < a) → within a b c ≡ false
    by (yes p) = within_low a b c p
    by (no p) = within_high a b c (h (omega arith))

-- the three ranges lie apart
module _ (c : ℕ) where
  pub digit_decimal : 0x30 ≤ c → c ≤ 0x39 → c - 0x30 ≡ digit_of c
  unfolding digit_of pick
  digit_decimal p q = rw (within_yes 0x30 0x39 c p q)

  pub digit_capital : 0x41 ≤ c → c ≤ 0x46 → c - 0x41 + 10 ≡ digit_of c
  unfolding digit_of pick
  digit_capital p q = rw (within_high 0x30 0x39 c (omega arith), within_yes 0x41 0x46 c p q)

  pub digit_small : 0x61 ≤ c → c ≤ 0x66 → c - 0x61 + 10 ≡ digit_of c
  unfolding digit_of pick
  digit_small p q = rw (within_high 0x30 0x39 c (omega arith), within_high 0x41 0x46 c (omega arith), within_yes 0x61 0x66 c p q)

  pub digit_none : (0x30 ≤ c → 0x39 < c) → (0x41 ≤ c → 0x46 < c) → (0x61 ≤ c → 0x66 < c) → digit_of c ≡ 16
  unfolding digit_of pick
  digit_none h k l = rw (within_no 0x30 0x39 c h, within_no 0x41 0x46 c k, within_no 0x61 0x66 c l)

in_or_out : (a b c : ℕ) → ((a ≤ c) × (c ≤ b)) ⊎ (a ≤ c → b < c)
in_or_out a b c = by (dec_lt c a) (dec_lt b c)
  where
    by : Dec (c < a) → Dec (b < c) → ((a ≤ c) × (c ≤ b)) ⊎ (a ≤ c → b < c)
    by (yes p) q = inr (λ h. absurd (omega arith))
    by (no p) (yes q) = inr (λ h. q)
    by (no p) (no q) = inl (omega arith, omega arith)

pub digit_le : (c : ℕ) → digit_of c ≤ 16
digit_le c =
    ⊎_elim (λ p. rw (← digit_decimal c p.0 p.1) (omega arith))
    (λ h. ⊎_elim (λ p. rw (← digit_capital c p.0 p.1) (omega arith))
    (λ k. ⊎_elim (λ p. rw (← digit_small c p.0 p.1) (omega arith))
    (λ l. rw (digit_none c h k l) (le_refl 16))
    (in_or_out 0x61 0x66 c)) (in_or_out 0x41 0x46 c)) (in_or_out 0x30 0x39 c)

-- below the small letters the two readings of a digit agree
pub capital_low : (c : ℕ) → c < 0x61 → capital_of c ≡ digit_of c
unfolding capital_of digit_of pick
capital_low c h = rw (within_low 0x61 0x66 c h)

pub capital_high : (c : ℕ) → 0x61 ≤ c → capital_of c ≡ 16
unfolding capital_of pick
capital_high c h = rw (within_high 0x30 0x39 c (omega arith), within_high 0x41 0x46 c (omega arith))

-- ---- digits joined

module _ (limit high low : ℕ) where
  pub joined_both : high < limit → low < limit → joined limit high low ≡ limit * high + low
  unfolding joined pick
  joined_both p q = rw (lt-ltb high limit p, lt-ltb low limit q)

  pub joined_no_high : limit ≤ high → joined limit high low ≡ limit * limit
  unfolding joined pick
  joined_no_high p = rw (le-ltb high limit p)

  pub joined_no_low : limit ≤ low → joined limit high low ≡ limit * limit
  unfolding joined pick
  joined_no_low p = rw (le-ltb low limit p) (pick_same (ltb high limit) (limit * limit))

-- ---- digits at a place of a text. `none`: past its end a text has no digit

module _ (digit : ℕ → ℕ) (none : digit 0 ≡ 16) (s : List ℕ) (at : ℕ) where
  pub byte_short : length s ≤ at + 1 → byte_by digit s at ≡ 256
  unfolding byte_by
  byte_short h = joined_no_low 16 (digit (get_or s at 0)) (digit (get_or s (at + 1) 0)) (rw (get_d_past s (at + 1) h, none) (le_refl 16))

module _ (digit : ℕ → ℕ) (none : digit 0 ≡ 16) (s : List ℕ) (at : ℕ) where
  pub word_short : length s - at < 4 → word_by digit s at ≡ 65536
  unfolding word_by
  word_short h =
      joined_no_low 256 (byte_by digit s at) (byte_by digit s (at + 2))
      (rw (byte_short digit none s (at + 2) (omega arith)) (le_refl 256))

pub no_digit : digit_of 0 ≡ 16
unfolding digit_of within pick
no_digit = refl

pub no_capital : capital_of 0 ≡ 16
unfolding capital_of within pick
no_capital = refl

pub no_digit_by : (capital : Bool) → digit_by capital 0 ≡ 16
no_digit_by true = no_capital
no_digit_by false = no_digit

-- ---- what the calls answer

module _ (limit n : ℕ) where
  pub below_some : n < limit → Some n ≡ below limit n
  unfolding pick
  below_some h = rw (lt-ltb n limit h)

  pub below_none : limit ≤ n → None ≡ below limit n
  unfolding pick
  below_none h = rw (le-ltb n limit h)

  pub below_no : n ≡ limit → None ≡ below limit n
  below_no e = below_none (omega arith)

  pub below_is : (r : ℕ) → r ≡ n → r < limit → Some r ≡ below limit n
  below_is r e h = ap Some e ∙ below_some (rw (← e) h)

  -- an answer with the limit in place of None
  pub unwrapped : n ≤ limit → unwrap_or (below limit n) limit ≡ n
  unwrapped h = by (dec_lt n limit)
    where
      by : Dec (n < limit) → unwrap_or (below limit n) limit ≡ n
      by (yes p) = rw (← below_some p)
      by (no p) = rw (← below_none (omega arith)) (omega arith)

  -- what an answer tells of the number
  pub some_below : (r : ℕ) → Some r ≡ below limit n → (r ≡ n) × (n < limit)
  some_below r e = by (dec_lt n limit)
    where
      by : Dec (n < limit) → (r ≡ n) × (n < limit)
      by (yes p) = ((let z : Some r ≡ Some n = e ∙ sym (below_some p) in cc), p)
      by (no p) = absurd (let z : Some r ≡ None = e ∙ sym (below_none (omega arith)) in cc)

  pub none_below : None ≡ below limit n → limit ≤ n
  none_below e = by (dec_lt n limit)
    where
      by : Dec (n < limit) → limit ≤ n
      by (yes p) = absurd (let z : None ≡ Some n = e ∙ sym (below_some p) in cc)
      by (no p) = omega arith

-- of one character
module _ (c : ℕ) where
  pub told_decimal : 0x30 ≤ c → c ≤ 0x39 → below 16 (digit_of c) ≡ Some (c - 0x30)
  told_decimal p q = sym (below_is 16 _ _ (digit_decimal c p q) (omega arith))

  pub told_capital : 0x41 ≤ c → c ≤ 0x46 → below 16 (digit_of c) ≡ Some (c - 0x41 + 10)
  told_capital p q = sym (below_is 16 _ _ (digit_capital c p q) (omega arith))

  pub told_small : 0x61 ≤ c → c ≤ 0x66 → below 16 (digit_of c) ≡ Some (c - 0x61 + 10)
  told_small p q = sym (below_is 16 _ _ (digit_small c p q) (omega arith))

  pub told_none : (c < 0x30) ⊎ (0x39 < c) → (c < 0x41) ⊎ (0x46 < c) → (c < 0x61) ⊎ (0x66 < c) → below 16 (digit_of c) ≡ None
  told_none h k l = sym (below_no 16 _ (digit_none c (either h) (either k) (either l)))
    where
      either : {a b : ℕ} → (c < a) ⊎ (b < c) → a ≤ c → b < c
      either s p = ⊎_elim (λ q. absurd (omega arith)) (λ q. q) s

  pub told_low : c < 0x61 → below 16 (capital_of c) ≡ below 16 (digit_of c)
  told_low h = ap (below 16) (capital_low c h)

  pub told_high : 0x61 ≤ c → below 16 (capital_of c) ≡ None
  told_high h = sym (below_no 16 _ (capital_high c h))

pub ruleset digit_told = (told_decimal, told_capital, told_small, told_none)

pub ruleset capital_told = (told_low, told_high)

module _ (limit high low : ℕ) where
  pub joined_some : (h l : ℕ) → Some h ≡ below limit high → Some l ≡ below limit low → Some (limit * h + l) ≡ below (limit * limit) (joined limit high low)
  joined_some h l p q =
      let a : (h ≡ high) × (high < limit) = some_below limit high h p in
      let b : (l ≡ low) × (low < limit) = some_below limit low l q in
      rw (joined_both limit high low a.1 b.1, a.0, b.0) (below_some (limit * limit) (limit * high + low) (grind arith))

  pub joined_none_high : None ≡ below limit high → None ≡ below (limit * limit) (joined limit high low)
  joined_none_high e = rw (joined_no_high limit high low (none_below limit high e)) (below_none (limit * limit) (limit * limit) (le_refl (limit * limit)))

  pub joined_none_low : None ≡ below limit low → None ≡ below (limit * limit) (joined limit high low)
  joined_none_low e = rw (joined_no_low limit high low (none_below limit low e)) (below_none (limit * limit) (limit * limit) (le_refl (limit * limit)))

module _ (digit : ℕ → ℕ) (s : List ℕ) (at : ℕ) where
  pub byte_none_past : digit 0 ≡ 16 → length s ≤ at + 1 → None ≡ below 256 (byte_by digit s at)
  byte_none_past none h = rw (byte_short digit none s at h) (below_none 256 256 (le_refl 256))

  -- of the characters a and b
  pub byte_none_high : (a : ℕ) → a ≡ get_or s at 0 → None ≡ below 16 (digit a) → None ≡ below 256 (byte_by digit s at)
  unfolding byte_by
  byte_none_high a p e = joined_none_high 16 _ _ (rw (← p) e)

  pub byte_none_low : (b : ℕ) → b ≡ get_or s (at + 1) 0 → None ≡ below 16 (digit b) → None ≡ below 256 (byte_by digit s at)
  unfolding byte_by
  byte_none_low b p e = joined_none_low 16 _ _ (rw (← p) e)

  pub byte_some : (a b h l : ℕ) → a ≡ get_or s at 0 → b ≡ get_or s (at + 1) 0 → Some h ≡ below 16 (digit a) → Some l ≡ below 16 (digit b) → Some (16 * h + l) ≡ below 256 (byte_by digit s at)
  unfolding byte_by
  byte_some a b h l p q e f = joined_some 16 _ _ h l (rw (← p) e) (rw (← q) f)

  -- two digits are within the text
  pub byte_within : digit 0 ≡ 16 → (b : ℕ) → Some b ≡ below 256 (byte_by digit s at) → at + 1 < length s
  byte_within none b e = by (dec_lt (at + 1) (length s))
    where
      by : Dec (at + 1 < length s) → at + 1 < length s
      by (yes p) = p
      by (no p) = absurd (let z : Some b ≡ None = e ∙ sym (byte_none_past none (omega arith)) in cc)

  pub word_none_high : None ≡ below 256 (byte_by digit s at) → None ≡ below 65536 (word_by digit s at)
  unfolding word_by
  word_none_high e = joined_none_high 256 _ _ e

  pub word_none_low : None ≡ below 256 (byte_by digit s (at + 2)) → None ≡ below 65536 (word_by digit s at)
  unfolding word_by
  word_none_low e = joined_none_low 256 _ _ e

  pub word_some : (h l : ℕ) → Some h ≡ below 256 (byte_by digit s at) → Some l ≡ below 256 (byte_by digit s (at + 2)) → Some (256 * h + l) ≡ below 65536 (word_by digit s at)
  unfolding word_by
  word_some h l p q = joined_some 256 _ _ h l p q

-- ---- what is printed is read back, by either reading

pub digit_text_low : (n : ℕ) → n < 10 → digit_text n ≡ 0x30 + n
unfolding digit_text pick
digit_text_low n h = rw (lt-ltb n 10 h)

pub digit_text_high : (n : ℕ) → 10 ≤ n → digit_text n ≡ 0x41 + (n - 10)
unfolding digit_text pick
digit_text_high n h = rw (le-ltb n 10 h)

pub capital_of_text : (n : ℕ) → n < 16 → capital_of (digit_text n) ≡ n
unfolding capital_of pick
capital_of_text n h = by (dec_lt n 10)
  where
    by : Dec (n < 10) → capital_of (digit_text n) ≡ n
    by (yes p) = rw (digit_text_low n p, within_yes 0x30 0x39 (0x30 + n) (omega arith) (omega arith)) (omega arith)
    by (no p) =
        rw (digit_text_high n (omega arith), within_high 0x30 0x39 (0x41 + (n - 10)) (omega arith), within_yes 0x41 0x46 (0x41 + (n - 10)) (omega arith) (omega arith))
        (omega arith)

digit_text_lt : (n : ℕ) → n < 16 → digit_text n < 0x61
digit_text_lt n h = by (dec_lt n 10)
  where
    by : Dec (n < 10) → digit_text n < 0x61
    by (yes p) = rw (digit_text_low n p) (omega arith)
    by (no p) = rw (digit_text_high n (omega arith)) (omega arith)

pub digit_of_text : (n : ℕ) → n < 16 → digit_of (digit_text n) ≡ n
digit_of_text n h = sym (capital_low (digit_text n) (digit_text_lt n h)) ∙ capital_of_text n h

-- the digits of b at a place are read as b; `reads`: a reading that reads every printed digit
module _ (digit : ℕ → ℕ) (reads : (n : ℕ) → n < 16 → digit (digit_text n) ≡ n) (s : List ℕ) (at : ℕ) where
  pub byte_of_text : (b : ℕ) → b < 256 → get_or s at 0 ≡ digit_text (b / 16) → get_or s (at + 1) 0 ≡ digit_text (b % 16) → byte_by digit s at ≡ b
  unfolding byte_by
  byte_of_text b h p q =
      rw (p, q, reads (b / 16) (omega arith), reads (b % 16) (omega arith))
      (joined_both 16 (b / 16) (b % 16) (omega arith) (omega arith) ∙ omega arith)

-- ---- lengths

pub length_byte_text : (b : ℕ) → length (byte_text b) ≡ 2
unfolding byte_text
length_byte_text b = refl

pub length_word_text : (w : ℕ) → length (word_text w) ≡ 4
unfolding word_text byte_text
length_word_text w = refl

-- ---- digits stored

pub byte_put : (l m n : List ℕ) (at b high low : ℕ) → high ≡ digit_text (b / 16) → low ≡ digit_text (b % 16) → m ≡ set l at high → n ≡ set m (at + 1) low → n ≡ sets l at (byte_text b)
unfolding byte_text
byte_put l m n at b high low p q e f = rw (f, e, p, q, add-one)

-- `bytes`: the two of w, the higher first
module _ (l m bytes : List ℕ) (at w : ℕ) (fits : w < 65536) (two : bytes ≡ w / 256 % 256 ∷ w % 256 ∷ []) (e : m ≡ sets l at (byte_text (get_or bytes 0 0))) where
  first : m ≡ sets l at (byte_text (w / 256))
  first =
      let h : w / 256 % 256 ≡ w / 256 = omega arith in
      rw (two, h) at e

  pub word_put : (n : List ℕ) → n ≡ sets m (at + 2) (byte_text (get_or bytes 1 0)) → n ≡ sets l at (word_text w)
  unfolding word_text
  word_put n f = rw two at f ∙ (ap (λ x. sets x (at + 2) (byte_text (w % 256))) first ∙ step)
    where
      step : sets (sets l at (byte_text (w / 256))) (at + 2) (byte_text (w % 256)) ≡ sets l at (byte_text (w / 256) ++ byte_text (w % 256))
      step = rw (length_byte_text (w / 256)) at (sets_append l at (byte_text (w / 256)) (byte_text (w % 256)))

  pub word_put_past : length m ≤ at → m ≡ sets l at (word_text w)
  word_put_past h = word_put m (sym (sets_past m (at + 2) (byte_text (get_or bytes 1 0)) (omega arith)))
