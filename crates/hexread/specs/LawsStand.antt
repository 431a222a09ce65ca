-- Laws of the characters of a line: one that can stand, the first that cannot, and what they tell of a record.
use Rattle.std.specs.Prelude.{ℕ, ◌+◌, ◌-◌, ◌*◌, ◌/◌, ◌%◌, ◌≤◌, ◌<◌, ◌≡◌, Bool, ◌&&◌, Some, None, is_some, List, length, get_or}
use Rattle.std.proofs.Math.Decide.{dec_lt, ℕ_discrete}
use Rattle.std.proofs.Common.{arith, sym, ◌∙◌}
use Rattle.std.proofs.Math.Path.{refl, ap}
use Rattle.std.proofs.Math.Bool.{true, false, not}
use Rattle.std.proofs.Math.Dec.{ltb, eqb}
use borrow.Author.Tests.{lt-ltb, le-ltb, ltb-true, eq-eqb, ne_eqb, eqb-true}
use Rattle.words.specs.Choice.{pick, below}
use Rattle.words.specs.First.{first_to}
use Rattle.words.specs.Lists.{every}
use Rattle.words.specs.LawsChoice.{true_not_false, both, first_holds, second_holds}
use Rattle.words.specs.LawsFirst.{first, first_is}
use Rattle.words.specs.LawsLists.{every_at, every_all}
use Rattle.words.specs.LawsTests.{not_holds, not_fails}
use Rattle.numerals.specs.Hex.{digit_of, byte_by, joined}
use Rattle.numerals.specs.LawsHex.{some_below, none_below, joined_both, joined_no_high, joined_no_low}
use Rattle.hexread.specs.Line.{byte_at, count_of, is_record}
use Rattle.hexread.specs.Column.{is_digit, can_stand, bad_column}
use Rattle.hexread.specs.LawsLine.{joined_most}

-- ---- one character

module _ (line : List ℕ) (i : ℕ) where
  pub stand_first : i ≡ 0 → eqb (get_or line i 0) 0x3a ≡ can_stand line i
  unfolding can_stand pick
  stand_first e = rw (eq-eqb i 0 e)

  module _ (after : i ≡ 0 → ⊥) (digit : ℕ) (d : digit ≡ digit_of (get_or line i 0)) where
    pub stand_near : i < 3 → ltb digit 16 ≡ can_stand line i
    unfolding can_stand is_digit pick
    stand_near h = rw (ne_eqb i 0 after, lt-ltb i 3 h, d)

    module _ (far : 3 ≤ i) (most : ℕ) (m : most ≡ 1 + 2 * (count_of line + 5)) where
      pub stand_beyond : most ≤ i → false ≡ can_stand line i
      unfolding can_stand pick
      stand_beyond h = rw (ne_eqb i 0 after, le-ltb i 3 far, ← m, le-ltb i most h) (sym (nothing (is_digit (get_or line i 0))))
        where
          nothing : (b : Bool) → (b && false) ≡ false
          nothing true = refl
          nothing false = refl

      pub stand_far : i < most → ltb digit 16 ≡ can_stand line i
      unfolding can_stand is_digit pick
      stand_far h = rw (ne_eqb i 0 after, le-ltb i 3 far, ← m, lt-ltb i most h, d) (sym (itself (ltb (digit_of (get_or line i 0)) 16)))
        where
          itself : (b : Bool) → (b && true) ≡ b
          itself true = refl
          itself false = refl

-- whether a character is a digit
pub digit_told : (c : ℕ) → is_some (below 16 (digit_of c)) ≡ ltb (digit_of c) 16
unfolding pick
digit_told c = by (ltb (digit_of c) 16)
  where
    by : (b : Bool) → is_some (pick b (Some (digit_of c)) None) ≡ b
    by true = refl
    by false = refl

-- LL, or one more than the largest byte
module _ (line : List ℕ) where
  pub count_some : (count : ℕ) → Some count ≡ below 256 (byte_by digit_of line 1) → count ≡ count_of line
  unfolding count_of byte_at
  count_some count e = (some_below 256 _ count e).0

  pub count_none : None ≡ below 256 (byte_by digit_of line 1) → 256 ≡ count_of line
  unfolding count_of byte_at byte_by
  count_none e =
      let l : 256 ≤ joined 16 (digit_of (get_or line 1 0)) (digit_of (get_or line 2 0)) = none_below 256 _ e in
      let m : joined 16 (digit_of (get_or line 1 0)) (digit_of (get_or line 2 0)) ≤ 256 = joined_most _ _ in
      omega arith

-- ---- the first that cannot stand

-- every character before place i can stand
pub record Standing (line : List ℕ) (i : ℕ) : Type 0 where
  pub within : i ≤ length line
  pub stand : (k : ℕ) → k < i → can_stand line k ≡ true

module _ (line : List ℕ) where
  pub standing_none : Standing line 0
  standing_none = record { within = omega arith; stand = λ k h. absurd (omega arith) }

  not_before : (i : ℕ) → Standing line i → (k : ℕ) → k < i → not (can_stand line k) ≡ false
  not_before i s k h = rw (s.stand k h)

  module _ (i : ℕ) (s : Standing line i) where
    module _ (here : i < length line) (can : Bool) (c : can ≡ can_stand line i) where
      pub standing_more : can ≡ true → Standing line (i + 1)
      standing_more t = record { within = omega arith; stand = λ k h. by k h (ℕ_discrete k i) }
        where
          by : (k : ℕ) → k < i + 1 → Dec (k ≡ i) → can_stand line k ≡ true
          by k h (yes e) = rw e (sym c ∙ t)
          by k h (no e) = s.stand k (omega arith)

      pub bad_here : can ≡ false → i + 1 ≡ bad_column line
      unfolding bad_column
      bad_here f =
          ap (λ k. k + 1) (first_is (length line) (λ k. not (can_stand line k)) i
          (record { within = omega arith; before = not_before i s; here = λ h. rw (sym c ∙ f) }))

    pub bad_end : length line ≤ i → i + 1 ≡ bad_column line
    unfolding bad_column
    bad_end h =
        ap (λ k. k + 1) (first_is (length line) (λ k. not (can_stand line k)) i
        (record { within = s.within; before = not_before i s; here = λ k. absurd (omega arith) }))

-- each character before the column can stand, and the one at it cannot, or the line ends there
pub record FirstBad (line : List ℕ) (column : ℕ) : Type 0 where
  pub least : 1 ≤ column
  pub most : column ≤ length line + 1
  pub before : (i : ℕ) → i + 1 < column → can_stand line i ≡ true
  pub at : column ≤ length line → can_stand line (column - 1) ≡ false

pub first_bad : (line : List ℕ) → FirstBad line (bad_column line)
unfolding bad_column
first_bad line =
    let f = first (length line) (λ i. not (can_stand line i)) in
    let back : first_to (length line) (λ i. not (can_stand line i)) + 1 - 1 ≡ first_to (length line) (λ i. not (can_stand line i)) = omega arith in
    record {
      least = omega arith;
      most = omega (arith, f.within);
      before = λ i h. not_fails (can_stand line i) (f.before i (omega arith));
      at = λ h. rw back (not_holds (can_stand line _) (f.here (omega arith)));
    }

-- ---- a record is a line in which every character can stand, and which is as long as LL says

both_digits : (high low : ℕ) → joined 16 high low < 256 → (high < 16) × (low < 16)
both_digits high low h = by (dec_lt high 16) (dec_lt low 16)
  where
    by : Dec (high < 16) → Dec (low < 16) → (high < 16) × (low < 16)
    by (yes p) (yes q) = (p, q)
    by (yes p) (no q) = absurd (let e : joined 16 high low ≡ 256 = joined_no_low 16 high low (omega arith) in omega arith)
    by (no p) q = absurd (let e : joined 16 high low ≡ 256 = joined_no_high 16 high low (omega arith) in omega arith)

module _ (line : List ℕ) where
  -- the digits of byte j
  byte_digits : (j : ℕ) → byte_at line j < 256 → (digit_of (get_or line (1 + 2 * j) 0) < 16) × (digit_of (get_or line (1 + 2 * j + 1) 0) < 16)
  unfolding byte_at byte_by
  byte_digits j h = both_digits (digit_of (get_or line (1 + 2 * j) 0)) (digit_of (get_or line (1 + 2 * j + 1) 0)) h

  byte_of_digits : (j : ℕ) → digit_of (get_or line (1 + 2 * j) 0) < 16 → digit_of (get_or line (1 + 2 * j + 1) 0) < 16 → byte_at line j < 256
  unfolding byte_at byte_by
  byte_of_digits j p q = rw (joined_both 16 (digit_of (get_or line (1 + 2 * j) 0)) (digit_of (get_or line (1 + 2 * j + 1) 0)) p q) (omega arith)

  -- a character after the colon that can stand is a digit
  stand_digit : (i : ℕ) → (i ≡ 0 → ⊥) → can_stand line i ≡ true → digit_of (get_or line i 0) < 16
  stand_digit i after t = by (dec_lt i 3) (dec_lt i (1 + 2 * (count_of line + 5)))
    where
      by : Dec (i < 3) → Dec (i < 1 + 2 * (count_of line + 5)) → digit_of (get_or line i 0) < 16
      by (yes h) q = ltb-true _ 16 (stand_near line i after _ refl h ∙ t)
      by (no h) (yes q) = ltb-true _ 16 (stand_far line i after _ refl (omega arith) _ refl q ∙ t)
      by (no h) (no q) = absurd (true_not_false t (sym (stand_beyond line i after _ refl (omega arith) _ refl (omega arith))))

  digit_stands : (i : ℕ) → (i ≡ 0 → ⊥) → i < 1 + 2 * (count_of line + 5) → digit_of (get_or line i 0) < 16 → can_stand line i ≡ true
  digit_stands i after h d = by (dec_lt i 3)
    where
      by : Dec (i < 3) → can_stand line i ≡ true
      by (yes p) = sym (stand_near line i after _ refl p) ∙ lt-ltb _ 16 d
      by (no p) = sym (stand_far line i after _ refl (omega arith) _ refl h) ∙ lt-ltb _ 16 d

  -- what a record is made of
  record Made : Type 0 where
    colon : get_or line 0 0 ≡ 0x3a
    long : length line ≡ 1 + 2 * (count_of line + 5)
    bytes : (j : ℕ) → j < count_of line + 5 → byte_at line j < 256

  made : is_record line ≡ true → Made
  unfolding is_record
  made e =
      let a = first_holds _ _ e in
      let b = first_holds _ _ a in
      record {
        colon = eqb-true _ _ (first_holds _ _ b);
        long = eqb-true _ _ (second_holds (eqb (get_or line 0 0) 0x3a && ltb (count_of line) 256) _ a);
        bytes =
            λ j h. ltb-true _ _ (every_at (count_of line + 5) (λ k. ltb (byte_at line k) 256)
            (second_holds (eqb (get_or line 0 0) 0x3a && ltb (count_of line) 256 && eqb (length line) (1 + 2 * (count_of line + 5))) _ e) j h);
      }

  pub record_byte : is_record line ≡ true → (j : ℕ) → j < count_of line + 5 → byte_at line j < 256
  record_byte e = (made e).bytes

  of_made : Made → is_record line ≡ true
  unfolding is_record count_of
  of_made m =
      both _ _
      (both _ _ (both _ _ (eq-eqb (get_or line 0 0) 0x3a m.colon) (lt-ltb (byte_at line 0) 256 (m.bytes 0 (omega arith)))) (eq-eqb (length line) _ m.long))
      (every_all (count_of line + 5) (λ j. ltb (byte_at line j) 256) (λ j h. lt-ltb (byte_at line j) 256 (m.bytes j h)))

  -- and the same by its characters
  record Stands : Type 0 where
    stand : (i : ℕ) → i < length line → can_stand line i ≡ true
    long : length line ≡ 1 + 2 * (count_of line + 5)

  stands_of : Made → Stands
  stands_of m = record { stand = λ i h. by i h (ℕ_discrete i 0) (ℕ_discrete (i % 2) 1); long = m.long }
    where
      by : (i : ℕ) → i < length line → Dec (i ≡ 0) → Dec (i % 2 ≡ 1) → can_stand line i ≡ true
      by i h (yes z) q = sym (stand_first line i z) ∙ rw z (eq-eqb (get_or line 0 0) 0x3a m.colon)
      by i h (no z) (yes q) =
          let at : 1 + 2 * (i / 2) ≡ i = omega arith in
          digit_stands i z (rw (← m.long) h) (rw at at (byte_digits (i / 2) (m.bytes (i / 2) (omega (arith, m.long)))).0)
      by i h (no z) (no q) =
          let at : 1 + 2 * (i / 2 - 1) + 1 ≡ i = omega arith in
          digit_stands i z (rw (← m.long) h) (rw at at (byte_digits (i / 2 - 1) (m.bytes (i / 2 - 1) (omega (arith, m.long)))).1)

  made_of : Stands → Made
  made_of s =
      record {
        colon = eqb-true (get_or line 0 0) 0x3a (stand_first line 0 refl ∙ s.stand 0 (omega (arith, s.long)));
        long = s.long;
        bytes =
            λ j h. byte_of_digits j
            (stand_digit (1 + 2 * j) (λ z. omega arith) (s.stand (1 + 2 * j) (omega (arith, s.long))))
            (stand_digit (1 + 2 * j + 1) (λ z. omega arith) (s.stand (1 + 2 * j + 1) (omega (arith, s.long))));
      }

  -- so 2 and its column cannot part
  pub stands_record : is_record line ≡ (every (length line) (can_stand line) && eqb (length line) (1 + 2 * (count_of line + 5)))
  stands_record = same _ _
      (λ e. let s = stands_of (made e) in both _ _ (every_all (length line) (can_stand line) s.stand) (eq-eqb (length line) _ s.long))
      (λ e. of_made (made_of (record {
        stand = every_at (length line) (can_stand line) (first_holds _ _ e);
        long = eqb-true _ _ (second_holds (every (length line) (can_stand line)) _ e);
      })))
    where
      same : (a b : Bool) → (a ≡ true → b ≡ true) → (b ≡ true → a ≡ true) → a ≡ b
      same true b f g = sym (f refl)
      same false true f g = g refl
      same false false f g = refl
