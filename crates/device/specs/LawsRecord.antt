-- Laws of the device record: its rules as facts on numbers.
use Rattle.std.specs.Prelude.{ℕ, ◌+◌, ◌-◌, ◌*◌, ◌/◌, ◌%◌, ◌≤◌, ◌<◌, refl, ◌⊎◌, ◌&&◌, ◌||◌}
use Rattle.std.proofs.Common.{div-add-mod', ◌∙◌, inl, inr}
use native.Mathlib.Omega.{arith}
use Rattle.std.proofs.Math.Path.{◌≡◌, sym}
use Rattle.std.proofs.Math.Logic.{⊎_elim}
use Rattle.std.proofs.Math.Bool.{Bool, true, false}
use Rattle.std.proofs.Math.Dec.{leb, eqb}
use Rattle.std.specs.Int.Bits.{bit_and}
use Rattle.std.proofs.lemmas.Nat.{and_mask}
use borrow.Author.Tests.{eq-eqb, eqb-true, le-leb, leb-true}
use Rattle.words.specs.Choice.{pick}
use Rattle.words.specs.Word.{is_word, bit}
use Rattle.words.specs.LawsChoice.{first_holds, second_holds, decided, pick_true, pick_false, true_not_false}
use Rattle.words.specs.LawsWord.{is_word_lem, word_lt}
use Rattle.device.specs.declared.Device.{Device}
use Rattle.device.specs.Record.{most_words, row_ok, words_up_to, device_up_to, device_ok, record_number}

-- the rules of a record with so many program words at most, one by one
pub record RulesUpTo (top : ℕ) (d : Device) : Type 0 where
  pub row_is : row_ok d.row ≡ true
  pub multiple : d.words % d.row ≡ 0
  pub least : d.row ≤ d.words
  pub most : d.words ≤ top
  pub id_word : d.id < 0x4000
  pub mask1_word : d.mask1 < 0x4000
  pub mask2_word : d.mask2 < 0x4000
  pub idmask_word : d.idmask < 0x4000
  pub cp_bit_lem : bit d.mask1 7 ≡ 1

abbrev pub Rules : Device → Type 0
Rules d = RulesUpTo most_words d

-- what R of 8, 16 or 32 comes to in numbers
pub record Row (row : ℕ) : Type 0 where
  pub low : 8 ≤ row
  pub high : row ≤ 32
  pub eighths : row % 8 ≡ 0

either : (a b : Bool) → (a || b) ≡ true → (a ≡ true) ⊎ (b ≡ true)
either true b e = inl refl
either false b e = inr e

pub row_cases : (row : ℕ) → row_ok row ≡ true → (row ≡ 8) ⊎ ((row ≡ 16) ⊎ (row ≡ 32))
unfolding row_ok
row_cases row e =
    ⊎_elim
    (λ p. ⊎_elim (λ q. inl (eqb-true row 8 q)) (λ q. inr (inl (eqb-true row 16 q))) (either (eqb row 8) (eqb row 16) p))
    (λ p. inr (inr (eqb-true row 32 p)))
    (either (eqb row 8 || eqb row 16) (eqb row 32) e)

pub row : (row : ℕ) → row_ok row ≡ true → Row row
row r e =
    ⊎_elim (λ p. record { low = omega arith; high = omega arith; eighths = omega arith })
    (⊎_elim (λ p. record { low = omega arith; high = omega arith; eighths = omega arith })
    (λ p. record { low = omega arith; high = omega arith; eighths = omega arith }))
    (row_cases r e)

-- R is a power of two: a number mod R is its low bits
pub row_mask : (row : ℕ) → row_ok row ≡ true → (n : ℕ) → bit_and n (row - 1) ≡ n % row
row_mask row e n =
    ⊎_elim (λ p. rw p (and_mask n 3)) (⊎_elim (λ p. rw p (and_mask n 4)) (λ p. rw p (and_mask n 5))) (row_cases row e)

-- ---- the rules and the test

module _ (top : ℕ) (d : Device) where
  pub keeps_up_to : RulesUpTo top d → device_up_to top d ≡ true
  unfolding device_up_to words_up_to
  keeps_up_to r =
      let v : RulesUpTo top d = r in
      rw (
        v.row_is,
        eq-eqb (d.words % d.row) 0 v.multiple,
        le-leb d.row d.words v.least,
        le-leb d.words top v.most,
        is_word_lem d.id v.id_word,
        is_word_lem d.mask1 v.mask1_word,
        is_word_lem d.mask2 v.mask2_word,
        is_word_lem d.idmask v.idmask_word,
        eq-eqb (bit d.mask1 7) 1 v.cp_bit_lem,
      )

  pub rules_up_to : device_up_to top d ≡ true → RulesUpTo top d
  unfolding device_up_to words_up_to
  rules_up_to e =
      let multiple : Bool = eqb (d.words % d.row) 0 in
      let least : Bool = leb d.row d.words in
      let most : Bool = leb d.words top in
      let up_to2 : Bool = row_ok d.row && (multiple && least && most) in
      let up_to3 : Bool = up_to2 && is_word d.id in
      let up_to4 : Bool = up_to3 && is_word d.mask1 in
      let up_to5 : Bool = up_to4 && is_word d.mask2 in
      let up_to6 : Bool = up_to5 && is_word d.idmask in
      let e6 : up_to6 ≡ true = first_holds up_to6 (eqb (bit d.mask1 7) 1) e in
      let e5 : up_to5 ≡ true = first_holds up_to5 (is_word d.idmask) e6 in
      let e4 : up_to4 ≡ true = first_holds up_to4 (is_word d.mask2) e5 in
      let e3 : up_to3 ≡ true = first_holds up_to3 (is_word d.mask1) e4 in
      let e2 : up_to2 ≡ true = first_holds up_to2 (is_word d.id) e3 in
      let w : (multiple && least && most) ≡ true = second_holds (row_ok d.row) (multiple && least && most) e2 in
      let w2 : (multiple && least) ≡ true = first_holds (multiple && least) most w in
      record {
        row_is = first_holds (row_ok d.row) (multiple && least && most) e2;
        multiple = eqb-true (d.words % d.row) 0 (first_holds multiple least w2);
        least = leb-true d.row d.words (second_holds multiple least w2);
        most = leb-true d.words top (second_holds (multiple && least) most w);
        id_word = word_lt d.id (second_holds up_to2 (is_word d.id) e3);
        mask1_word = word_lt d.mask1 (second_holds up_to3 (is_word d.mask1) e4);
        mask2_word = word_lt d.mask2 (second_holds up_to4 (is_word d.mask2) e5);
        idmask_word = word_lt d.idmask (second_holds up_to5 (is_word d.idmask) e6);
        cp_bit_lem = eqb-true (bit d.mask1 7) 1 (second_holds up_to6 (eqb (bit d.mask1 7) 1) e);
      }

-- the limit has a say in the number of program words alone
pub other_limit : (a b : ℕ) (d : Device) → device_up_to a d ≡ true → d.words ≤ b → device_up_to b d ≡ true
other_limit a b d e h =
    let r : RulesUpTo a d = rules_up_to a d e in
    keeps_up_to b d
    (record {
      row_is = r.row_is;
      multiple = r.multiple;
      least = r.least;
      most = h;
      id_word = r.id_word;
      mask1_word = r.mask1_word;
      mask2_word = r.mask2_word;
      idmask_word = r.idmask_word;
      cp_bit_lem = r.cp_bit_lem;
    })

-- a record that keeps the rules up to a limit keeps them up to any larger one
pub more_words : (a b : ℕ) → a ≤ b → (d : Device) → device_up_to a d ≡ true → device_up_to b d ≡ true
more_words a b h d e = other_limit a b d e (let r : RulesUpTo a d = rules_up_to a d e in omega arith)

module _ (d : Device) where
  pub keeps : Rules d → device_ok d ≡ true
  unfolding device_ok
  keeps r = keeps_up_to most_words d r

  pub rules_lem : device_ok d ≡ true → Rules d
  unfolding device_ok
  rules_lem e = rules_up_to most_words d e

  pub breaks : (Rules d → ⊥) → device_ok d ≡ false
  breaks h = ⊎_elim (λ e. absurd (h (rules_lem e))) (λ e. e) (decided (device_ok d))

  pub words_of_lem : Rules d → words_up_to most_words d.words d.row ≡ true
  unfolding words_up_to
  words_of_lem r =
      let v : Rules d = r in
      rw (eq-eqb (d.words % d.row) 0 v.multiple, le-leb d.row d.words v.least, le-leb d.words most_words v.most)

  -- ---- the answer

  pub judged_bad : (Rules d → ⊥) → 13 ≡ record_number d
  unfolding record_number
  judged_bad h = sym (pick_false (device_ok d) 0 13 (breaks h))

  pub judged_good : Rules d → 0 ≡ record_number d
  unfolding record_number
  judged_good r = sym (pick_true (device_ok d) 0 13 (keeps r))

  -- so 13 tells that a rule is broken
  pub broken_of_13 : record_number d ≡ 13 → Rules d → ⊥
  broken_of_13 e r = let z : ◌≡◌ {A = ℕ} 0 13 = judged_good r ∙ e in omega arith

  -- the tests of the code, one by one
  pub judged_all : row_ok d.row ≡ true → words_up_to most_words d.words d.row ≡ true → d.id < 0x4000 → d.mask1 < 0x4000 → d.mask2 < 0x4000 → d.idmask < 0x4000 → bit d.mask1 7 ≡ 1 → 0 ≡ record_number d
  unfolding record_number device_ok device_up_to pick
  judged_all r w i m n k b = rw (r, w, is_word_lem d.id i, is_word_lem d.mask1 m, is_word_lem d.mask2 n, is_word_lem d.idmask k, eq-eqb (bit d.mask1 7) 1 b)

  pub judged_row : row_ok d.row ≡ false → 13 ≡ record_number d
  judged_row f = judged_bad (λ r. true_not_false r.row_is f)

  pub judged_words : words_up_to most_words d.words d.row ≡ false → 13 ≡ record_number d
  judged_words f = judged_bad (λ r. true_not_false (words_of_lem r) f)

  -- an answer of 0 tells that the record keeps the rules, any other that it breaks them
  pub ok_of_judged : record_number d ≡ 0 → device_ok d ≡ true
  unfolding record_number
  ok_of_judged e = ⊎_elim (λ t. t) (λ f. absurd (bad f)) (decided (device_ok d))
    where
      bad : device_ok d ≡ false → ⊥
      bad f = let z : ◌≡◌ {A = ℕ} 13 0 = sym (pick_false (device_ok d) 0 13 f) ∙ e in omega arith

  pub rules_of_judged : record_number d ≡ 0 → Rules d
  rules_of_judged e = rules_lem (ok_of_judged e)

  pub bad_of_judged : (record_number d ≡ 0 → ⊥) → device_ok d ≡ false
  bad_of_judged h = ⊎_elim (λ t. absurd (h (sym (judged_good (rules_lem t))))) (λ f. f) (decided (device_ok d))

-- P is a multiple of 8 too
pub words_eighths : (d : Device) → Rules d → d.words % 8 ≡ 0
words_eighths d r = by (row_cases d.row r.row_is)
  where
    by : (d.row ≡ 8) ⊎ ((d.row ≡ 16) ⊎ (d.row ≡ 32)) → d.words % 8 ≡ 0
    by = ⊎_elim (λ e. rw e at r.multiple)
        (⊎_elim (λ e. let m : d.words % 16 ≡ 0 = rw e at r.multiple in omega arith)
        (λ e. let m : d.words % 32 ≡ 0 = rw e at r.multiple in omega arith))

-- the rows of a device: P is their number times R
pub whole_rows : (d : Device) → Rules d → d.words / d.row * d.row ≡ d.words
whole_rows d r = let e : d.words / d.row * d.row + d.words % d.row ≡ d.words = div-add-mod' d.words d.row in
    let m : d.words % d.row ≡ 0 = r.multiple in omega arith
