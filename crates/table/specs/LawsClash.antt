-- Laws of a clash: which word fits two devices, and so what a table without a clash comes to.
use Prim.Native.Nat.{ℕ, zero, suc, ◌≤◌, ◌<◌, min, max}
use Rattle.std.proofs.Common.{not-suc-le-zero, le_of_suc-le-suc, arith, ◌∙◌, ⊎_elim}
use Rattle.std.specs.Prelude.{◌≡◌, refl, true, false, ◌&&◌, not, ◌↔◌, List, [], ◌∷◌, leb, length, get_or}
use Rattle.std.proofs.Math.Path.{sym, ap}
use Rattle.std.specs.Int.Bits.{bit_and, bit_or}
use borrow.Author.Tests.{eqb-true, eq-eqb, le-leb}
use Rattle.words.specs.Word.{bit}
use Rattle.words.specs.LawsChoice.{first_holds, second_holds, second_fails, true_not_false}
use Rattle.words.specs.LawsTests.{by_test, by_lt, by_eq, or_cases, or_left, or_right}
use Rattle.words.specs.LawsWord.{bit_and_lem, bit_high, same_bits, high_bits}
use Rattle.words.specs.LawsMask.{bit_lt, bit_or_lem}
use Rattle.device.specs.declared.Device.{Device}
use Rattle.device.specs.Record.{most_words, fits}
use Rattle.device.specs.LawsRecord.{rules_lem}
use Rattle.device.specs.LawsId.{fits_same, fits_of}
use Rattle.table.specs.Table.{device_of, line_up_to, table_lines, ends_in_lf, lines_up_to, clash, clashes, ids_once, most_lines, table_up_to, table_ok}
use Rattle.table.specs.LawsTable.{line_device}

-- ---- bits as numbers below 2, with min for AND and max for OR

min_none : (x y : ℕ) → min x 0 ≡ min y 0
min_none x y = omega arith

max_none : (a b : ℕ) → min (max (min a 1) (min b 0)) 1 ≡ min a 1
max_none a b = omega arith

max_self : (a : ℕ) → min (max (min a 1) (min a 1)) 1 ≡ min a 1
max_self a = omega arith

one_one : (a b : ℕ) → a < 2 → b < 2 → min a (min 1 1) ≡ min b (min 1 1) → a ≡ b
one_one a b p q e = omega arith

max_swap : (a b : ℕ) → max a b ≡ max b a
max_swap a b = omega arith

min_swap : (a b : ℕ) → min a b ≡ min b a
min_swap a b = omega arith

min_group : (a m n : ℕ) → min a (min m n) ≡ min (min a m) n
min_group a m n = omega arith

-- bits a and b under masks m and n that agree where both masks have 1: joined, they are a under m
module _ (a m b n : ℕ) (a_bit : a < 2) (m_bit : m < 2) (b_bit : b < 2) (n_bit : n < 2) (e : min a (min m n) ≡ min b (min m n)) where
  joined_first : min (max (min a m) (min b n)) m ≡ min a m
  joined_first =
      by_eq m 0 (λ z. rw z (min_none _ a))
      (λ x. let one : m ≡ 1 = omega (arith, m_bit, x) in
      by_eq n 0 (λ z. rw (one, z) (max_none a b))
      (λ y. let also : n ≡ 1 = omega (arith, n_bit, y) in
      let same : a ≡ b = one_one a b a_bit b_bit (rw (one, also) at e) in
      rw (one, also, ← same) (max_self a)))

-- bits under two masks that a third bit has too
shared : (w a m b n : ℕ) → min w m ≡ min a m → min w n ≡ min b n → min a (min m n) ≡ min b (min m n)
shared w a m b n p q =
    min_group a m n
    ∙ (ap (λ x. min x n) (sym p)
    ∙ (sym (min_group w m n)
    ∙ (ap (min w) (min_swap m n)
    ∙ (min_group w n m
    ∙ (ap (λ x. min x m) q
    ∙ (sym (min_group b n m) ∙ ap (min b) (min_swap n m)))))))

-- ---- two devices

module _ (d e : Device) where
  -- each ID's bits under its own mask
  abbrev joint : ℕ
  joint = bit_or (bit_and d.id d.idmask) (bit_and e.id e.idmask)

  module _ (c : clash d e ≡ true) where
    -- where both masks have a bit the IDs have the same
    agree : (i : ℕ) → min (bit d.id i) (min (bit d.idmask i) (bit e.idmask i)) ≡ min (bit e.id i) (min (bit d.idmask i) (bit e.idmask i))
    unfolding clash
    agree i =
        let same : bit_and d.id (bit_and d.idmask e.idmask) ≡ bit_and e.id (bit_and d.idmask e.idmask) = eqb-true _ _ c in
        let l : bit (bit_and d.id (bit_and d.idmask e.idmask)) i ≡ min (bit d.id i) (bit (bit_and d.idmask e.idmask) i) = bit_and_lem _ _ i in
        let r : bit (bit_and e.id (bit_and d.idmask e.idmask)) i ≡ min (bit e.id i) (bit (bit_and d.idmask e.idmask) i) = bit_and_lem _ _ i in
        let m : bit (bit_and d.idmask e.idmask) i ≡ min (bit d.idmask i) (bit e.idmask i) = bit_and_lem _ _ i in
        let s : bit (bit_and d.id (bit_and d.idmask e.idmask)) i ≡ bit (bit_and e.id (bit_and d.idmask e.idmask)) i = ap (λ n. bit n i) same in
        rw m at (sym l ∙ (s ∙ r))

    joint_bit : (i : ℕ) → bit joint i ≡ max (min (bit d.id i) (bit d.idmask i)) (min (bit e.id i) (bit e.idmask i))
    joint_bit i = bit_or_lem _ _ i ∙ (λ k. max (bit_and_lem d.id d.idmask i k) (bit_and_lem e.id e.idmask i k))

    joint_first : bit_and joint d.idmask ≡ bit_and d.id d.idmask
    joint_first =
        same_bits (bit_and joint d.idmask) (bit_and d.id d.idmask) (λ i.
        bit_and_lem joint d.idmask i
        ∙ (ap (λ n. min n (bit d.idmask i)) (joint_bit i)
        ∙ (joined_first (bit d.id i) (bit d.idmask i) (bit e.id i) (bit e.idmask i) (bit_lt d.id i) (bit_lt d.idmask i) (bit_lt e.id i) (bit_lt e.idmask i) (agree i)
        ∙ sym (bit_and_lem d.id d.idmask i))))

    joint_second : bit_and joint e.idmask ≡ bit_and e.id e.idmask
    joint_second =
        same_bits (bit_and joint e.idmask) (bit_and e.id e.idmask) (λ i.
        bit_and_lem joint e.idmask i
        ∙ (ap (λ n. min n (bit e.idmask i)) (joint_bit i ∙ max_swap (min (bit d.id i) (bit d.idmask i)) (min (bit e.id i) (bit e.idmask i)))
        ∙ (joined_first (bit e.id i) (bit e.idmask i) (bit d.id i) (bit d.idmask i) (bit_lt e.id i) (bit_lt e.idmask i) (bit_lt d.id i) (bit_lt d.idmask i)
        (ap (min (bit e.id i)) (min_swap (bit e.idmask i) (bit d.idmask i)) ∙ (sym (agree i) ∙ ap (min (bit d.id i)) (min_swap (bit d.idmask i) (bit e.idmask i))))
        ∙ sym (bit_and_lem e.id e.idmask i))))

    joint_word : d.id < 0x4000 → e.id < 0x4000 → joint < 0x4000
    joint_word p q =
        high_bits 14 joint (λ i h.
        let a : bit d.id i ≡ 0 = bit_high 14 d.id i p h in
        let b : bit e.id i ≡ 0 = bit_high 14 e.id i q h in
        let j : bit joint i ≡ max (min (bit d.id i) (bit d.idmask i)) (min (bit e.id i) (bit e.idmask i)) = joint_bit i in
        omega arith)

  -- a word that fits both makes them agree wherever both masks have 1
  clash_of : (w : ℕ) → fits d w ≡ true → fits e w ≡ true → clash d e ≡ true
  unfolding clash
  clash_of w f g =
      eq-eqb _ _
      (same_bits (bit_and d.id (bit_and d.idmask e.idmask)) (bit_and e.id (bit_and d.idmask e.idmask)) (λ i.
      under d.id i
      ∙ (shared (bit w i) (bit d.id i) (bit d.idmask i) (bit e.id i) (bit e.idmask i)
      (sym (bit_and_lem w d.idmask i) ∙ (ap (λ n. bit n i) (fits_same d w f) ∙ bit_and_lem d.id d.idmask i))
      (sym (bit_and_lem w e.idmask i) ∙ (ap (λ n. bit n i) (fits_same e w g) ∙ bit_and_lem e.id e.idmask i))
      ∙ sym (under e.id i))))
    where
      under : (x i : ℕ) → bit (bit_and x (bit_and d.idmask e.idmask)) i ≡ min (bit x i) (min (bit d.idmask i) (bit e.idmask i))
      under x i = bit_and_lem x (bit_and d.idmask e.idmask) i ∙ ap (min (bit x i)) (bit_and_lem d.idmask e.idmask i)

-- two devices whose IDs are words clash exactly when some word fits both
pub clash_exactly : (d e : Device) → d.id < 0x4000 → e.id < 0x4000 → (clash d e ≡ true) ↔ ((w : ℕ) × (fits d w ≡ true) × (fits e w ≡ true))
clash_exactly d e p q = (
  (λ c. (joint d e, fits_of d (joint d e) (joint_word d e c p q) (joint_first d e c), fits_of e (joint d e) (joint_word d e c p q) (joint_second d e c))),
  (λ s. clash_of d e s.0 s.1 s.2),
)

-- ---- the lines of a table

-- some word fits two of the lines
pub record FitsTwo (lines : List (List ℕ)) : Type 0 where
  pub word : ℕ
  pub first : ℕ
  pub second : ℕ
  pub order : first < second
  pub within : second < length lines
  pub fits_first : fits (device_of (get_or lines first [])) word ≡ true
  pub fits_second : fits (device_of (get_or lines second [])) word ≡ true

-- each line of a sound list has an ID of 14 bits
sound_id : (ls : List (List ℕ)) → lines_up_to most_words ls ≡ true → (k : ℕ) → k < length ls → (device_of (get_or ls k [])).id < 0x4000
unfolding lines_up_to
sound_id [] a k h = absurd (not-suc-le-zero h)
sound_id (l ∷ ls) a zero h = (rules_lem (device_of l) (line_device l (first_holds (line_up_to most_words l) (lines_up_to most_words ls) a))).id_word
sound_id (l ∷ ls) a (suc k) h = sound_id ls (second_holds (line_up_to most_words l) (lines_up_to most_words ls) a) k (le_of_suc-le-suc h)

-- the line that a device clashes with
clashes_at : (d : Device) (ls : List (List ℕ)) → clashes d ls ≡ true → (k : ℕ) × (k < length ls) × (clash d (device_of (get_or ls k [])) ≡ true)
unfolding clashes
clashes_at d [] c = absurd (true_not_false c refl)
clashes_at d (l ∷ ls) c =
    ⊎_elim (λ t. (0, omega arith, t)) (λ t. let r = clashes_at d ls t in (suc r.0, omega (arith, r.1), r.2)) (or_cases (clash d (device_of l)) (clashes d ls) c)

at_clashes : (d : Device) (ls : List (List ℕ)) (k : ℕ) → k < length ls → clash d (device_of (get_or ls k [])) ≡ true → clashes d ls ≡ true
unfolding clashes
at_clashes d [] k h c = absurd (not-suc-le-zero h)
at_clashes d (l ∷ ls) zero h c = or_left (clash d (device_of l)) (clashes d ls) c
at_clashes d (l ∷ ls) (suc k) h c = or_right (clash d (device_of l)) (clashes d ls) (at_clashes d ls k (le_of_suc-le-suc h) c)

-- a word that fits two of the lines after one, fits two of all
later : (l : List ℕ) (ls : List (List ℕ)) → FitsTwo ls → FitsTwo (l ∷ ls)
later l ls t =
    record {
      word = t.word;
      first = suc t.first;
      second = suc t.second;
      order = omega (arith, t.order);
      within = omega (arith, t.within);
      fits_first = t.fits_first;
      fits_second = t.fits_second;
    }

twice_fits : (ls : List (List ℕ)) → lines_up_to most_words ls ≡ true → ids_once ls ≡ false → FitsTwo ls
unfolding ids_once lines_up_to
twice_fits [] a f = absurd (true_not_false refl f)
twice_fits (l ∷ ls) a f =
    by_test (clashes (device_of l) ls)
    (λ c. let r = clashes_at (device_of l) ls c in
    let w = (clash_exactly (device_of l) (device_of (get_or ls r.0 [])) (sound_id (l ∷ ls) a 0 (omega arith)) (sound_id ls rest r.0 r.1)).0 r.2 in
    record {
      word = w.0;
      first = 0;
      second = suc r.0;
      order = omega arith;
      within = omega (arith, r.1);
      fits_first = w.1;
      fits_second = w.2;
    })
    (λ c. later l ls (twice_fits ls rest (rw c at f)))
  where
    rest : lines_up_to most_words ls ≡ true
    rest = second_holds (line_up_to most_words l) (lines_up_to most_words ls) a

fits_twice : (ls : List (List ℕ)) (w i j : ℕ) → i < j → j < length ls → fits (device_of (get_or ls i [])) w ≡ true → fits (device_of (get_or ls j [])) w ≡ true → ids_once ls ≡ false
unfolding ids_once
fits_twice [] w i j o h f g = absurd (not-suc-le-zero h)
fits_twice (l ∷ ls) w i zero o h f g = absurd (not-suc-le-zero o)
fits_twice (l ∷ ls) w zero (suc j) o h f g =
    rw (at_clashes (device_of l) ls j (le_of_suc-le-suc h) (clash_of (device_of l) (device_of (get_or ls j [])) w f g))
fits_twice (l ∷ ls) w (suc i) (suc j) o h f g =
    second_fails (not (clashes (device_of l) ls)) (ids_once ls) (fits_twice ls w i j (le_of_suc-le-suc o) (le_of_suc-le-suc h) f g)

-- ---- the table

-- with 1 to 64 lines, each ended and each sound, a table is malformed exactly when some word fits two of them
pub table_exactly : (text : List ℕ) → ends_in_lf text ≡ true → 1 ≤ length (table_lines text) → length (table_lines text) ≤ most_lines
    → lines_up_to most_words (table_lines text) ≡ true → (table_ok text ≡ false) ↔ FitsTwo (table_lines text)
unfolding table_ok table_up_to
table_exactly text ends some few sound = (
  (λ f. twice_fits (table_lines text) sound (sym only ∙ f)),
  (λ t. only ∙ fits_twice (table_lines text) t.word t.first t.second t.order t.within t.fits_first t.fits_second),
)
  where
    only : (ends_in_lf text && leb 1 (length (table_lines text)) && leb (length (table_lines text)) most_lines && lines_up_to most_words (table_lines text) && ids_once (table_lines text)) ≡ ids_once (table_lines text)
    only = rw (ends, le-leb 1 (length (table_lines text)) some, le-leb (length (table_lines text)) most_lines few, sound)

-- in a sound table a word fits at most one line, so that the first is no choice
pub found_only : (text : List ℕ) → table_ok text ≡ true → (w i j : ℕ) → i < length (table_lines text) → j < length (table_lines text)
    → fits (device_of (get_or (table_lines text) i [])) w ≡ true → fits (device_of (get_or (table_lines text) j [])) w ≡ true → i ≡ j
unfolding table_ok table_up_to
found_only text ok w i j p q f g =
    by_lt i j (λ h. absurd (true_not_false once (fits_twice (table_lines text) w i j h q f g)))
    (λ h. by_lt j i (λ k. absurd (true_not_false once (fits_twice (table_lines text) w j i k p g f))) (λ k. omega arith))
  where
    once : ids_once (table_lines text) ≡ true
    once = second_holds
        (ends_in_lf text && leb 1 (length (table_lines text)) && leb (length (table_lines text)) most_lines && lines_up_to most_words (table_lines text))
        (ids_once (table_lines text)) ok
