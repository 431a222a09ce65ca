-- What a verdict tells of the two readings, when each verdict is given, and what has no say in it.
use Rattle.std.specs.Prelude.{ℕ, ◌+◌, ◌-◌, ◌≤◌, ◌<◌, ◌≡◌, refl, ◌⊎◌, true, false, ◌&&◌, not, List, ltb, get_or}
use Rattle.std.proofs.Common.{arith, pos_of_ne-zero, le_of_lt, sym, ◌∙◌, inl, inr, ⊎_elim}
use Rattle.std.proofs.Math.Decide.{dec_lt, ℕ_discrete}
use Rattle.std.proofs.Math.Path.{ap, ap₂}
use Rattle.std.proofs.Math.Dec.{eqb}
use Rattle.std.specs.Int.Bits.{bit_and}
use Rattle.words.specs.LawsChoice.{decided, true_not_false, first_holds}
use Rattle.words.specs.Word.{bit, under_mask}
use Rattle.words.specs.LawsMask.{under_equal, equal_under, equal_bit}
use Rattle.words.specs.Address.{config_base, address_of}
use Rattle.words.specs.First.{first_to}
use Rattle.words.specs.LawsFirst.{first, first_same}
use Rattle.device.specs.declared.Device.{Device}
use Rattle.device.specs.Record.{device_ok}
use Rattle.device.specs.Memory.{reading_tail, ids, cp_word, cp_bit, programmable, mask_at, reading_ok, zero_bit, protected}
use Rattle.device.specs.LawsRecord.{rules_lem}
use Rattle.device.specs.LawsMask.{mask_one, mask_two, under_plain}
use Rattle.device.specs.LawsMemory.{reading_each, protected_same}
use Rattle.judge.specs.Count.{count_to}
use Rattle.judge.specs.Verify.{judged, entry_differs, bare, verdict_of, verified}
use Rattle.judge.specs.LawsCount.{count_none, count_zero, count_same, first_counted}
use Rattle.judge.specs.LawsVerify.{judged_program, judged_id, judged_between, judged_config, differs_there, differs_under, differs_equal, differs_same, differs_not_judged, verdict_0, verdict_41, verdict_40, verified_13, verified_21_wanted, verified_21_reading, verified_judged, address_ascends}

-- ---- the number

bare_number : (n : ℕ) → (bare n).number ≡ n
bare_number n = refl

module _ (d : Device) (wanted reading : List ℕ) where
  number_0 : count_to (d.words + reading_tail) (entry_differs d wanted reading) ≡ 0 → protected d.words reading ≡ false → (verdict_of d wanted reading).number ≡ 0
  number_0 z f = ap (λ v. v.number) (verdict_0 d wanted reading z f) ∙ bare_number 0

  number_41 : count_to (d.words + reading_tail) (entry_differs d wanted reading) ≡ 0 → protected d.words reading ≡ true → (verdict_of d wanted reading).number ≡ 41
  number_41 z f = ap (λ v. v.number) (verdict_41 d wanted reading z f) ∙ bare_number 41

  number_40 : 0 < count_to (d.words + reading_tail) (entry_differs d wanted reading) → (verdict_of d wanted reading).number ≡ 40
  number_40 h = ap (λ v. v.number) (verdict_40 d wanted reading h)

-- the three verdicts, told apart by whether a word differs and whether the board is protected
pub data Told (d : Device) (wanted reading : List ℕ) : Type 0 where
  clean : count_to (d.words + reading_tail) (entry_differs d wanted reading) ≡ 0 → protected d.words reading ≡ false → (verdict_of d wanted reading).number ≡ 0 → Told d wanted reading
  closed : count_to (d.words + reading_tail) (entry_differs d wanted reading) ≡ 0 → protected d.words reading ≡ true → (verdict_of d wanted reading).number ≡ 41 → Told d wanted reading
  other : 0 < count_to (d.words + reading_tail) (entry_differs d wanted reading) → (verdict_of d wanted reading).number ≡ 40 → Told d wanted reading

pub told : (d : Device) (wanted reading : List ℕ) → Told d wanted reading
told d wanted reading = by (ℕ_discrete (count_to (d.words + reading_tail) (entry_differs d wanted reading)) 0) (decided (protected d.words reading))
  where
    by : Dec (count_to (d.words + reading_tail) (entry_differs d wanted reading) ≡ 0) → (protected d.words reading ≡ true) ⊎ (protected d.words reading ≡ false) → Told d wanted reading
    by (yes z) (inl p) = closed z p (number_41 d wanted reading z p)
    by (yes z) (inr p) = clean z p (number_0 d wanted reading z p)
    by (no z) p = other (pos_of_ne-zero z) (number_40 d wanted reading (pos_of_ne-zero z))

-- a verdict is 0, 40 or 41
pub verdict_number : (d : Device) (wanted reading : List ℕ)
    → ((verdict_of d wanted reading).number ≡ 0) ⊎ (((verdict_of d wanted reading).number ≡ 40) ⊎ ((verdict_of d wanted reading).number ≡ 41))
verdict_number d wanted reading = by (told d wanted reading)
  where
    by : Told d wanted reading → ((verdict_of d wanted reading).number ≡ 0) ⊎ (((verdict_of d wanted reading).number ≡ 40) ⊎ ((verdict_of d wanted reading).number ≡ 41))
    by (clean z p e) = inl e
    by (closed z p e) = inr (inr e)
    by (other h e) = inr (inl e)

-- ---- what each verdict tells

-- user IDs are the same, and configuration words under their masks
pub record Agree (d : Device) (wanted reading : List ℕ) : Type 0 where
  pub ids : (k : ℕ) → k < ids → get_or wanted (d.words + k) 0 ≡ get_or reading (d.words + k) 0
  pub config1 : bit_and (get_or wanted (d.words + 7) 0) d.mask1 ≡ bit_and (get_or reading (d.words + 7) 0) d.mask1
  pub config2 : bit_and (get_or wanted (d.words + 8) 0) d.mask2 ≡ bit_and (get_or reading (d.words + 8) 0) d.mask2

module _ (d : Device) (wanted reading : List ℕ) where
  same_there : count_to (d.words + reading_tail) (entry_differs d wanted reading) ≡ 0 → (i : ℕ) → i < d.words + reading_tail → judged d.words (protected d.words reading) i ≡ true
      → under_mask (mask_at d i) (get_or wanted i 0) (get_or reading i 0) ≡ get_or reading i 0
  same_there z i h j = differs_there d wanted reading i j (count_zero (d.words + reading_tail) (entry_differs d wanted reading) z i h)

  -- a program word or user ID has every bit
  equal_there : count_to (d.words + reading_tail) (entry_differs d wanted reading) ≡ 0 → (i : ℕ) → i < d.words + ids → judged d.words (protected d.words reading) i ≡ true
      → get_or wanted i 0 ≡ get_or reading i 0
  equal_there z i h j = sym (under_plain d i (omega arith) (get_or wanted i 0) (get_or reading i 0)) ∙ same_there z i (omega arith) j

  -- a configuration word has those of its mask
  config_there : count_to (d.words + reading_tail) (entry_differs d wanted reading) ≡ 0 → (k mask : ℕ) → cp_word ≤ k → k < reading_tail → mask_at d (d.words + k) ≡ mask
      → bit_and (get_or wanted (d.words + k) 0) mask ≡ bit_and (get_or reading (d.words + k) 0) mask
  config_there z k mask p h e =
      under_equal mask (get_or wanted (d.words + k) 0) (get_or reading (d.words + k) 0)
      (ap (λ m. under_mask m (get_or wanted (d.words + k) 0) (get_or reading (d.words + k) 0)) (sym e)
      ∙ same_there z (d.words + k) (omega arith) (judged_config d.words (protected d.words reading) (d.words + k) (omega arith) (omega arith)))

  -- no judged word differs: user IDs are the same, and configuration words under their masks
  agree_of_count : count_to (d.words + reading_tail) (entry_differs d wanted reading) ≡ 0 → Agree d wanted reading
  agree_of_count z =
      record {
        ids = λ k h. equal_there z (d.words + k) (omega arith) (judged_id d.words (protected d.words reading) (d.words + k) (omega arith) (omega arith));
        config1 = config_there z 7 d.mask1 (omega arith) (omega arith) (mask_one d (d.words + 7) refl);
        config2 = config_there z 8 d.mask2 (omega arith) (omega arith) (mask_two d (d.words + 8) refl);
      }

  -- and program words too, unless they are hidden
  copied_of_count : count_to (d.words + reading_tail) (entry_differs d wanted reading) ≡ 0 → protected d.words reading ≡ false → (i : ℕ) → i < d.words → get_or wanted i 0 ≡ get_or reading i 0
  copied_of_count z f i h = equal_there z i (omega arith) (judged_program d.words (protected d.words reading) i h ∙ ap not f)

  -- 0: every program word and user ID is the wanted one, every configuration word is so under its mask, and the board is not protected
  pub record Clean : Type 0 where
    pub agree : Agree d wanted reading
    pub copied : (i : ℕ) → i < d.words → get_or wanted i 0 ≡ get_or reading i 0
    pub shown : protected d.words reading ≡ false

  pub clean_of_0 : (verdict_of d wanted reading).number ≡ 0 → Clean
  clean_of_0 e = by (told d wanted reading)
    where
      by : Told d wanted reading → Clean
      by (clean z p n) = record { agree = agree_of_count z; copied = copied_of_count z p; shown = p }
      by (closed z p n) = absurd (omega arith)
      by (other h n) = absurd (omega arith)

  -- 41: user IDs are the wanted ones, configuration words are so under their masks, and the board is protected
  pub agree_of_41 : (verdict_of d wanted reading).number ≡ 41 → Agree d wanted reading × (protected d.words reading ≡ true)
  agree_of_41 e = by (told d wanted reading)
    where
      by : Told d wanted reading → Agree d wanted reading × (protected d.words reading ≡ true)
      by (clean z p n) = absurd (omega arith)
      by (closed z p n) = (agree_of_count z, p)
      by (other h n) = absurd (omega arith)

  -- 40: there is a first entry that is judged and differs, and the address is its
  pub record Differs (place : ℕ) : Type 0 where
    pub within : place < d.words + reading_tail
    pub here : entry_differs d wanted reading place ≡ true
    pub before : (i : ℕ) → i < place → entry_differs d wanted reading i ≡ false
    pub address_is : (verdict_of d wanted reading).address.0 ≡ address_of config_base d.words place
    pub count_is : (verdict_of d wanted reading).count ≡ count_to (d.words + reading_tail) (entry_differs d wanted reading)

  pub differs_of_40 : (verdict_of d wanted reading).number ≡ 40 → Differs (first_to (d.words + reading_tail) (entry_differs d wanted reading))
  differs_of_40 e = by (told d wanted reading)
    where
      by : Told d wanted reading → Differs (first_to (d.words + reading_tail) (entry_differs d wanted reading))
      by (clean z p n) = absurd (omega arith)
      by (closed z p n) = absurd (omega arith)
      by (other h n) =
          let place = first (d.words + reading_tail) (entry_differs d wanted reading) in
          let in_range_lem = first_counted (d.words + reading_tail) (entry_differs d wanted reading) h in
          record {
            within = in_range_lem;
            here = place.here in_range_lem;
            before = place.before;
            address_is = ap (λ v. v.address.0) (verdict_40 d wanted reading h);
            count_is = ap (λ v. v.count) (verdict_40 d wanted reading h);
          }

-- no judged word that differs has a lower address
pub lowest_of_40 : (d : Device) (wanted reading : List ℕ) → d.words ≤ config_base → (verdict_of d wanted reading).number ≡ 40 → (i : ℕ)
    → entry_differs d wanted reading i ≡ true → (verdict_of d wanted reading).address.0 ≤ address_of config_base d.words i
lowest_of_40 d wanted reading low e i t = by (differs_of_40 d wanted reading e) (dec_lt i place) (dec_lt place i)
  where
    place : ℕ
    place = first_to (d.words + reading_tail) (entry_differs d wanted reading)

    by : Differs d wanted reading place → Dec (i < place) → Dec (place < i) → (verdict_of d wanted reading).address.0 ≤ address_of config_base d.words i
    by r (yes p) q = absurd (true_not_false t (r.before i p))
    by r (no p) (yes q) = rw r.address_is (le_of_lt (address_ascends d.words place i low q))
    by r (no p) (no q) =
        let e : i ≡ place = omega arith in
        rw (r.address_is, e) (omega arith)

-- ---- when each verdict is given

module _ (d : Device) (wanted reading : List ℕ) (w : reading_ok d.words wanted ≡ true) (r : reading_ok d.words reading ≡ true) (a : Agree d wanted reading) where
  config_same : (i mask : ℕ) → mask_at d i ≡ mask → bit_and (get_or wanted i 0) mask ≡ bit_and (get_or reading i 0) mask → entry_differs d wanted reading i ≡ false
  config_same i mask m e =
      differs_under d wanted reading i
      (ap (λ n. under_mask n (get_or wanted i 0) (get_or reading i 0)) m
      ∙ equal_under mask (get_or wanted i 0) (get_or reading i 0) (reading_each d.words wanted w i) (reading_each d.words reading r i) e)

  -- above the program words nothing judged differs
  tail_same : (i : ℕ) → d.words ≤ i → i < d.words + reading_tail → Dec (i < d.words + ids) → Dec (i < d.words + cp_word) → Dec (i < d.words + 8) → entry_differs d wanted reading i ≡ false
  tail_same i p h (yes q) r t =
      let e : d.words + (i - d.words) ≡ i = omega arith in
      differs_equal d wanted reading i (rw e at (a.ids (i - d.words) (omega arith)))
  tail_same i p h (no q) (yes r) t = differs_not_judged d wanted reading i (judged_between d.words (protected d.words reading) i (omega arith) r)
  tail_same i p h (no q) (no r) (yes t) =
      let e : i ≡ d.words + 7 = omega arith in
      config_same i d.mask1 (mask_one d i e) (rw e a.config1)
  tail_same i p h (no q) (no r) (no t) =
      let e : i ≡ d.words + 8 = omega arith in
      config_same i d.mask2 (mask_two d i e) (rw e a.config2)

  none_differ : ((i : ℕ) → i < d.words → entry_differs d wanted reading i ≡ false) → count_to (d.words + reading_tail) (entry_differs d wanted reading) ≡ 0
  none_differ program = count_none (d.words + reading_tail) (entry_differs d wanted reading) (λ i h. by i h (dec_lt i d.words))
    where
      by : (i : ℕ) → i < d.words + reading_tail → Dec (i < d.words) → entry_differs d wanted reading i ≡ false
      by i h (yes p) = program i p
      by i h (no p) = tail_same i (omega arith) h (dec_lt i (d.words + ids)) (dec_lt i (d.words + cp_word)) (dec_lt i (d.words + 8))

  pub clean_is_0 : ((i : ℕ) → i < d.words → get_or wanted i 0 ≡ get_or reading i 0) → protected d.words reading ≡ false → verdict_of d wanted reading ≡ bare 0
  clean_is_0 copied f = verdict_0 d wanted reading (none_differ (λ i h. differs_equal d wanted reading i (copied i h))) f

  pub agree_is_41 : protected d.words reading ≡ true → verdict_of d wanted reading ≡ bare 41
  agree_is_41 t =
      verdict_41 d wanted reading
      (none_differ (λ i h. differs_not_judged d wanted reading i (judged_program d.words (protected d.words reading) i h ∙ ap not t))) t

-- ---- what has a say

-- readings of which the same entries differ, both protected or neither, get the same verdict
module _ (d : Device) (wanted wanted' reading reading' : List ℕ) (guard : protected d.words reading ≡ protected d.words reading')
    (each : (i : ℕ) → i < d.words + reading_tail → entry_differs d wanted reading i ≡ entry_differs d wanted' reading' i) where
  same_verdict : verdict_of d wanted reading ≡ verdict_of d wanted' reading'
  unfolding verdict_of
  same_verdict =
      rw (
        count_same (entry_differs d wanted reading) (entry_differs d wanted' reading') (d.words + reading_tail) each,
        first_same (entry_differs d wanted reading) (entry_differs d wanted' reading') (d.words + reading_tail) each,
        guard,
      )

-- readings that are the same wherever an entry is judged get the same verdict
module _ (d : Device) (wanted wanted' reading reading' : List ℕ)
    (same : (i : ℕ) → i < d.words + reading_tail → judged d.words (protected d.words reading) i ≡ true → (get_or wanted i 0 ≡ get_or wanted' i 0) × (get_or reading i 0 ≡ get_or reading' i 0)) where
  guard_same : protected d.words reading ≡ protected d.words reading'
  guard_same =
      protected_same d.words reading reading'
      (same (d.words + 7) (omega arith) (judged_config d.words (protected d.words reading) (d.words + 7) (omega arith) (omega arith))).1

  each_same : (i : ℕ) → i < d.words + reading_tail → entry_differs d wanted reading i ≡ entry_differs d wanted' reading' i
  each_same i h = ⊎_elim there not_there (decided (judged d.words (protected d.words reading) i))
    where
      there : judged d.words (protected d.words reading) i ≡ true → entry_differs d wanted reading i ≡ entry_differs d wanted' reading' i
      there j = unfold entry_differs in rw (← guard_same, (same i h j).0, (same i h j).1)

      not_there : judged d.words (protected d.words reading) i ≡ false → entry_differs d wanted reading i ≡ entry_differs d wanted' reading' i
      not_there j = differs_not_judged d wanted reading i j ∙ sym (differs_not_judged d wanted' reading' i (rw (← guard_same) j))

  pub verdict_same : verdict_of d wanted reading ≡ verdict_of d wanted' reading'
  verdict_same = same_verdict d wanted wanted' reading reading' guard_same each_same

-- a protected reading: program words have no say, on either side
pub hidden_same : (d : Device) (wanted wanted' reading reading' : List ℕ) → protected d.words reading ≡ true
    → ((k : ℕ) → k < reading_tail → get_or wanted (d.words + k) 0 ≡ get_or wanted' (d.words + k) 0)
    → ((k : ℕ) → k < reading_tail → get_or reading (d.words + k) 0 ≡ get_or reading' (d.words + k) 0) → verdict_of d wanted reading ≡ verdict_of d wanted' reading'
hidden_same d wanted wanted' reading reading' t f g = verdict_same d wanted wanted' reading reading' (λ i h j. by i h j (dec_lt i d.words))
  where
    by : (i : ℕ) → i < d.words + reading_tail → judged d.words (protected d.words reading) i ≡ true → Dec (i < d.words) → (get_or wanted i 0 ≡ get_or wanted' i 0) × (get_or reading i 0 ≡ get_or reading' i 0)
    by i h j (yes p) = absurd (true_not_false j (judged_program d.words (protected d.words reading) i p ∙ ap not t))
    by i h j (no p) =
        let e : d.words + (i - d.words) ≡ i = omega arith in
        (rw e at (f (i - d.words) (omega arith)), rw e at (g (i - d.words) (omega arith)))

-- the words at 8004h to 8006h never have a say
pub reserved_same : (d : Device) (wanted wanted' reading reading' : List ℕ)
    → ((i : ℕ) → programmable d.words i ≡ true → (get_or wanted i 0 ≡ get_or wanted' i 0) × (get_or reading i 0 ≡ get_or reading' i 0))
    → verdict_of d wanted reading ≡ verdict_of d wanted' reading'
unfolding judged
reserved_same d wanted wanted' reading reading' f =
    verdict_same d wanted wanted' reading reading' (λ i h j. f i (first_holds (programmable d.words i) (not (protected d.words reading && ltb i d.words)) j))

-- bits outside the masks have no say
module _ (d : Device) (ok : device_ok d ≡ true) (wanted wanted' reading reading' : List ℕ)
    (w : reading_ok d.words wanted ≡ true) (w' : reading_ok d.words wanted' ≡ true) (r : reading_ok d.words reading ≡ true) (r' : reading_ok d.words reading' ≡ true)
    (same : (i : ℕ) → i < d.words + reading_tail
    → (bit_and (get_or wanted i 0) (mask_at d i) ≡ bit_and (get_or wanted' i 0) (mask_at d i)) × (bit_and (get_or reading i 0) (mask_at d i) ≡ bit_and (get_or reading' i 0) (mask_at d i))) where
  -- mask 1 has the bit of CP
  spare_guard : protected d.words reading ≡ protected d.words reading'
  unfolding protected zero_bit
  spare_guard =
      ap (λ n. eqb n 0)
      (equal_bit (mask_at d (d.words + cp_word)) (get_or reading (d.words + cp_word) 0) (get_or reading' (d.words + cp_word) 0) (same (d.words + cp_word) (omega arith)).1 cp_bit
      (ap (λ m. bit m cp_bit) (mask_one d (d.words + cp_word) refl) ∙ (rules_lem d ok).cp_bit_lem))

  spare_each : (i : ℕ) → i < d.words + reading_tail → entry_differs d wanted reading i ≡ entry_differs d wanted' reading' i
  unfolding entry_differs
  spare_each i h =
      ap₂ (λ b c. judged d.words b i && c) spare_guard
      (differs_same (mask_at d i) (get_or wanted i 0) (get_or wanted' i 0) (get_or reading i 0) (get_or reading' i 0)
      (reading_each d.words wanted w i) (reading_each d.words wanted' w' i) (reading_each d.words reading r i) (reading_each d.words reading' r' i)
      (same i h).0 (same i h).1)

  pub spare_same : verdict_of d wanted reading ≡ verdict_of d wanted' reading'
  spare_same = same_verdict d wanted wanted' reading reading' spare_guard spare_each

-- ---- the answer's number

-- record and readings keep the rules, and the answer is the verdict
pub record Verified (d : Device) (wanted reading : List ℕ) : Type 0 where
  pub device_ok_lem : device_ok d ≡ true
  pub wanted_ok : reading_ok d.words wanted ≡ true
  pub reading_ok_lem : reading_ok d.words reading ≡ true
  pub verdict_is : verified d wanted reading ≡ verdict_of d wanted reading

-- an answer other than 13 and 21 is the verdict
pub verified_of : (d : Device) (wanted reading : List ℕ) → ((verified d wanted reading).number ≡ 13 → ⊥) → ((verified d wanted reading).number ≡ 21 → ⊥) → Verified d wanted reading
verified_of d wanted reading n m = by (decided (device_ok d)) (decided (reading_ok d.words wanted)) (decided (reading_ok d.words reading))
  where
    by : (device_ok d ≡ true) ⊎ (device_ok d ≡ false) → (reading_ok d.words wanted ≡ true) ⊎ (reading_ok d.words wanted ≡ false)
        → (reading_ok d.words reading ≡ true) ⊎ (reading_ok d.words reading ≡ false) → Verified d wanted reading
    by (inl e) (inl f) (inl g) = record { device_ok_lem = e; wanted_ok = f; reading_ok_lem = g; verdict_is = verified_judged d wanted reading e f g }
    by (inl e) (inl f) (inr g) = absurd (m (ap (λ v. v.number) (verified_21_reading d wanted reading e f g) ∙ bare_number 21))
    by (inl e) (inr f) g = absurd (m (ap (λ v. v.number) (verified_21_wanted d wanted reading e f) ∙ bare_number 21))
    by (inr e) f g = absurd (n (ap (λ v. v.number) (verified_13 d wanted reading e) ∙ bare_number 13))
