-- Laws of verify: which entries are judged and which differ, and the answers case by case.
use Rattle.std.specs.Prelude.{Ok, Err, Some, None, ℕ, ◌+◌, ◌≤◌, ◌<◌, ◌≡◌, Bool, ◌&&◌, List, eqb, get_or}
use Rattle.std.proofs.Common.{arith, sym, ap, ◌∙◌}
use Rattle.std.proofs.Math.Decide.{dec_lt}
use Rattle.std.proofs.Math.Path.{refl}
use Rattle.std.proofs.Math.Bool.{true, false, not}
use Rattle.std.specs.Int.Bits.{bit_and}
use borrow.Author.Tests.{lt-ltb, le-ltb, eqb-true, eq-eqb, ne_eqb, not-false}
use Rattle.words.specs.Choice.{pick}
use Rattle.words.specs.Word.{under_mask}
use Rattle.words.specs.LawsChoice.{second_fails, true_not_false}
use Rattle.words.specs.LawsTests.{by_test}
use Rattle.words.specs.LawsMask.{under_same, under_equal, equal_under}
use Rattle.words.specs.Address.{config_base, address_of, place_of}
use Rattle.words.specs.LawsAddress.{place_of_lem, address_program, address_config}
use Rattle.words.specs.declared.WordAddress.{WordAddress}
use Rattle.words.specs.First.{first_to}
use Rattle.device.specs.declared.Device.{Device}
use Rattle.device.specs.Record.{most_words, device_ok, record_number}
use Rattle.device.specs.LawsRecord.{ok_of_judged}
use Rattle.device.specs.Memory.{reading_tail, ids, cp_word, programmable, mask_at, reading_ok, protected}
use Rattle.device.specs.LawsMask.{under_plain}
use Rattle.device.specs.LawsMemory.{programmable_low, programmable_never, programmable_config}
use Rattle.judge.specs.declared.Verdict.{Verdict}
use Rattle.judge.specs.declared.Verdict.TheVariants.{Same, Differs, Protected}
use Rattle.refusal.specs.declared.Refusal.{Refusal}
use Rattle.refusal.specs.declared.Refusal.TheVariants.{Reading}
use Rattle.refusal.specs.Refusal.{number_of}
use Rattle.judge.specs.LawsChecksum.{broken}
use Rattle.judge.specs.Count.{count_to}
use Rattle.judge.specs.declared.verdicts.Differences.{Differences}
use Rattle.judge.specs.LawsCount.{Seen, first_counted}
use Rattle.judge.specs.Verify.{judged, word_differs, entry_differs, bare, as_told, verdict_told, verdict_of, verified}

-- ---- which entries are judged

module _ (words : ℕ) (hidden : Bool) (i : ℕ) where
  pub judged_program : i < words → judged words hidden i ≡ not hidden
  unfolding judged
  judged_program h = rw (programmable_low words i (omega arith), lt-ltb i words h) (by hidden)
    where
      by : (b : Bool) → not (b && true) ≡ not b
      by true = refl
      by false = refl

  -- above the program words protection has no say
  pub judged_above : words ≤ i → judged words hidden i ≡ programmable words i
  unfolding judged
  judged_above p = rw (le-ltb i words p) (by hidden (programmable words i))
    where
      by : (b c : Bool) → (c && not (b && false)) ≡ c
      by true true = refl
      by true false = refl
      by false true = refl
      by false false = refl

  pub judged_id : words ≤ i → i < words + ids → judged words hidden i ≡ true
  judged_id p h = judged_above p ∙ programmable_low words i h

  pub judged_between : words + ids ≤ i → i < words + cp_word → judged words hidden i ≡ false
  judged_between p h = judged_above (omega arith) ∙ programmable_never words i p h

  pub judged_config : words + cp_word ≤ i → i < words + reading_tail → judged words hidden i ≡ true
  judged_config p h = judged_above (omega arith) ∙ programmable_config words i p h

-- ---- which entries differ

module _ (mask wanted reading : ℕ) where
  -- a word does not differ if it takes the wanted bits under the mask and stays as it is
  pub same_of : word_differs mask wanted reading ≡ false → under_mask mask wanted reading ≡ reading
  unfolding word_differs
  same_of e = eqb-true (under_mask mask wanted reading) reading (not-false (eqb (under_mask mask wanted reading) reading) e)

  pub same_is : under_mask mask wanted reading ≡ reading → word_differs mask wanted reading ≡ false
  unfolding word_differs
  same_is e = rw (eq-eqb (under_mask mask wanted reading) reading e)

-- only the bits under the mask have a say
pub differs_same : (mask a b c d : ℕ) → a < 0x4000 → b < 0x4000 → c < 0x4000 → d < 0x4000 → bit_and a mask ≡ bit_and b mask → bit_and c mask ≡ bit_and d mask → word_differs mask a c ≡ word_differs mask b d
differs_same mask a b c d pa pb pc pd e f =
    by_test (word_differs mask b d)
    (λ t. by_test (word_differs mask a c) (λ s. s ∙ sym t) (λ s. absurd (true_not_false t (same_is mask b d (equal_under mask b d pb pd (sym e ∙ (under_equal mask a c (same_of mask a c s) ∙ f)))))))
    (λ t. same_is mask a c (equal_under mask a c pa pc (e ∙ (under_equal mask b d (same_of mask b d t) ∙ sym f))) ∙ sym t)

module _ (d : Device) (wanted reading : List ℕ) (i : ℕ) where
  -- a judged entry that does not differ
  pub differs_there : judged d.words (protected d.words reading) i ≡ true → entry_differs d wanted reading i ≡ false
      → under_mask (mask_at d i) (get_or wanted i 0) (get_or reading i 0) ≡ get_or reading i 0
  unfolding entry_differs
  differs_there j e = same_of (mask_at d i) (get_or wanted i 0) (get_or reading i 0) (rw j at e)

  pub differs_under : under_mask (mask_at d i) (get_or wanted i 0) (get_or reading i 0) ≡ get_or reading i 0 → entry_differs d wanted reading i ≡ false
  unfolding entry_differs
  differs_under e =
      second_fails (judged d.words (protected d.words reading) i) (word_differs (mask_at d i) (get_or wanted i 0) (get_or reading i 0))
      (same_is (mask_at d i) (get_or wanted i 0) (get_or reading i 0) e)

  pub differs_equal : get_or wanted i 0 ≡ get_or reading i 0 → entry_differs d wanted reading i ≡ false
  differs_equal e = differs_under (ap (λ w. under_mask (mask_at d i) w (get_or reading i 0)) e ∙ under_same (mask_at d i) (get_or reading i 0))

  pub differs_not_judged : judged d.words (protected d.words reading) i ≡ false → entry_differs d wanted reading i ≡ false
  unfolding entry_differs
  differs_not_judged j = rw j

  -- the entry as the code looks at it
  pub differs_of : (hidden other : Bool) → hidden ≡ protected d.words reading → other ≡ (judged d.words hidden i && word_differs (mask_at d i) (get_or wanted i 0) (get_or reading i 0))
      → other ≡ entry_differs d wanted reading i
  unfolding entry_differs
  differs_of hidden other p q = rw (← p) q

-- ---- the verdict

module _ (d : Device) (wanted reading : List ℕ) where
  pub verdict_0 : count_to (d.words + reading_tail) (entry_differs d wanted reading) ≡ 0 → protected d.words reading ≡ false → verdict_of d wanted reading ≡ bare 0
  unfolding verdict_of pick
  verdict_0 z f = rw (le-ltb 0 (count_to (d.words + reading_tail) (entry_differs d wanted reading)) (omega arith), f)

  pub verdict_41 : count_to (d.words + reading_tail) (entry_differs d wanted reading) ≡ 0 → protected d.words reading ≡ true → verdict_of d wanted reading ≡ bare 41
  unfolding verdict_of pick
  verdict_41 z f = rw (le-ltb 0 (count_to (d.words + reading_tail) (entry_differs d wanted reading)) (omega arith), f)

  pub verdict_40 : 0 < count_to (d.words + reading_tail) (entry_differs d wanted reading)
      → verdict_of d wanted reading ≡ record {
        number = 40;
        address = record {
          0 = address_of config_base d.words (first_to (d.words + reading_tail) (entry_differs d wanted reading));
        };
        count = count_to (d.words + reading_tail) (entry_differs d wanted reading);
      }
  unfolding verdict_of pick
  verdict_40 h = rw (lt-ltb 0 (count_to (d.words + reading_tail) (entry_differs d wanted reading)) h)

-- the same from what the code has found
module _ (d : Device) (wanted reading : List ℕ) where
  pub found_0 : Seen (d.words + reading_tail) (entry_differs d wanted reading) None → protected d.words reading ≡ false → as_told Same ≡ verdict_of d wanted reading
  found_0 z f = sym (verdict_0 d wanted reading z f)

  pub found_41 : Seen (d.words + reading_tail) (entry_differs d wanted reading) None → protected d.words reading ≡ true → as_told Protected ≡ verdict_of d wanted reading
  found_41 z f = sym (verdict_41 d wanted reading z f)

  module _ (e : Differences) (s : Seen (d.words + reading_tail) (entry_differs d wanted reading) (Some e)) where
    some : 0 < count_to (d.words + reading_tail) (entry_differs d wanted reading)
    some = rw s.1 at s.0

    pub found_within : e.first < d.words + reading_tail
    found_within = rw s.2 (first_counted (d.words + reading_tail) (entry_differs d wanted reading) some)

    pub found_40 : (a : WordAddress) → a ≡ record { 0 = address_of config_base d.words e.first }
        → as_told (Differs a e.count) ≡ verdict_of d wanted reading
    found_40 a q = rw (q, s.1, s.2) (sym (verdict_40 d wanted reading some))

-- ---- the answer

module _ (d : Device) (wanted reading : List ℕ) where
  pub verified_13 : device_ok d ≡ false → verified d wanted reading ≡ bare 13
  unfolding verified pick
  verified_13 e = rw e

  pub verified_21_wanted : device_ok d ≡ true → reading_ok d.words wanted ≡ false → verified d wanted reading ≡ bare 21
  unfolding verified pick
  verified_21_wanted e f = rw (e, f)

  pub verified_21_reading : device_ok d ≡ true → reading_ok d.words wanted ≡ true → reading_ok d.words reading ≡ false → verified d wanted reading ≡ bare 21
  unfolding verified pick
  verified_21_reading e f g = rw (e, f, g)

  pub verified_judged : device_ok d ≡ true → reading_ok d.words wanted ≡ true → reading_ok d.words reading ≡ true → verified d wanted reading ≡ verdict_of d wanted reading
  unfolding verified pick
  verified_judged e f g = rw (e, f, g)

-- the answer as the code gives it
module _ (d : Device) (wanted reading : List ℕ) where
  pub told_refused : (e : Refusal) → number_of e ≡ record_number d → verdict_told (Err e) ≡ verified d wanted reading
  told_refused e p = let b = broken d e p in ap bare b.1 ∙ sym (verified_13 d wanted reading b.0)

  pub told_21_wanted : 0 ≡ record_number d → reading_ok d.words wanted ≡ false → verdict_told (Err Reading) ≡ verified d wanted reading
  told_21_wanted z f = sym (verified_21_wanted d wanted reading (ok_of_judged d (sym z)) f)

  pub told_21_reading : 0 ≡ record_number d → reading_ok d.words wanted ≡ true → reading_ok d.words reading ≡ false → verdict_told (Err Reading) ≡ verified d wanted reading
  told_21_reading z f g = sym (verified_21_reading d wanted reading (ok_of_judged d (sym z)) f g)

  pub told_verdict : 0 ≡ record_number d → reading_ok d.words wanted ≡ true → reading_ok d.words reading ≡ true → (v : Verdict) → as_told v ≡ verdict_of d wanted reading
      → verdict_told (Ok v) ≡ verified d wanted reading
  told_verdict z f g v e = e ∙ sym (verified_judged d wanted reading (ok_of_judged d (sym z)) f g)

-- ---- addresses

-- every entry of a reading has its address
pub word_of_entry : (words i : ℕ) → words ≤ most_words → i < words + reading_tail → place_of config_base words reading_tail i ≡ Some (record { 0 = address_of config_base words i })
word_of_entry words i most h = place_of_lem config_base words reading_tail i (omega arith) (omega arith) h

-- a later entry has a higher address, so that the first entry that differs has the first address
pub address_ascends : (words i j : ℕ) → words ≤ config_base → i < j → address_of config_base words i < address_of config_base words j
address_ascends words i j low h = by (dec_lt i words) (dec_lt j words)
  where
    by : Dec (i < words) → Dec (j < words) → address_of config_base words i < address_of config_base words j
    by (yes p) (yes q) = rw (address_program config_base words i p, address_program config_base words j q) h
    by (yes p) (no q) = rw (address_program config_base words i p, address_config config_base words j (omega arith)) (omega arith)
    by (no p) q = rw (address_config config_base words i (omega arith), address_config config_base words j (omega arith)) (omega arith)

-- ---- the code's tests of an entry: whether its words differ in a bit that it has comes first

module _ (d : Device) (i wanted reading : ℕ) where
  pub words_same : wanted ≡ reading → false ≡ word_differs (mask_at d i) wanted reading
  words_same e = sym (same_is (mask_at d i) wanted reading (ap (λ w. under_mask (mask_at d i) w reading) e ∙ under_same (mask_at d i) reading))

  -- program words and user IDs have every bit
  pub words_other : (wanted ≡ reading → ⊥) → i < d.words + cp_word → true ≡ word_differs (mask_at d i) wanted reading
  unfolding word_differs
  words_other n h = rw (under_plain d i h wanted reading, ne_eqb wanted reading n)

  pub words_under : (word : ℕ) → word ≡ under_mask (mask_at d i) wanted reading → not (eqb word reading) ≡ word_differs (mask_at d i) wanted reading
  unfolding word_differs
  words_under word e = rw e

module _ (words : ℕ) (hidden : Bool) (i : ℕ) (other : Bool) where
  pub differ_judged : (r s : Bool) → r ≡ other → r ≡ true → s ≡ judged words hidden i → s ≡ (judged words hidden i && other)
  differ_judged r s e t j = rw (← e, t, j) (both (judged words hidden i))
    where
      both : (b : Bool) → b ≡ (b && true)
      both true = refl
      both false = refl

  pub differ_same : (r : Bool) → r ≡ other → r ≡ false → false ≡ (judged words hidden i && other)
  differ_same r e f = rw (← e, f) (neither (judged words hidden i))
    where
      neither : (b : Bool) → false ≡ (b && false)
      neither true = refl
      neither false = refl
