-- Laws of the checksum: its answers case by case, and what has no say in it.
use Rattle.std.specs.Prelude.{ℕ, zero, suc, ◌+◌, ◌*◌, ◌%◌, ◌≤◌, ◌<◌, ◌≡◌, refl, true, false, List, Result, Ok, Err}
use Rattle.std.proofs.Common.{add-one, add_comm, arith, sym, ◌∙◌}
use Rattle.std.proofs.Math.Path.{ap}
use Rattle.std.proofs.Math.ListN.{get_or}
use Rattle.std.specs.Int.Bits.{bit_and}
use Rattle.words.specs.Choice.{pick}
use Rattle.words.specs.LawsChoice.{pick_true, pick_false}
use Rattle.device.specs.declared.Device.{Device}
use Rattle.device.specs.Record.{device_ok, record_number}
use Rattle.device.specs.LawsRecord.{ok_of_judged, bad_of_judged}
use Rattle.device.specs.Memory.{reading_ok, protected}
use Rattle.device.specs.LawsMemory.{protected_same}
use Rattle.refusal.specs.declared.Refusal.{Refusal}
use Rattle.refusal.specs.declared.Refusal.TheVariants.{Reading}
use Rattle.refusal.specs.Refusal.{number_of}
use Rattle.refusal.specs.LawsRefusal.{number_of_positive, answer_unique}
use Rattle.judge.specs.Checksum.{sum_to, config_sum, nibbles, checksum_of, sum_told, summed}

-- ---- the program words

pub sum_none : (l : List ℕ) → sum_to 0 l ≡ 0
unfolding sum_to
sum_none l = refl

pub sum_more : (n : ℕ) (l : List ℕ) → sum_to (n + 1) l ≡ sum_to n l + get_or l n 0
unfolding sum_to
sum_more n l = rw add-one

-- the turns of a loop that adds them up, and its end
pub sum_on : (n : ℕ) (l : List ℕ) (s : ℕ) → s ≡ sum_to n l → s + get_or l n 0 ≡ sum_to (n + 1) l
sum_on n l s e = rw e (sym (sum_more n l))

pub sum_end : (i n : ℕ) (l : List ℕ) (s : ℕ) → s ≡ sum_to i l → i ≤ n → n ≤ i → s ≡ sum_to n l
sum_end i n l s e p q = e ∙ ap (λ k. sum_to k l) (omega arith)

-- the sum goes by the entries that it adds up
pub sum_same : (n : ℕ) (l m : List ℕ) → ((i : ℕ) → i < n → get_or l i 0 ≡ get_or m i 0) → sum_to n l ≡ sum_to n m
unfolding sum_to
sum_same zero l m h = refl
sum_same (suc n) l m h = rw (sum_same n l m (λ i p. h i (omega arith)), h n (omega arith))

-- ---- the other parts, from words that the code has read

pub config_of : (d : Device) (l : List ℕ) (x y : ℕ) → x ≡ bit_and (get_or l (d.words + 7) 0) d.mask1 → y ≡ bit_and (get_or l (d.words + 8) 0) d.mask2 → x + y ≡ config_sum d l
unfolding config_sum
config_of d l x y p q = rw (p, q)

pub nibbles_of : (words : ℕ) (l : List ℕ) (w x y z : ℕ) → w ≡ get_or l words 0 % 16 → x ≡ get_or l (words + 1) 0 % 16 → y ≡ get_or l (words + 2) 0 % 16
    → z ≡ get_or l (words + 3) 0 % 16 → w * 4096 + x * 256 + y * 16 + z ≡ nibbles words l
unfolding nibbles
nibbles_of words l w x y z p q r s = rw (p, q, r, s)

-- ---- the checksum

module _ (d : Device) (l : List ℕ) where
  pub sum_hidden : protected d.words l ≡ true → checksum_of d l ≡ (config_sum d l + nibbles d.words l) % 65536
  unfolding checksum_of
  sum_hidden e = ap (λ n. n % 65536) (pick_true (protected d.words l) _ _ e)

  pub sum_shown : protected d.words l ≡ false → checksum_of d l ≡ (sum_to d.words l + config_sum d l) % 65536
  unfolding checksum_of
  sum_shown e = ap (λ n. n % 65536) (pick_false (protected d.words l) _ _ e)

  -- the same from parts that the code has worked out
  pub sum_hidden_of : (x y : ℕ) → x ≡ config_sum d l → y ≡ nibbles d.words l → protected d.words l ≡ true → (x + y) % 65536 ≡ checksum_of d l
  sum_hidden_of x y p q e = rw (p, q) (sym (sum_hidden e))

  pub sum_shown_of : (x y : ℕ) → x ≡ config_sum d l → y ≡ sum_to d.words l → protected d.words l ≡ false → (x + y) % 65536 ≡ checksum_of d l
  sum_shown_of x y p q e = rw (p, q, add_comm (config_sum d l) (sum_to d.words l)) (sym (sum_shown e))

-- ---- the answer

module _ (d : Device) (l : List ℕ) where
  pub summed_13 : device_ok d ≡ false → summed d l ≡ record { number = 13; sum = 0 }
  unfolding summed pick
  summed_13 e = rw e

  pub summed_21 : device_ok d ≡ true → reading_ok d.words l ≡ false → summed d l ≡ record { number = 21; sum = 0 }
  unfolding summed pick
  summed_21 e f = rw (e, f)

  pub summed_0 : device_ok d ≡ true → reading_ok d.words l ≡ true → summed d l ≡ record { number = 0; sum = checksum_of d l }
  unfolding summed pick
  summed_0 e f = rw (e, f)

-- a record that is refused breaks the rules
pub broken : (d : Device) (e : Refusal) → number_of e ≡ record_number d → (device_ok d ≡ false) × (number_of e ≡ 13)
unfolding record_number
broken d e p = (bad, p ∙ pick_false (device_ok d) 0 13 bad)
  where
    bad : device_ok d ≡ false
    bad = bad_of_judged d (λ z. let n : 0 < number_of e = number_of_positive e in omega (arith, p ∙ z))

-- the answer as the code gives it
module _ (d : Device) (l : List ℕ) where
  pub told_refused : (e : Refusal) → number_of e ≡ record_number d → sum_told (Err e) ≡ summed d l
  told_refused e p = let b = broken d e p in (λ i. record { number = b.1 i; sum = 0 }) ∙ sym (summed_13 d l b.0)

  pub told_21 : 0 ≡ record_number d → reading_ok d.words l ≡ false → sum_told (Err Reading) ≡ summed d l
  told_21 z f = sym (summed_21 d l (ok_of_judged d (sym z)) f)

  pub told_0 : 0 ≡ record_number d → reading_ok d.words l ≡ true → (n : ℕ) → n ≡ checksum_of d l → sum_told (Ok n) ≡ summed d l
  told_0 z f n e = (λ i. record { number = 0; sum = e i }) ∙ sym (summed_0 d l (ok_of_judged d (sym z)) f)

  -- what a caller has of it whose record and reading keep the rules
  pub sum_there : device_ok d ≡ true → reading_ok d.words l ≡ true → (r : Result ℕ Refusal) → sum_told r ≡ summed d l → r ≡ Ok (checksum_of d l)
  sum_there ok good r e = answer_unique 0 r (Ok (checksum_of d l)) (ap (λ x. x.number) same) (ap (λ x. x.sum) same)
    where
      same : sum_told r ≡ record { number = 0; sum = checksum_of d l }
      same = e ∙ summed_0 d l ok good

-- two answers that are told alike are equal
pub sum_unique : (a b : Result ℕ Refusal) → sum_told a ≡ sum_told b → a ≡ b
sum_unique a b e = answer_unique 0 a b (ap (λ x. x.number) e) (ap (λ x. x.sum) e)

-- ---- what a protected board hides has no say

module _ (d : Device) (l m : List ℕ) (same : (k : ℕ) → get_or l (d.words + k) 0 ≡ get_or m (d.words + k) 0) where
  config_same : config_sum d l ≡ config_sum d m
  unfolding config_sum
  config_same = rw (same 7, same 8)

  nibbles_same : nibbles d.words l ≡ nibbles d.words m
  unfolding nibbles
  nibbles_same =
      let id0 : get_or l d.words 0 ≡ get_or m d.words 0 = rw native.Mathlib.Nat.add-zero at (same 0) in
      rw (id0, same 1, same 2, same 3)

  pub sum_hidden_same : protected d.words l ≡ true → checksum_of d l ≡ checksum_of d m
  sum_hidden_same e =
      sum_hidden d l e
      ∙ (ap (λ n. n % 65536) (rw (config_same, nibbles_same))
      ∙ sym (sum_hidden d m (sym (protected_same d.words l m (same 7)) ∙ e)))
