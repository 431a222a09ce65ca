-- Laws of words under a mask: bit by bit, under a mask that has every bit, and which words can still be written to which.
use Rattle.std.specs.Prelude.{ℕ, zero, suc, ◌+◌, ◌*◌, ◌/◌, ◌%◌, ◌^◌, ◌≤◌, ◌<◌, min, max, ◌≡◌, ◌⊎◌}
use Rattle.std.proofs.Common.{mod-lt, zero-lt-suc, sym, subst, ◌∙◌, pow_pos}
use Rattle.std.proofs.Math.Nat.{div_self}
use native.Mathlib.Omega.{arith}
use Rattle.std.proofs.Math.Path.{refl, ap}
use Rattle.std.proofs.Math.Logic.{inl, inr, ⊎_elim}
use Rattle.std.proofs.Math.Arith.{digits_mod}
use Rattle.std.proofs.Math.Pow.{pow-lt}
use Rattle.std.specs.Int.Bits.{bit_and, bit_or, bit_xor, differ, and_zero_r, or_zero_r, or_step, xor_zero_r, xor_step}
use Rattle.std.proofs.lemmas.Nat.{or_shr, xor_shr}
use Rattle.words.specs.Word.{erased, bit, Between, without, spare, under_mask}
use Rattle.words.specs.LawsWord.{Contains, bit_and_lem, bit_high, same_bits, high_bits, contains_bits, erased_contains}
use Rattle.words.specs.LawsTests.{by_lt, by_eq}

-- ---- bits are 0 or 1

pub bit_lt : (w i : ℕ) → bit w i < 2
unfolding bit
bit_lt w i = mod-lt (w / 2 ^ i) (zero-lt-suc 1)

by_bit : {C : Type 0} (w i : ℕ) → (bit w i ≡ 0 → C) → (bit w i ≡ 1 → C) → C
by_bit w i f g = by_eq (bit w i) 0 f (λ n. g (let z : bit w i < 2 = bit_lt w i in omega arith))

max_lt : (a b : ℕ) → a < 2 → b < 2 → max a b < 2
max_lt a b p q = omega arith

differ_lt : (a b : ℕ) → a < 2 → b < 2 → differ a b < 2
differ_lt zero b p q = q
differ_lt (suc a) zero p q = p
differ_lt (suc a) (suc b) p q = differ_lt a b (omega arith) (omega arith)

pub bit_or_lem : (a b i : ℕ) → bit (bit_or a b) i ≡ max (bit a i) (bit b i)
bit_or_lem a b i = opened ∙ digits_mod (bit_or (a / 2 ^ i / 2) (b / 2 ^ i / 2)) (max_lt (bit a i) (bit b i) (bit_lt a i) (bit_lt b i))
  where
    opened : bit (bit_or a b) i ≡ (bit_or (a / 2 ^ i / 2) (b / 2 ^ i / 2) * 2 + max (bit a i) (bit b i)) % 2
    opened = unfold bit in ap (λ n. n % 2) (or_shr a b i ∙ or_step (a / 2 ^ i) (b / 2 ^ i))

bit_xor_lem : (a b i : ℕ) → bit (bit_xor a b) i ≡ differ (bit a i) (bit b i)
bit_xor_lem a b i = opened ∙ digits_mod (bit_xor (a / 2 ^ i / 2) (b / 2 ^ i / 2)) (differ_lt (bit a i) (bit b i) (bit_lt a i) (bit_lt b i))
  where
    opened : bit (bit_xor a b) i ≡ (bit_xor (a / 2 ^ i / 2) (b / 2 ^ i / 2) * 2 + differ (bit a i) (bit b i)) % 2
    opened = unfold bit in ap (λ n. n % 2) (xor_shr a b i ∙ xor_step (a / 2 ^ i) (b / 2 ^ i))

-- ---- a word without some bits

module _ (bits w i : ℕ) where
  bit_without : bit (without bits w) i ≡ differ (bit w i) (min (bit w i) (bit bits i))
  unfolding without
  bit_without = bit_xor_lem w (bit_and w bits) i ∙ ap (differ (bit w i)) (bit_and_lem w bits i)

  without_not : bit bits i ≡ 0 → bit (without bits w) i ≡ bit w i
  without_not e = bit_without ∙ (ap (λ n. differ (bit w i) (min (bit w i) n)) e ∙ (ap (differ (bit w i)) (nothing (bit w i)) ∙ same (bit w i)))
    where
      nothing : (n : ℕ) → min n 0 ≡ 0
      nothing n = omega arith

      same : (n : ℕ) → differ n 0 ≡ n
      same zero = refl
      same (suc n) = refl

  without_has : bit bits i ≡ 1 → bit (without bits w) i ≡ 0
  without_has e = bit_without ∙ (ap (λ n. differ (bit w i) (min (bit w i) n)) e ∙ by_bit w i (λ z. rw z) (λ z. rw z))

-- ---- spare bits

-- every bit of 14
pub erased_bit : (i : ℕ) → i < 14 → bit erased i ≡ 1
erased_bit i h =
    let low : bit (2 ^ i) i ≤ bit erased i = contains_bits erased (2 ^ i) (erased_contains (2 ^ i) (pow-lt h)) i in
    let one : bit (2 ^ i) i ≡ 1 = (unfold bit in ap (λ n. n % 2) (div_self (pow_pos i))) in
    let small : bit erased i < 2 = bit_lt erased i in
    omega arith

module _ (mask i : ℕ) where
  spare_has : i < 14 → bit mask i ≡ 0 → bit (spare mask) i ≡ 1
  unfolding spare
  spare_has h e = without_not mask erased i e ∙ erased_bit i h

  spare_not : bit mask i ≡ 1 → bit (spare mask) i ≡ 0
  unfolding spare
  spare_not e = without_has mask erased i e

  spare_high : 14 ≤ i → bit (spare mask) i ≡ 0
  unfolding spare
  spare_high h =
      by_bit mask i (λ e. without_not mask erased i e ∙ bit_high 14 erased i (omega arith) h) (λ e. without_has mask erased i e)

-- ---- new bits under a mask, old bits elsewhere

module _ (mask new old i : ℕ) where
  bit_under : bit (under_mask mask new old) i ≡ max (bit (without (spare mask) new) i) (min (bit old i) (bit (spare mask) i))
  unfolding under_mask
  bit_under = bit_or_lem (without (spare mask) new) (bit_and old (spare mask)) i ∙ ap (max (bit (without (spare mask) new) i)) (bit_and_lem old (spare mask) i)

  under_new : bit (spare mask) i ≡ 0 → bit (under_mask mask new old) i ≡ bit new i
  under_new e =
      let z : bit (under_mask mask new old) i ≡ max (bit (without (spare mask) new) i) (min (bit old i) (bit (spare mask) i)) = bit_under in
      let y : bit (without (spare mask) new) i ≡ bit new i = without_not (spare mask) new i e in
      omega arith

  under_old : bit (spare mask) i ≡ 1 → bit (under_mask mask new old) i ≡ bit old i
  under_old e =
      let z : bit (under_mask mask new old) i ≡ max (bit (without (spare mask) new) i) (min (bit old i) (bit (spare mask) i)) = bit_under in
      let y : bit (without (spare mask) new) i ≡ 0 = without_has (spare mask) new i e in
      let x : bit old i < 2 = bit_lt old i in
      omega arith

  -- under the mask
  pub under_inside : bit mask i ≡ 1 → bit (under_mask mask new old) i ≡ bit new i
  under_inside e = under_new (spare_not mask i e)

  -- elsewhere
  pub under_outside : i < 14 → bit mask i ≡ 0 → bit (under_mask mask new old) i ≡ bit old i
  under_outside h e = under_old (spare_has mask i h e)

-- a mask that has every bit gives the new word
pub under_all : (new old : ℕ) → under_mask erased new old ≡ new
unfolding under_mask without spare
under_all new old = rw (and_zero_r new, and_zero_r old, xor_zero_r new, or_zero_r new)

-- a word over itself is itself
pub under_same : (mask w : ℕ) → under_mask mask w w ≡ w
under_same mask w = same_bits (under_mask mask w w) w (λ i. by_bit (spare mask) i (under_new mask w w i) (under_old mask w w i))

pub under_lt : (mask new old : ℕ) → new < 0x4000 → old < 0x4000 → under_mask mask new old < 0x4000
under_lt mask new old p q = high_bits 14 (under_mask mask new old) (λ i h. under_new mask new old i (spare_high mask i h) ∙ bit_high 14 new i p h)

-- ---- words that are equal under a mask

module _ (mask a b : ℕ) where
  -- a word that takes another's bits under the mask and stays as it was has the same bits there
  pub under_equal : under_mask mask a b ≡ b → bit_and a mask ≡ bit_and b mask
  under_equal e = same_bits (bit_and a mask) (bit_and b mask) (λ i. bit_and_lem a mask i ∙ (each i ∙ sym (bit_and_lem b mask i)))
    where
      each : (i : ℕ) → min (bit a i) (bit mask i) ≡ min (bit b i) (bit mask i)
      each i =
          by_bit mask i (λ z. rw z (omega arith))
          (λ z. ap (λ n. min n (bit mask i)) (sym (under_inside mask a b i z) ∙ ap (λ w. bit w i) e))

  pub equal_bit : bit_and a mask ≡ bit_and b mask → (i : ℕ) → bit mask i ≡ 1 → bit a i ≡ bit b i
  equal_bit e i z =
      let both : min (bit a i) (bit mask i) ≡ min (bit b i) (bit mask i) = sym (bit_and_lem a mask i) ∙ (ap (λ w. bit w i) e ∙ bit_and_lem b mask i) in
      let x : bit a i < 2 = bit_lt a i in
      let y : bit b i < 2 = bit_lt b i in
      omega arith

  pub equal_under : a < 0x4000 → b < 0x4000 → bit_and a mask ≡ bit_and b mask → under_mask mask a b ≡ b
  equal_under p q e = same_bits (under_mask mask a b) b (λ i. by_bit (spare mask) i (inside i) (under_old mask a b i))
    where
      inside : (i : ℕ) → bit (spare mask) i ≡ 0 → bit (under_mask mask a b) i ≡ bit b i
      inside i s =
          under_new mask a b i s
          ∙ by_lt i 14
          (λ h. equal_bit e i (by_bit mask i (λ z. let y : bit (spare mask) i ≡ 1 = spare_has mask i h z in absurd (omega arith)) (λ z. z)))
          (λ h. bit_high 14 a i p h ∙ sym (bit_high 14 b i q h))

-- ---- which words can still be written to which

-- each bit is wanted's, or the mask has it and wanted's is 0
unfoldable pub Reaches : (mask word wanted : ℕ) → Type 0
Reaches mask word wanted = (i : ℕ) → (bit word i ≡ bit wanted i) ⊎ ((bit mask i ≡ 1) × (bit wanted i ≡ 0))

module _ (mask : ℕ) where
  pub reaches_same : (v : ℕ) → Reaches mask v v
  unfolding Reaches
  reaches_same v i = inl refl

  -- a torn word still can
  pub reaches_torn : (x v w : ℕ) → Reaches mask x v → Between x v w → Reaches mask w v
  unfolding Reaches Between
  reaches_torn x v w r b i = ⊎_elim (λ e. ⊎_elim (λ f. inl (e ∙ f)) (λ f. inr f) (r i)) (λ e. inl e) (b i)

  -- the write makes it
  pub reaches_makes : (x v : ℕ) → Reaches mask x v → under_mask mask (bit_and x v) x ≡ v
  unfolding Reaches
  reaches_makes x v r = same_bits (under_mask mask (bit_and x v) x) v (λ i. by_bit (spare mask) i (inside i) (outside i))
    where
      inside : (i : ℕ) → bit (spare mask) i ≡ 0 → bit (under_mask mask (bit_and x v) x) i ≡ bit v i
      inside i s =
          under_new mask (bit_and x v) x i s
          ∙ (bit_and_lem x v i ∙ ⊎_elim (λ e. rw e (omega arith)) (λ (p : (bit mask i ≡ 1) × (bit v i ≡ 0)). rw p.1 (omega arith)) (r i))

      outside : (i : ℕ) → bit (spare mask) i ≡ 1 → bit (under_mask mask (bit_and x v) x) i ≡ bit v i
      outside i s =
          under_old mask (bit_and x v) x i s
          ∙ ⊎_elim (λ e. e) (λ (p : (bit mask i ≡ 1) × (bit v i ≡ 0)). let z : bit (spare mask) i ≡ 0 = spare_not mask i p.0 in absurd (omega arith)) (r i)

  -- a word that new bits under the mask only clear can be written to what they make of it
  pub reaches_cleared : (new old : ℕ) → new < 0x4000 → old < 0x4000 → Contains old (under_mask mask new old) → Reaches mask old (under_mask mask new old)
  unfolding Reaches
  reaches_cleared new old p q c i = by_bit (spare mask) i inside (λ s. inl (sym (under_old mask new old i s)))
    where
      held : bit mask i ≡ 1 → (bit old i ≡ bit (under_mask mask new old) i) ⊎ ((bit mask i ≡ 1) × (bit (under_mask mask new old) i ≡ 0))
      held z =
          by_bit (under_mask mask new old) i (λ e. inr (z, e))
          (λ e. inl (let l : bit (under_mask mask new old) i ≤ bit old i = contains_bits old (under_mask mask new old) c i in let y : bit old i < 2 = bit_lt old i in omega arith))

      inside : bit (spare mask) i ≡ 0 → (bit old i ≡ bit (under_mask mask new old) i) ⊎ ((bit mask i ≡ 1) × (bit (under_mask mask new old) i ≡ 0))
      inside s =
          by_lt i 14
          (λ h. held (by_bit mask i (λ z. let y : bit (spare mask) i ≡ 1 = spare_has mask i h z in absurd (omega arith)) (λ z. z)))
          (λ h. inl (bit_high 14 old i q h ∙ sym (bit_high 14 (under_mask mask new old) i (under_lt mask new old p q) h)))

  -- an erased one can be written to what any new bits make of it
  reaches_fresh : (new : ℕ) → new < 0x4000 → Reaches mask erased (under_mask mask new erased)
  reaches_fresh new h = reaches_cleared new erased h (omega arith) (erased_contains (under_mask mask new erased) (under_lt mask new erased h (omega arith)))

-- and under a mask that has every bit to any word
pub reaches_any : (v : ℕ) → v < 0x4000 → Reaches erased erased v
reaches_any v h = subst (Reaches erased erased) (under_all v erased) (reaches_fresh erased v h)
