-- Laws of what stands at a place of a text, byte by byte; and that four capital digits stand there just where they are read.
use Prim.Native.Nat.{ℕ, zero, suc, ◌+◌, ◌-◌, ◌*◌, ◌/◌, ◌%◌, ◌≤◌, ◌<◌}
use Rattle.std.proofs.Common.{le_of_suc-le-suc, not-suc-le-zero, add-suc, suc-add, add-zero, zero-add, ◌∙◌, length-take-le, get_or-take, get_or-drop, eq-eqb, eqb-true}
use Rattle.std.proofs.Math.Numerals.{add-one}
use native.Mathlib.Omega.{arith}
use Rattle.std.proofs.Math.Decide.{dec_lt, dec_le}
use Rattle.std.specs.Prelude.{◌≡◌, refl, true, false, List, [], ◌∷◌, ◌++◌, eqb, length, get_or, take, drop}
use Rattle.std.proofs.Math.Path.{sym, ap}
use Rattle.words.specs.Choice.{pick}
use Rattle.numerals.specs.Hex.{capital_of, joined, byte_by, word_by, digit_text, byte_text, word_text}
use Rattle.numerals.specs.LawsHex.{within_yes, within_low, within_high, joined_both, joined_no_high, joined_no_low, digit_text_low, digit_text_high, capital_of_text, byte_of_text}
use Rattle.words.specs.LawsChoice.{both, first_holds, second_holds, true_not_false}
use Rattle.words.specs.LawsLists.{same_entries}
use Rattle.sheet.specs.FirstLine.{same_text}

-- the bytes of s stand in the text from a place on
unfoldable pub Stands : (at : ℕ) → (s text : List ℕ) → Type 0
Stands at [] t = Unit
Stands at (c ∷ s) t = (get_or t at 0 ≡ c) × Stands (suc at) s t

-- ---- one text after another

pub stands_join : (at : ℕ) (a b t : List ℕ) → Stands at a t → Stands (at + length a) b t → Stands at (a ++ b) t
unfolding Stands
stands_join at [] b t p q = rw add-zero at q
stands_join at (c ∷ a) b t p q = (p.0, stands_join (suc at) a b t p.1 (rw (add-suc, ← suc-add) at q))

pub stands_left : (at : ℕ) (a b t : List ℕ) → Stands at (a ++ b) t → Stands at a t
unfolding Stands
stands_left at [] b t p = tt
stands_left at (c ∷ a) b t p = (p.0, stands_left (suc at) a b t p.1)

pub stands_right : (at : ℕ) (a b t : List ℕ) → Stands at (a ++ b) t → Stands (at + length a) b t
unfolding Stands
stands_right at [] b t p = rw add-zero p
stands_right at (c ∷ a) b t p = rw (add-suc, ← suc-add) (stands_right (suc at) a b t p.1)

-- ---- one byte, and the whole text

pub stands_byte : (at c : ℕ) (t : List ℕ) → get_or t at 0 ≡ c → Stands at (c ∷ []) t
unfolding Stands
stands_byte at c t e = (e, tt)

pub byte_stands : (at c : ℕ) (s t : List ℕ) → Stands at (c ∷ s) t → get_or t at 0 ≡ c
unfolding Stands
byte_stands at c s t p = p.0

pub stands_next : (at c : ℕ) (s t : List ℕ) → Stands at (c ∷ s) t → Stands (at + 1) s t
unfolding Stands
stands_next at c s t p = rw add-one p.1

pub stands_cons : (at c : ℕ) (s t : List ℕ) → get_or t at 0 ≡ c → Stands (at + 1) s t → Stands at (c ∷ s) t
unfolding Stands
stands_cons at c s t e p = (e, rw add-one at p)

-- the byte at each place
stands_each : (at : ℕ) (s t : List ℕ) → Stands at s t → (k : ℕ) → k < length s → get_or t (at + k) 0 ≡ get_or s k 0
unfolding Stands
stands_each at [] t p k h = absurd (not-suc-le-zero h)
stands_each at (c ∷ s) t p zero h = rw add-zero p.0
stands_each at (c ∷ s) t p (suc k) h = rw (add-suc, ← suc-add) (stands_each (suc at) s t p.1 k (le_of_suc-le-suc h))

each_stands : (at : ℕ) (s t : List ℕ) → ((k : ℕ) → k < length s → get_or t (at + k) 0 ≡ get_or s k 0) → Stands at s t
unfolding Stands
each_stands at [] t h = tt
each_stands at (c ∷ s) t h = (
  rw add-zero at (h 0 (omega arith)),
  each_stands (suc at) s t (λ k p. rw (suc-add, ← add-suc) (h (suc k) (omega arith))),
)

pub stands_self : (t : List ℕ) → Stands 0 t t
stands_self t = each_stands 0 t t (λ k h. rw zero-add)

pub stands_whole : (s t : List ℕ) → Stands 0 s t → length t ≡ length s → t ≡ s
stands_whole s t p e =
    same_entries t s e (λ k h. let q : k < length s = rw e at h in ap (λ i. get_or t i 0) (sym (zero-add k)) ∙ stands_each 0 s t p k q)

-- a part of the text stands at its own place
pub stands_part : (at n : ℕ) (t : List ℕ) → n ≤ length (drop at t) → Stands at (take n (drop at t)) t
stands_part at n t h =
    let long : length (take n (drop at t)) ≡ n = length-take-le n (drop at t) h in
    each_stands at (take n (drop at t)) t (λ k p. sym (get_or-take n (drop at t) k 0 (omega (arith, long)) ∙ get_or-drop at t k 0))

-- what stands at the start of a text is its front
pub stands_front : (s t : List ℕ) → Stands 0 s t → length s ≤ length t → take (length s) t ≡ s
stands_front s t p h =
    let long : length (take (length s) t) ≡ length s = length-take-le (length s) t h in
    same_entries (take (length s) t) s long
    (λ k q. get_or-take (length s) t k 0 (omega (arith, long)) ∙ (ap (λ i. get_or t i 0) (sym (zero-add k)) ∙ stands_each 0 s t p k (omega (arith, long))))

pub front_stands : (s t : List ℕ) → take (length s) t ≡ s → Stands 0 s t
front_stands s t e = each_stands 0 s t (λ k h. ap (λ i. get_or t i 0) (zero-add k) ∙ (sym (get_or-take (length s) t k 0 h) ∙ ap (λ l. get_or l k 0) e))

-- ---- one text or another

pub same_self : (t : List ℕ) → same_text t t ≡ true
unfolding same_text
same_self [] = refl
same_self (c ∷ t) = both (eqb c c) (same_text t t) (eq-eqb c c refl) (same_self t)

pub same_equal : (s t : List ℕ) → same_text s t ≡ true → s ≡ t
unfolding same_text
same_equal [] [] e = refl
same_equal [] (c ∷ t) e = absurd (true_not_false {b = false} e refl)
same_equal (c ∷ s) [] e = absurd (true_not_false {b = false} e refl)
same_equal (c ∷ s) (b ∷ t) e =
    let head : c ≡ b = eqb-true c b (first_holds (eqb c b) (same_text s t) e) in
    let rest : s ≡ t = same_equal s t (second_holds (eqb c b) (same_text s t) e) in
    rw (head, rest)

-- ---- digits

-- a capital digit is the text of its value
pub text_of_capital : (c : ℕ) → capital_of c < 16 → digit_text (capital_of c) ≡ c
unfolding capital_of pick
text_of_capital c h = low (dec_lt c 0x30)
  where
    letter : (0x41 ≤ c) → Dec (c ≤ 0x46) → digit_text (capital_of c) ≡ c
    letter p (yes q) =
        rw (within_high 0x30 0x39 c (omega arith), within_yes 0x41 0x46 c p q, digit_text_high (c - 0x41 + 10) (omega arith)) (omega arith)
    letter p (no q) =
        let z : 16 < 16 = rw (within_high 0x30 0x39 c (omega arith), within_high 0x41 0x46 c (omega arith)) at h in absurd (omega arith)

    between : (0x39 < c) → Dec (c < 0x41) → digit_text (capital_of c) ≡ c
    between p (yes q) =
        let z : 16 < 16 = rw (within_high 0x30 0x39 c p, within_low 0x41 0x46 c q) at h in absurd (omega arith)
    between p (no q) = letter (omega arith) (dec_le c 0x46)

    digit : (0x30 ≤ c) → Dec (c ≤ 0x39) → digit_text (capital_of c) ≡ c
    digit p (yes q) = rw (within_yes 0x30 0x39 c p q, digit_text_low (c - 0x30) (omega arith)) (omega arith)
    digit p (no q) = between (omega arith) (dec_lt c 0x41)

    low : Dec (c < 0x30) → digit_text (capital_of c) ≡ c
    low (yes q) =
        let z : 16 < 16 = rw (within_low 0x30 0x39 c q, within_low 0x41 0x46 c (omega arith)) at h in absurd (omega arith)
    low (no q) = digit (omega arith) (dec_le c 0x39)

-- two numbers below a limit, where they are joined to one below its square
joined_parts : (limit high low : ℕ) → joined limit high low < limit * limit → (high < limit) × (low < limit)
joined_parts limit high low h = by (dec_lt high limit) (dec_lt low limit)
  where
    by : Dec (high < limit) → Dec (low < limit) → (high < limit) × (low < limit)
    by (yes p) (yes q) = (p, q)
    by (no p) q = let z : limit * limit < limit * limit = rw (joined_no_high limit high low (omega arith)) at h in absurd (omega arith)
    by (yes p) (no q) = let z : limit * limit < limit * limit = rw (joined_no_low limit high low (omega arith)) at h in absurd (omega arith)

module _ (t : List ℕ) (at : ℕ) where
  -- what two digits are, if they are read as a byte
  byte_digits : (b : ℕ) → byte_by capital_of t at ≡ b → b < 256 → (get_or t at 0 ≡ digit_text (b / 16)) × (get_or t (at + 1) 0 ≡ digit_text (b % 16))
  unfolding byte_by
  byte_digits b e h =
      let x : ℕ = capital_of (get_or t at 0) in
      let y : ℕ = capital_of (get_or t (at + 1) 0) in
      let small : (x < 16) × (y < 16) = joined_parts 16 x y (rw e h) in
      let sum : 16 * x + y ≡ b = sym (joined_both 16 x y small.0 small.1) ∙ e in
      let high : x ≡ b / 16 = omega arith in
      let low : y ≡ b % 16 = omega arith in (
        sym (text_of_capital (get_or t at 0) small.0) ∙ ap digit_text high,
        sym (text_of_capital (get_or t (at + 1) 0) small.1) ∙ ap digit_text low,
      )

module _ (t : List ℕ) (at w : ℕ) where
  -- four digits that are read as w are the text of w
  pub stands_word : word_by capital_of t at ≡ w → w < 65536 → Stands at (word_text w) t
  unfolding Stands word_text byte_text word_by
  stands_word e h =
      let x : ℕ = byte_by capital_of t at in
      let y : ℕ = byte_by capital_of t (at + 2) in
      let small : (x < 256) × (y < 256) = joined_parts 256 x y (rw e h) in
      let sum : 256 * x + y ≡ w = sym (joined_both 256 x y small.0 small.1) ∙ e in
      let p = byte_digits t at (w / 256) (omega arith) (omega arith) in
      let q = byte_digits t (at + 2) (w % 256) (omega arith) (omega arith) in
      let two : at + 2 ≡ suc (suc at) = omega arith in
      let three : at + 2 + 1 ≡ suc (suc (suc at)) = omega arith in
      (p.0, (rw add-one at p.1, (rw two at q.0, (rw three at q.1, tt))))

  -- and the text of w is read as w
  pub word_stands : Stands at (word_text w) t → w < 65536 → word_by capital_of t at ≡ w
  unfolding Stands word_text byte_text word_by
  word_stands p h =
      let two : suc (suc at) ≡ at + 2 = omega arith in
      let three : suc (suc (suc at)) ≡ at + 2 + 1 = omega arith in
      let high : byte_by capital_of t at ≡ w / 256 = byte_of_text capital_of capital_of_text t at (w / 256) (omega arith) p.0 (rw add-one p.1.0) in
      let low : byte_by capital_of t (at + 2) ≡ w % 256 = byte_of_text capital_of capital_of_text t (at + 2) (w % 256) (omega arith) (rw two at p.1.1.0) (rw three at p.1.1.1.0) in
      rw (high, low) (joined_both 256 (w / 256) (w % 256) (omega arith) (omega arith) ∙ omega arith)
