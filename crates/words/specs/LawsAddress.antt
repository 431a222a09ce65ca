-- Laws of the map between word addresses and entries, of doubling and halving, and of the counter's successor.
use Rattle.std.specs.Prelude.{ℕ, Option, Some, None, ◌+◌, ◌-◌, ◌*◌, ◌/◌, ◌%◌, ◌≤◌, ◌<◌, ◌≡◌, eqb}
use Rattle.std.proofs.Common.{arith, sym, ap, ◌∙◌}
use Rattle.std.proofs.Math.Decide.{dec_lt, ℕ_discrete}
use borrow.Author.Tests.{lt-ltb, le-ltb, eq-eqb, ne_eqb}
use Rattle.words.specs.Choice.{pick}
use Rattle.words.specs.Address.{config_base, placed, doubled, halved, entry_of, address_of, place_of, successor}
use Rattle.words.specs.declared.WordAddress.{WordAddress}
use Rattle.words.specs.declared.ByteAddress.{ByteAddress}

-- ---- doubling and halving

pub placed_at : (n : ℕ) → n < 0x10000 → placed n ≡ Some (record { 0 = n })
unfolding placed pick
placed_at n h = rw (lt-ltb n 0x10000 h)

pub placed_nowhere : (n : ℕ) → 0x10000 ≤ n → placed n ≡ None
unfolding placed pick
placed_nowhere n h = rw (le-ltb n 0x10000 h)

-- a word's own byte address leads back to it
pub halved_doubled : (a : WordAddress) → a.0 < 0x10000 → halved (doubled a) ≡ Some a
unfolding halved doubled pick
halved_doubled a h =
    let half : 2 * a.0 / 2 ≡ a.0 = omega arith in
    let even : 2 * a.0 % 2 ≡ 0 = omega arith in
    rw (eq-eqb (2 * a.0 % 2) 0 even, half) (placed_at a.0 h)

pub halved_odd : (b : ByteAddress) → (b.0 % 2 ≡ 0 → ⊥) → halved b ≡ None
unfolding halved pick
halved_odd b h = rw (ne_eqb (b.0 % 2) 0 h)

pub halved_far : (b : ByteAddress) → 0x20000 ≤ b.0 → halved b ≡ None
unfolding halved pick
halved_far b h = by (ℕ_discrete (b.0 % 2) 0)
  where
    by : Dec (b.0 % 2 ≡ 0) → pick (eqb (b.0 % 2) 0) (placed (b.0 / 2)) None ≡ None
    by (yes e) = rw (eq-eqb (b.0 % 2) 0 e) (placed_nowhere (b.0 / 2) (omega arith))
    by (no e) = rw (ne_eqb (b.0 % 2) 0 e)

-- the other way: a byte address that halves to a word is that word's
pub halved_even : (b : ByteAddress) → b.0 % 2 ≡ 0 → halved b ≡ placed (b.0 / 2)
unfolding halved pick
halved_even b e = rw (eq-eqb (b.0 % 2) 0 e)

-- what a place tells: its address and one, or nothing
told : Option WordAddress → ℕ
told (Some a) = a.0 + 1
told None = 0

-- a byte address that leads to a word is that word's own
pub doubled_of_halved : (b : ByteAddress) (a : WordAddress) → halved b ≡ Some a → b ≡ doubled a
unfolding doubled told
doubled_of_halved b a e = by (ℕ_discrete (b.0 % 2) 0) (dec_lt (b.0 / 2) 0x10000)
  where
    by : Dec (b.0 % 2 ≡ 0) → Dec (b.0 / 2 < 0x10000) → b ≡ record { 0 = 2 * a.0 }
    by (yes p) (yes q) =
        let is : b.0 / 2 + 1 ≡ a.0 + 1 = sym (ap told (halved_even b p ∙ placed_at (b.0 / 2) q)) ∙ ap told e in
        let same : b.0 ≡ 2 * a.0 = omega arith in
        λ i. record { 0 = same i }
    by (yes p) (no q) = absurd (let z : 0 ≡ a.0 + 1 = sym (ap told (halved_even b p ∙ placed_nowhere (b.0 / 2) (omega arith))) ∙ ap told e in omega arith)
    by (no p) q = absurd (let z : 0 ≡ a.0 + 1 = sym (ap told (halved_odd b p)) ∙ ap told e in omega arith)

-- ---- entries

module _ (base words tail a : ℕ) where
  pub entry_program : a < words → entry_of base words tail a ≡ a
  unfolding entry_of pick
  entry_program h = rw (lt-ltb a words h)

  pub entry_between : words ≤ a → a < base → entry_of base words tail a ≡ words + tail
  unfolding entry_of pick
  entry_between h k = rw (le-ltb a words h, lt-ltb a base k)

  pub entry_config : words ≤ a → base ≤ a → a - base < tail → entry_of base words tail a ≡ words + (a - base)
  unfolding entry_of pick
  entry_config h k t = rw (le-ltb a words h, le-ltb a base k, lt-ltb (a - base) tail t)

  pub entry_beyond : words ≤ a → base ≤ a → tail ≤ a - base → entry_of base words tail a ≡ words + tail
  unfolding entry_of pick
  entry_beyond h k t = rw (le-ltb a words h, le-ltb a base k, le-ltb (a - base) tail t)

-- the three kinds of address, told apart once
pub record Entry (base words tail a e : ℕ) : Type 0 where
  pub within : e ≤ words + tail
  pub back : e < words + tail → address_of base words e ≡ a

module _ (base words i : ℕ) where
  pub address_program : i < words → address_of base words i ≡ i
  unfolding address_of pick
  address_program h = rw (lt-ltb i words h)

  pub address_config : words ≤ i → address_of base words i ≡ base + (i - words)
  unfolding address_of pick
  address_config h = rw (le-ltb i words h)

-- what an address's entry tells: it is at most one past the last, and before that it leads back to the address
pub entry : (base words tail a : ℕ) → words ≤ base → Entry base words tail a (entry_of base words tail a)
entry base words tail a low = by (dec_lt a words) (dec_lt a base) (dec_lt (a - base) tail)
  where
    by : Dec (a < words) → Dec (a < base) → Dec (a - base < tail) → Entry base words tail a (entry_of base words tail a)
    by (yes p) q r = rw (entry_program base words tail a p) (record { within = omega arith; back = λ h. address_program base words a p })
    by (no p) (yes q) r =
        rw (entry_between base words tail a (omega arith) q) (record { within = omega arith; back = λ h. absurd (omega arith) })
    by (no p) (no q) (yes r) =
        rw (entry_config base words tail a (omega arith) (omega arith) r)
        (record { within = omega arith; back = λ h. address_config base words (words + (a - base)) (omega arith) ∙ omega arith })
    by (no p) (no q) (no r) =
        rw (entry_beyond base words tail a (omega arith) (omega arith) (omega arith)) (record { within = omega arith; back = λ h. absurd (omega arith) })

pub address_of_entry : (base words tail a : ℕ) → words ≤ base → entry_of base words tail a < words + tail → address_of base words (entry_of base words tail a) ≡ a
address_of_entry base words tail a low h = (entry base words tail a low).back h

pub entry_of_address : (base words tail i : ℕ) → words ≤ base → i < words + tail → entry_of base words tail (address_of base words i) ≡ i
entry_of_address base words tail i low h = by (dec_lt i words)
  where
    by : Dec (i < words) → entry_of base words tail (address_of base words i) ≡ i
    by (yes p) = rw (address_program base words i p) (entry_program base words tail i p)
    by (no p) =
        rw (address_config base words i (omega arith))
        (entry_config base words tail (base + (i - words)) (omega arith) (omega arith) (omega arith) ∙ omega arith)

-- two addresses with one entry are equal
pub entry_injective : (base words tail a b : ℕ) → words ≤ base → entry_of base words tail a < words + tail → entry_of base words tail a ≡ entry_of base words tail b → a ≡ b
entry_injective base words tail a b low h e =
    sym (address_of_entry base words tail a low h)
    ∙ (ap (address_of base words) e ∙ address_of_entry base words tail b low (rw (← e) h))

-- an entry's place is its address, where 16 bits hold the last of them
pub place_of_lem : (base words tail i : ℕ) → words ≤ base → base + tail ≤ 0x10000 → i < words + tail → place_of base words tail i ≡ Some (record { 0 = address_of base words i })
unfolding place_of pick
place_of_lem base words tail i low fits h = rw (lt-ltb i (words + tail) h) (placed_at (address_of base words i) (by (dec_lt i words)))
  where
    by : Dec (i < words) → address_of base words i < 0x10000
    by (yes p) = rw (address_program base words i p) (omega arith)
    by (no p) = rw (address_config base words i (omega arith)) (omega arith)

-- ---- the counter's successor

module _ (base a : ℕ) where
  pub successor_program : a + 1 < base → successor base a ≡ a + 1
  unfolding successor pick
  successor_program h = rw (ne_eqb a (base - 1) (λ e. omega arith), ne_eqb a (2 * base - 1) (λ e. omega arith))

  pub successor_config : base ≤ a → a + 1 < 2 * base → successor base a ≡ a + 1
  unfolding successor pick
  successor_config p h = rw (ne_eqb a (base - 1) (λ e. omega arith), ne_eqb a (2 * base - 1) (λ e. omega arith))

-- the highest of 16 bits tells the space, and the others count around
pub successor_around : (a : ℕ) → a < 0x10000 → a / 0x8000 * 0x8000 + (a % 0x8000 + 1) % 0x8000 ≡ successor config_base a
unfolding successor pick
successor_around a h = by (ℕ_discrete a 0x7fff) (ℕ_discrete a 0xffff)
  where
    by : Dec (a ≡ 0x7fff) → Dec (a ≡ 0xffff)
        → a / 0x8000 * 0x8000 + (a % 0x8000 + 1) % 0x8000 ≡ pick (eqb a (config_base - 1)) 0 (pick (eqb a (2 * config_base - 1)) config_base (a + 1))
    by (yes p) q = rw (eq-eqb a 0x7fff p) (omega arith)
    by (no p) (yes q) = rw (ne_eqb a 0x7fff p, eq-eqb a 0xffff q) (omega arith)
    by (no p) (no q) = rw (ne_eqb a 0x7fff p, ne_eqb a 0xffff q) (omega arith)
