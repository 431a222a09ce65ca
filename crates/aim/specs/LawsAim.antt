-- The tests by which the code finds a wanted word and chooses what it writes, one by one.
use Rattle.std.specs.Prelude.{ℕ, ◌+◌, ◌*◌, ◌≤◌, ◌<◌, ◌≡◌, Bool, ◌||◌, not, List, length, get_or}
use Rattle.std.proofs.Common.{mul-le-mul_right, arith, sym, ap₂, ◌∙◌, lt-ltb, le-ltb}
use Rattle.std.proofs.Math.Path.{refl}
use Rattle.std.proofs.Math.Bool.{true, false}
use Rattle.words.specs.Word.{not_given, under_mask}
use Rattle.device.specs.declared.Device.{Device}
use Rattle.device.specs.Memory.{cp_word, mask_at}
use Rattle.target.specs.Chip.{Chip}
use Rattle.aim.specs.Wanted.{known, wanted, some, differs, only_clears, rises, row_differs, row_rises, id_differs, id_rises, config_writes}
use Rattle.aim.specs.LawsWanted.{same_default, known_inside, wanted_silent, wanted_given, wanted_whole}
use Rattle.aim.specs.LawsRises.{clears_same, rises_not}

-- ---- the known word, and the wanted one

module _ (reading : List ℕ) (i : ℕ) where
  pub is_known : i < length reading → get_or reading i 0 ≡ known reading i
  is_known h = sym (known_inside reading i h)

module _ (image : List ℕ) (i : ℕ) where
  pub given_inside : i < length image → get_or image i 0 ≡ get_or image i not_given
  given_inside h = same_default image i 0 not_given h

module _ (d : Device) (image reading : List ℕ) (i given : ℕ) (e : given ≡ get_or image i not_given) where
  pub is_silent : (word : ℕ) → word ≡ known reading i → given ≡ not_given → word ≡ wanted d image reading i
  is_silent word w s = w ∙ sym (wanted_silent d image reading i (sym e ∙ s))

  -- where the word has every bit
  pub is_given : i < d.words + cp_word → (given ≡ not_given → ⊥) → given ≡ wanted d image reading i
  is_given h s = e ∙ sym (wanted_whole d image reading i h (λ q. s (e ∙ q)))

  -- and where it has those of its mask
  pub is_under : (old word : ℕ) → old ≡ known reading i → word ≡ under_mask (mask_at d i) given old → (given ≡ not_given → ⊥) → word ≡ wanted d image reading i
  is_under old word o w s =
      w ∙ (ap₂ (under_mask (mask_at d i)) e o ∙ sym (wanted_given d image reading i (λ q. s (e ∙ q))))

pub rises_is : (word old : ℕ → ℕ) (i a b : ℕ) (r : Bool) → a ≡ word i → b ≡ old i → r ≡ only_clears a b → not r ≡ rises word old i
unfolding rises
rises_is word old i a b r p q e = rw (e, p, q)

-- ---- words that have every bit and stand within both lists

pub record Plain (d : Device) (image reading : List ℕ) (past : ℕ) : Type 0 where
  pub low : past ≤ d.words + cp_word
  pub given : past ≤ length image
  pub read : past ≤ length reading

module _ (d : Device) (image reading : List ℕ) (i : ℕ) (p : Plain d image reading (i + 1)) where
  inside : i < length image
  inside = let x : i + 1 ≤ length image = p.given in omega arith

  is_plain : (get_or image i 0 ≡ not_given → ⊥) → get_or image i 0 ≡ wanted d image reading i
  is_plain n =
      let x : i + 1 ≤ d.words + cp_word = p.low in
      given_inside image i inside ∙ sym (wanted_whole d image reading i (omega arith) (λ e. n (given_inside image i inside ∙ e)))

  plain_known : get_or reading i 0 ≡ known reading i
  plain_known = let x : i + 1 ≤ length reading = p.read in is_known reading i (omega arith)

  -- a word that is not given stays
  pub plain_silent : (given : ℕ) → given ≡ get_or image i 0 → given ≡ not_given → false ≡ rises (wanted d image reading) (known reading) i
  plain_silent given e s =
      let same : wanted d image reading i ≡ known reading i = wanted_silent d image reading i (sym (given_inside image i inside) ∙ (sym e ∙ s)) in
      sym (rises_not (wanted d image reading) (known reading) i (rw same (clears_same (known reading i))))

  pub plain_given : (given : ℕ) → given ≡ get_or image i 0 → (given ≡ not_given → ⊥) → (r : Bool) → r ≡ only_clears given (get_or reading i 0)
      → not r ≡ rises (wanted d image reading) (known reading) i
  plain_given given e n r c = rises_is (wanted d image reading) (known reading) i given (get_or reading i 0) r (e ∙ is_plain (λ s. n (e ∙ s))) plain_known c

-- ---- rows and user IDs

pub row_differs_lem : (chip : Chip) (word old : ℕ → ℕ) (k : ℕ) → some chip.row (λ j. differs word old (k * chip.row + j)) ≡ row_differs chip word old k
unfolding row_differs
row_differs_lem chip word old k = refl

pub row_rises_lem : (chip : Chip) (word old : ℕ → ℕ) (k : ℕ) → some chip.row (λ j. rises word old (k * chip.row + j)) ≡ row_rises chip word old k
unfolding row_rises
row_rises_lem chip word old k = refl

pub id_differs_lem : (chip : Chip) (word old : ℕ → ℕ) → some chip.ids (λ j. differs word old (chip.words + j)) ≡ id_differs chip word old
unfolding id_differs
id_differs_lem chip word old = refl

pub id_rises_lem : (chip : Chip) (word old : ℕ → ℕ) → some chip.ids (λ j. rises word old (chip.words + j)) ≡ id_rises chip word old
unfolding id_rises
id_rises_lem chip word old = refl

-- more than any place here reaches, and far below what a number of the machine holds
abbrev pub farthest : ℕ
farthest = 0x100000000

-- no row ends there, whatever numbers of 16 bits it is made of
pub row_reaches : (k row : ℕ) → k < 0x10000 → row < 0x10000 → k * row + row < farthest
row_reaches k row h r =
    let a : k * row ≤ 0xffff * row = mul-le-mul_right row (omega arith) in
    omega arith

-- which words of configuration space are written
module _ (chip : Chip) (word old : ℕ → ℕ) (all : Bool) (k : ℕ) where
  pub all_written : k < chip.ids → all ≡ true → true ≡ config_writes chip word old all k
  unfolding config_writes
  all_written h e = rw (lt-ltb k chip.ids h, e)

  pub id_written : (r : Bool) → k < chip.ids → chip.is_config k ≡ false → all ≡ false → r ≡ differs word old (chip.words + k) → r ≡ config_writes chip word old all k
  unfolding config_writes
  id_written r h n e d = rw (lt-ltb k chip.ids h, e, n, ← d) (sym (or_false r))
    where
      or_false : (b : Bool) → (b || false) ≡ b
      or_false true = refl
      or_false false = refl

  pub never_written : chip.ids ≤ k → chip.is_config k ≡ false → false ≡ config_writes chip word old all k
  unfolding config_writes
  never_written p n = rw (le-ltb k chip.ids p, n)

  pub config_written : (r : Bool) → chip.ids ≤ k → chip.is_config k ≡ true → r ≡ differs word old (chip.words + k) → r ≡ config_writes chip word old all k
  unfolding config_writes
  config_written r p c d = rw (le-ltb k chip.ids p, c, ← d)
