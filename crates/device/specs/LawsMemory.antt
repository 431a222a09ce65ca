-- Laws of the places of a memory, of images entry by entry, and of readings.
use Rattle.std.specs.Prelude.{ℕ, ◌+◌, ◌-◌, ◌≤◌, ◌<◌, ◌≡◌, refl, false, ◌&&◌, ◌||◌, List, eqb, length, get_or}
use Rattle.std.proofs.Common.{arith, ◌∙◌}
use Rattle.std.proofs.Math.Decide.{dec_lt}
use Rattle.std.proofs.Math.Bool.{true}
use Rattle.std.proofs.Math.Dec.{ltb}
use borrow.Author.Tests.{lt-ltb, le-ltb, eqb-true, eq-eqb, ne_eqb}
use Rattle.words.specs.Word.{not_given, is_word}
use Rattle.words.specs.Lists.{every, in_range}
use Rattle.words.specs.LawsChoice.{both, first_holds, second_holds, first_fails, true_not_false}
use Rattle.words.specs.LawsLists.{every_at, every_all, in_range_lem, below_range, above_range, get_d_past}
use Rattle.words.specs.LawsWord.{word_lt, is_word_lem, bit_of_zero, words_long, words_each}
use Rattle.device.specs.Memory.{reading_tail, ids, cp_word, cp_bit, is_config, programmable, reading_ok, entry_ok, image_ok, zero_bit, protected}

-- ---- places

module _ (words i : ℕ) where
  pub programmable_low : i < words + ids → programmable words i ≡ true
  unfolding programmable
  programmable_low h = by (dec_lt i words)
    where
      by : Dec (i < words) → (ltb i words || ltb (i - words) ids || is_config (i - words)) ≡ true
      by (yes p) = rw (lt-ltb i words p)
      by (no p) = rw (le-ltb i words (omega arith), lt-ltb (i - words) ids (omega arith))

  above_ids : words + ids ≤ i → programmable words i ≡ is_config (i - words)
  unfolding programmable
  above_ids h = rw (le-ltb i words (omega arith), le-ltb (i - words) ids (omega arith))

  -- 8004h to 8006h
  pub programmable_never : words + ids ≤ i → i < words + cp_word → programmable words i ≡ false
  unfolding is_config
  programmable_never p q = above_ids p ∙ below_range 7 2 (i - words) (omega arith)

  pub programmable_config : words + cp_word ≤ i → i < words + reading_tail → programmable words i ≡ true
  unfolding is_config
  programmable_config p q = above_ids (omega arith) ∙ in_range_lem 7 2 (i - words) (omega arith) (omega arith)

  pub programmable_past : words + reading_tail ≤ i → programmable words i ≡ false
  unfolding is_config
  programmable_past h = above_ids (omega arith) ∙ above_range 7 2 (i - words) (omega arith)

  pub programmable_lt : programmable words i ≡ true → i < words + reading_tail
  programmable_lt e = by (dec_lt i (words + reading_tail))
    where
      by : Dec (i < words + reading_tail) → i < words + reading_tail
      by (yes p) = p
      by (no p) = absurd (true_not_false e (programmable_past (omega arith)))

-- ---- entries

module _ (words i entry : ℕ) where
  pub entry_none : entry ≡ not_given → entry_ok words i entry ≡ true
  unfolding entry_ok
  entry_none e = rw (eq-eqb entry not_given e)

  -- a word is sound where a word may be given
  pub entry_given : entry < 0x4000 → entry_ok words i entry ≡ programmable words i
  unfolding entry_ok
  entry_given w = rw (ne_eqb entry not_given (λ e. omega arith), is_word_lem entry w)

  -- a sound entry is 'not given', or a word where a word may be given
  pub entry_word : entry_ok words i entry ≡ true → (entry ≡ not_given → ⊥) → (entry < 0x4000) × (programmable words i ≡ true)
  unfolding entry_ok
  entry_word e n =
      let q : (is_word entry && programmable words i) ≡ true = rw (ne_eqb entry not_given n) at e in
      (word_lt entry (first_holds (is_word entry) (programmable words i) q), second_holds (is_word entry) (programmable words i) q)

-- ---- images

module _ (words : ℕ) (l : List ℕ) where
  pub image_long : image_ok words l ≡ true → length l ≡ words + reading_tail
  unfolding image_ok
  image_long e = eqb-true (length l) (words + reading_tail) (first_holds (eqb (length l) (words + reading_tail)) (every (words + reading_tail) (λ i. entry_ok words i (get_or l i 0))) e)

  pub image_each : image_ok words l ≡ true → (i : ℕ) → i < words + reading_tail → entry_ok words i (get_or l i 0) ≡ true
  unfolding image_ok
  image_each e i h = every_at (words + reading_tail) (λ k. entry_ok words k (get_or l k 0))
      (second_holds (eqb (length l) (words + reading_tail)) (every (words + reading_tail) (λ k. entry_ok words k (get_or l k 0))) e) i h

  pub image_of_lem : length l ≡ words + reading_tail → ((i : ℕ) → i < words + reading_tail → entry_ok words i (get_or l i 0) ≡ true) → image_ok words l ≡ true
  unfolding image_ok
  image_of_lem e h = both (eqb (length l) (words + reading_tail)) _ (eq-eqb (length l) (words + reading_tail) e) (every_all (words + reading_tail) (λ i. entry_ok words i (get_or l i 0)) h)

  pub image_short : (length l ≡ words + reading_tail → ⊥) → image_ok words l ≡ false
  unfolding image_ok
  image_short h = first_fails (eqb (length l) (words + reading_tail)) _ (ne_eqb (length l) (words + reading_tail) h)

-- ---- readings

module _ (words : ℕ) (l : List ℕ) where
  pub reading_long : reading_ok words l ≡ true → length l ≡ words + reading_tail
  unfolding reading_ok
  reading_long e = words_long (words + reading_tail) l e

  pub reading_each : reading_ok words l ≡ true → (i : ℕ) → get_or l i 0 < 0x4000
  unfolding reading_ok
  reading_each e i = words_each (words + reading_tail) l e i

  -- a word past the end counts as 0
  pub protected_past : length l ≤ words + cp_word → true ≡ protected words l
  unfolding protected zero_bit
  protected_past h = rw (get_d_past l (words + cp_word) h, bit_of_zero cp_bit)

-- only 8007h tells whether a board is protected
pub protected_same : (words : ℕ) (l m : List ℕ) → get_or l (words + cp_word) 0 ≡ get_or m (words + cp_word) 0 → protected words l ≡ protected words m
unfolding protected zero_bit
protected_same words l m e = rw e

-- ---- the configuration words

pub config_words : (k : ℕ) → is_config k ≡ in_range 7 2 k
unfolding is_config
config_words k = refl

module _ (k : ℕ) where
  pub config_below : k < 7 → is_config k ≡ false
  config_below h = config_words k ∙ below_range 7 2 k h

  pub config_inside : 7 ≤ k → k < 9 → is_config k ≡ true
  config_inside p q = config_words k ∙ in_range_lem 7 2 k p q

  pub config_past : 9 ≤ k → is_config k ≡ false
  config_past h = config_words k ∙ above_range 7 2 k h

  -- and no others
  pub config_range : is_config k ≡ true → (7 ≤ k) × (k < 9)
  config_range e = by (dec_lt k 7) (dec_lt k 9)
    where
      by : Dec (k < 7) → Dec (k < 9) → (7 ≤ k) × (k < 9)
      by (yes h) q = absurd (true_not_false e (config_below h))
      by (no h) (yes q) = (omega arith, q)
      by (no h) (no q) = absurd (true_not_false e (config_past (omega arith)))
