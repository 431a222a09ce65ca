-- Laws of an image judged whole: the bits of its given words together, and the words that are never given.
use Rattle.std.specs.Prelude.{ℕ, ◌+◌, ◌≤◌, ◌<◌, ◌≡◌, Bool, false, ◌&&◌, List, eqb, length}
use Rattle.std.proofs.Common.{lt_of_le_of_lt, ◌∙◌}
use native.Mathlib.Omega.{arith}
use Rattle.std.proofs.Math.Path.{sym}
use Rattle.std.proofs.Math.Bool.{true}
use Rattle.std.proofs.Math.ListN.{get_or}
use borrow.Author.Tests.{eqb-true, eq-eqb, ne_eqb}
use Rattle.words.specs.Choice.{pick}
use Rattle.words.specs.Word.{not_given}
use Rattle.words.specs.LawsChoice.{pick_true, pick_false, true_not_false}
use Rattle.words.specs.LawsTests.{by_test, by_lt, by_eq, fails, three_hold, all_three}
use Rattle.words.specs.LawsJoined.{Joined}
use Rattle.device.specs.Memory.{reading_tail, ids, cp_word, entry_ok, image_ok}
use Rattle.device.specs.LawsMemory.{programmable_low, programmable_never, programmable_config, entry_none, entry_given, entry_word, image_each, image_of_lem}

-- the bits of an entry, none where it is 'not given'
unfoldable pub given_bits : ℕ → ℕ
given_bits entry = pick (eqb entry not_given) 0 entry

-- 8004h to 8006h are not given
unfoldable pub never_given : (words : ℕ) → List ℕ → Bool
never_given words l = eqb (get_or l (words + 4) 0) not_given && eqb (get_or l (words + 4 + 1) 0) not_given && eqb (get_or l (words + 4 + 2) 0) not_given

module _ (entry : ℕ) where
  pub bits_none : entry ≡ not_given → 0 ≡ given_bits entry
  unfolding given_bits
  bits_none e = sym (pick_true (eqb entry not_given) 0 entry (eq-eqb entry not_given e))

  pub bits_given : (entry ≡ not_given → ⊥) → entry ≡ given_bits entry
  unfolding given_bits
  bits_given n = sym (pick_false (eqb entry not_given) 0 entry (ne_eqb entry not_given n))

-- each way to answer it
module _ (words : ℕ) (l : List ℕ) where
  pub never_first : (get_or l (words + 4) 0 ≡ not_given → ⊥) → false ≡ never_given words l
  unfolding never_given
  never_first n = rw (ne_eqb (get_or l (words + 4) 0) not_given n)

  module _ (e : get_or l (words + 4) 0 ≡ not_given) where
    pub never_second : (get_or l (words + 4 + 1) 0 ≡ not_given → ⊥) → false ≡ never_given words l
    unfolding never_given
    never_second n = rw (eq-eqb (get_or l (words + 4) 0) not_given e, ne_eqb (get_or l (words + 4 + 1) 0) not_given n)

    pub never_third : get_or l (words + 4 + 1) 0 ≡ not_given → eqb (get_or l (words + 4 + 2) 0) not_given ≡ never_given words l
    unfolding never_given
    never_third f = rw (eq-eqb (get_or l (words + 4) 0) not_given e, eq-eqb (get_or l (words + 4 + 1) 0) not_given f)

module _ (words : ℕ) (l : List ℕ) (all : ℕ) (e : length l ≡ words + reading_tail) (j : Joined (length l) (λ k. given_bits (get_or l k 0)) all) where
  -- a bit too high is some given entry's
  pub image_high : 0x4000 ≤ all → image_ok words l ≡ false
  image_high h = fails (image_ok words l) (λ t. let f : all < 0x4000 = j.fits (each t) in absurd (omega arith))
    where
      each : image_ok words l ≡ true → (k : ℕ) → k < length l → given_bits (get_or l k 0) < 0x4000
      each t k p =
          by_eq (get_or l k 0) not_given
          (λ q. rw (← bits_none (get_or l k 0) q) (omega arith))
          (λ n. rw (← bits_given (get_or l k 0) n) (entry_word words k (get_or l k 0) (image_each words l t k (omega arith)) n).0)

  module _ (low : all < 0x4000) where
    word_there : (k : ℕ) → k < words + reading_tail → (get_or l k 0 ≡ not_given → ⊥) → get_or l k 0 < 0x4000
    word_there k h n = lt_of_le_of_lt (rw (← bits_given (get_or l k 0) n) at (j.under k (omega arith))) low

    -- a word stands only where a word may be given
    between : never_given words l ≡ true → (k : ℕ) → words + ids ≤ k → k < words + cp_word → get_or l k 0 ≡ not_given
    unfolding never_given
    between t k p q =
        let all3 = three_hold (eqb (get_or l (words + 4) 0) not_given) (eqb (get_or l (words + 4 + 1) 0) not_given) (eqb (get_or l (words + 4 + 2) 0) not_given) t in
        by_eq k (words + 4) (λ s. rw s (eqb-true _ _ all3.0))
        (λ m. by_eq k (words + 4 + 1) (λ s. rw s (eqb-true _ _ all3.1)) (λ o. let s : k ≡ words + 4 + 2 = omega arith in rw s (eqb-true _ _ all3.2)))

    sound : never_given words l ≡ true → (k : ℕ) → k < words + reading_tail → entry_ok words k (get_or l k 0) ≡ true
    sound t k h =
        by_eq (get_or l k 0) not_given (entry_none words k (get_or l k 0))
        (λ n. entry_given words k (get_or l k 0) (word_there k h n)
        ∙ by_lt k (words + ids) (programmable_low words k)
        (λ p. by_lt k (words + cp_word) (λ q. absurd (n (between t k p q))) (λ q. programmable_config words k q h)))

    -- and one that is given there shows
    given_between : never_given words l ≡ false → image_ok words l ≡ false
    unfolding never_given
    given_between f = fails (image_ok words l) (λ t. absurd (true_not_false (silent t) f))
      where
        never : image_ok words l ≡ true → (k : ℕ) → words + ids ≤ k → k < words + cp_word → get_or l k 0 ≡ not_given
        never t k p q =
            by_eq (get_or l k 0) not_given (λ s. s)
            (λ n. absurd (true_not_false (entry_word words k (get_or l k 0) (image_each words l t k (omega arith)) n).1 (programmable_never words k p q)))

        silent : image_ok words l ≡ true → never_given words l ≡ true
        silent t =
            all_three (eqb (get_or l (words + 4) 0) not_given) (eqb (get_or l (words + 4 + 1) 0) not_given) (eqb (get_or l (words + 4 + 2) 0) not_given)
            (eq-eqb _ _ (never t (words + 4) (omega arith) (omega arith)))
            (eq-eqb _ _ (never t (words + 4 + 1) (omega arith) (omega arith)))
            (eq-eqb _ _ (never t (words + 4 + 2) (omega arith) (omega arith)))

    pub image_low : never_given words l ≡ image_ok words l
    image_low = by_test (never_given words l) (λ t. t ∙ sym (image_of_lem words l e (sound t))) (λ f. f ∙ sym (given_between f))
