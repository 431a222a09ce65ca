-- Demand 2 in its own words: what the programmed cells hold, and that a plan's bytes are the stream's.
use Rattle.std.specs.Prelude.{ℕ, ◌+◌, ◌*◌, ◌≤◌, ◌<◌, ◌≡◌, refl, Bool, true, List, [], ◌++◌, leb, length, get_or, take, drop}
use Rattle.std.proofs.Common.{zero-add, arith, sym, ap, ◌∙◌, take_at, leb-true, eq-eqb}
use Rattle.std.proofs.Math.Bool.{false}
use Rattle.std.proofs.Math.Dec.{eqb}
use Rattle.std.proofs.lemmas.List.Edits.{sets, sets-eq}
use Rattle.words.specs.Choice.{pick}
use Rattle.words.specs.Word.{erased, not_given, bit}
use Rattle.words.specs.LawsMask.{erased_bit, under_inside}
use Rattle.words.specs.LawsChoice.{pick_true, pick_false}
use Rattle.words.specs.LawsLists.{get_or_build}
use Rattle.device.specs.declared.Device.{Device}
use Rattle.device.specs.Memory.{ids, programmable, mask_at}
use Rattle.device.specs.LawsMemory.{programmable_low}
use Rattle.target.specs.Stream.{bytes_of}
use Rattle.target.specs.LawsStream.{length_bytes}
use Rattle.target.specs.declared.Order.{Order}
use Rattle.aim.specs.Wanted.{known, wanted}
use Rattle.plan.specs.Answers.{planned, planned_out}
use Rattle.plan.specs.Demands.{programmed}
use Rattle.aim.specs.LawsWanted.{wanted_silent, wanted_given, wanted_whole, wanted_spare}

-- ---- the programmed cells, word by word

module _ (d : Device) (image reading first : List ℕ) (i : ℕ) (h : i < length first) where
  entry : get_or (programmed d image reading first) i 0 ≡ pick (programmable d.words i) (wanted d image reading i) (get_or first i 0)
  unfolding programmed
  entry = get_or_build (length first) _ i h

  -- a program word or user ID that the image gives has its new value
  pub given_word : i < d.words + ids → (get_or image i not_given ≡ not_given → ⊥) → get_or (programmed d image reading first) i 0 ≡ get_or image i not_given
  given_word p g = entry ∙ (pick_true (programmable d.words i) _ _ (programmable_low d.words i p) ∙ wanted_whole d image reading i (omega arith) g)

  -- any word that it gives, a configuration word too, has the image's bits under its mask, and elsewhere the known ones
  pub given_config : programmable d.words i ≡ true → (get_or image i not_given ≡ not_given → ⊥) → (n : ℕ) → n < 14
      → (bit (mask_at d i) n ≡ 1 → bit (get_or (programmed d image reading first) i 0) n ≡ bit (get_or image i not_given) n)
      × (bit (mask_at d i) n ≡ 0 → bit (get_or (programmed d image reading first) i 0) n ≡ bit (known reading i) n)
  given_config p g n h = (
    λ e. ap (λ w. bit w n) (placed ∙ wanted_given d image reading i g) ∙ under_inside (mask_at d i) (get_or image i not_given) (known reading i) n e,
    λ e. ap (λ w. bit w n) placed ∙ wanted_spare d image reading i n h e,
  )
    where
      placed : get_or (programmed d image reading first) i 0 ≡ wanted d image reading i
      placed = entry ∙ pick_true (programmable d.words i) _ _ p

  -- a word that it does not give is the known one
  pub silent_word : programmable d.words i ≡ true → get_or image i not_given ≡ not_given → get_or (programmed d image reading first) i 0 ≡ known reading i
  silent_word p g = entry ∙ (pick_true (programmable d.words i) _ _ p ∙ wanted_silent d image reading i g)

  -- any other word is as it was
  pub other_word : programmable d.words i ≡ false → get_or (programmed d image reading first) i 0 ≡ get_or first i 0
  other_word p = entry ∙ pick_false (programmable d.words i) _ _ p

-- for a fresh programming 'known' is erased, and so every bit of it is 1
pub nothing_known : (i : ℕ) → known [] i ≡ erased
unfolding known
nothing_known i = refl

pub nothing_known_bit : (i n : ℕ) → n < 14 → bit (known [] i) n ≡ 1
nothing_known_bit i n h = ap (λ w. bit w n) (nothing_known i) ∙ erased_bit n h

-- ---- the bytes that a planner writes are the stream's

module _ (number : ℕ) (s : List Order) (out : List ℕ) (e : (planned number s out).number ≡ 0) where
  room : 3 * length s ≤ length out
  room = by (eqb number 0) refl (leb (3 * length s) (length out)) refl
    where
      by : (a : Bool) → eqb number 0 ≡ a → (b : Bool) → leb (3 * length s) (length out) ≡ b → 3 * length s ≤ length out
      by a ea true eb = leb-true (3 * length s) (length out) eb
      by true ea false eb = absurd (let z : ◌≡◌ {A = ℕ} 26 0 = sym (short ea eb) ∙ e in omega arith)
        where
          short : eqb number 0 ≡ true → leb (3 * length s) (length out) ≡ false → (planned number s out).number ≡ 26
          short p q = unfold planned pick in rw (p, q)
      by false ea false eb = absurd (Rattle.words.specs.LawsChoice.true_not_false (eq-eqb number 0 (sym (refused ea) ∙ e)) ea)
        where
          refused : eqb number 0 ≡ false → (planned number s out).number ≡ number
          refused p = unfold planned pick in rw p

  pub plan_bytes : take (length (bytes_of s)) (planned_out number s out) ≡ bytes_of s
  plan_bytes = ap (take (length (bytes_of s))) (opened ∙ stored) ∙ take_at (bytes_of s) (drop (length (bytes_of s)) out) (length (bytes_of s)) refl
    where
      opened : planned_out number s out ≡ sets out 0 (bytes_of s)
      opened = unfold planned_out in pick_true (eqb (planned number s out).number 0) _ _ (eq-eqb _ 0 e)

      fits : 0 + length (bytes_of s) ≤ length out
      fits = let l : length (bytes_of s) ≡ 3 * length s = length_bytes s in let m : 3 * length s ≤ length out = room in omega arith

      stored : sets out 0 (bytes_of s) ≡ bytes_of s ++ drop (length (bytes_of s)) out
      stored = sets-eq (bytes_of s) out 0 fits ∙ ap (λ n. bytes_of s ++ drop n out) (zero-add (length (bytes_of s)))
