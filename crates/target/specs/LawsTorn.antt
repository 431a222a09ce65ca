-- Laws of torn cells, and of an edit that is torn.
use Rattle.std.specs.Prelude.{ℕ, ◌<◌, ◌≡◌, Bool, true, false, List, length, get_or}
use Rattle.std.proofs.Common.{arith, subst}
use Rattle.words.specs.Word.{Between}
use Rattle.words.specs.LawsLists.{same_entries, get_d_past}
use Rattle.words.specs.LawsWord.{between_same, between_new, between_lt}
use Rattle.target.specs.Effects.{edit}
use Rattle.target.specs.Cut.{Torn}
use Rattle.target.specs.LawsEdit.{length_edit, edit_hit, edit_kept}
use Rattle.words.specs.LawsTests.{by_test, by_lt}

-- cells that do not change cannot be torn
pub torn_nothing : (c w : List ℕ) → Torn c c w → w ≡ c
torn_nothing c w torn = same_entries w c torn.long (λ i h. between_same (get_or c i 0) (get_or w i 0) (torn.bits i))

-- a whole step is torn to its own result
pub torn_whole : (c e : List ℕ) → length e ≡ length c → Torn c e e
torn_whole c e l = record { long = l; bits = λ i. between_new (get_or c i 0) (get_or e i 0) }

module _ (hit : ℕ → Bool) (new : ℕ → ℕ) (c : List ℕ) where
  pub torn_edit : Torn c (edit hit new c) (edit hit new c)
  torn_edit = torn_whole c (edit hit new c) (length_edit hit new c)

  module _ (w : List ℕ) (torn : Torn c (edit hit new c) w) where
    pub torn_hit : (i : ℕ) → i < length c → hit i ≡ true → Between (get_or c i 0) (new i) (get_or w i 0)
    torn_hit i h e = subst (λ n. Between (get_or c i 0) n (get_or w i 0)) (edit_hit hit new c i h e) (torn.bits i)

    pub torn_miss : (i : ℕ) → hit i ≡ false → get_or w i 0 ≡ get_or c i 0
    torn_miss i e = between_same (get_or c i 0) (get_or w i 0) (subst (λ n. Between (get_or c i 0) n (get_or w i 0)) (edit_kept hit new c i e) (torn.bits i))

    pub torn_fits : ((i : ℕ) → new i < 0x4000) → ((i : ℕ) → get_or c i 0 < 0x4000) → (i : ℕ) → get_or w i 0 < 0x4000
    torn_fits small fits i =
        by_test (hit i)
        (λ e. by_lt i (length c)
        (λ h. between_lt 14 (get_or c i 0) (new i) (get_or w i 0) (fits i) (small i) (torn_hit i h e))
        (λ h. rw (get_d_past w i (rw torn.long h)) (omega arith)))
        (λ e. rw (torn_miss i e) (fits i))
