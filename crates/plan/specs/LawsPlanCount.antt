-- Steps counted without being written, and what is still to be counted.
use Rattle.std.specs.Prelude.{ℕ, ◌+◌, ◌-◌, ◌*◌, ◌≤◌, ◌<◌, ◌≡◌, refl, Bool, true, false, List, [], ◌∷◌, ◌++◌, length}
use Rattle.std.specs.Int.{from_bool}
use Rattle.std.proofs.Common.{arith, sym, ap, subst, ◌∙◌, length-append}
use Rattle.words.specs.Word.{erased}
use Rattle.device.specs.declared.Device.{Device}
use Rattle.device.specs.Record.{most_words}
use Rattle.device.specs.LawsRecord.{Rules}
use Rattle.target.specs.Chip.{Chip, chip_of}
use Rattle.target.specs.LawsChip.{SoundChip}
use Rattle.target.specs.declared.Order.{Order}
use Rattle.target.specs.declared.Order.TheVariants.{LoadConfiguration, ResetAddress, BulkErase}
use Rattle.aim.specs.Wanted.{known, wanted, some, id_differs, id_rises}
use Rattle.plan.specs.Steps.{erasing, row_steps, rows_from, word_steps, writes_from, config_steps, update_steps, fresh_steps, read_back_steps}
use Rattle.plan.specs.LawsPlanSteps.{plan_body, rows_yes, writes_yes, config_yes, config_no, update_opens, fresh_opens}
use Rattle.plan.specs.LawsPlanBounds.{length_row, length_word, read_back_count}

-- the promise of every count, with a bound that keeps sums of counts small
pub record Counts (most : ℕ) (steps : List Order) (r : ℕ) : Type 0 where
  pub is : r ≡ length steps
  pub few : r ≤ most

-- what each part comes to at most
abbrev pub rows_most : ℕ
rows_most = 4 * most_words

abbrev pub writes_most : ℕ
writes_most = 26

abbrev pub config_most : ℕ
config_most = 28

abbrev pub body_most : ℕ
body_most = rows_most + config_most

-- r steps are counted, and `rest` is not yet
pub record Counting (most : ℕ) (all rest : List Order) (r : ℕ) : Type 0 where
  pub count : r + length rest ≡ length all
  pub few : length all ≤ most

pub counting_all : (most : ℕ) (all : List Order) → length all ≤ most → Counting most all all 0
counting_all most all h = record { count = omega arith; few = h }

module _ (most : ℕ) (all : List Order) where
  pub counting_same : (x y : List Order) (r : ℕ) → x ≡ y → Counting most all x r → Counting most all y r
  counting_same x y r e c = subst (λ z. Counting most all z r) e c

  -- the first part is counted too
  counting_then : (x y : List Order) (r n : ℕ) → Counting most all (x ++ y) r → n ≡ length x → Counting most all y (r + n)
  counting_then x y r n c e =
      let t : r + length (x ++ y) ≡ length all = c.count in
      let a : length (x ++ y) ≡ length x + length y = length-append x y in
      record { count = omega arith; few = c.few }

  pub counting_none : (r : ℕ) → Counting most all [] r → Counts most all r
  counting_none r c =
      let t : r + 0 ≡ length all = c.count in
      let f : length all ≤ most = c.few in
      record { is = omega arith; few = omega arith }

-- ---- parts

pub counts_same : (most : ℕ) (x y : List Order) (r : ℕ) → x ≡ y → Counts most x r → Counts most y r
counts_same most x y r e c = subst (λ z. Counts most z r) e c

pub counts_then : (m n : ℕ) (x y : List Order) (a b : ℕ) → Counts m x a → Counts n y b → Counts (m + n) (x ++ y) (a + b)
counts_then m n x y a b c e =
    let p : a ≡ length x = c.is in
    let q : b ≡ length y = e.is in
    let f : a ≤ m = c.few in
    let g : b ≤ n = e.few in
    let t : length (x ++ y) ≡ length x + length y = length-append x y in
    record { is = omega arith; few = omega arith }

pub erase_counted : (b : Bool) → Counts 1 (erasing b) (from_bool b)
unfolding erasing
erase_counted true = record { is = refl; few = omega arith }
erase_counted false = record { is = refl; few = omega arith }

pub erase_is : (a b : Bool) (r : ℕ) → a ≡ b → Counts 1 (erasing a) r → Counts 1 (erasing b) r
erase_is a b r e c = counts_same 1 (erasing a) (erasing b) r (ap erasing e) c

-- one turn of each loop: a row or a word that is written
module _ (most : ℕ) (all : List Order) where
  pub row_counted : (chip : Chip) (erase : ℕ → Bool) (word : ℕ → ℕ) (chosen : ℕ → Bool) (n k at r e m : ℕ)
      → SoundChip chip → Counts 1 (erasing (erase k)) e → m ≡ (k * chip.row - at) + (e + (chip.sets - 1 + 2 * chip.row)) → k < n → chosen k ≡ true
      → Counting most all (rows_from chip erase word chosen (n - k) k at) r
      → Counting most all (rows_from chip erase word chosen (n - (k + 1)) (k + 1) (k * chip.row + (chip.row - 1))) (r + m)
  row_counted chip erase word chosen n k at r e m h c f l t w =
      counting_then most all (row_steps chip (erase k) word at (k * chip.row)) _ r m
      (counting_same most all _ _ r (rows_yes chip erase word chosen n k at l t) w)
      (f ∙ (ap (λ x. (k * chip.row - at) + (x + (chip.sets - 1 + 2 * chip.row))) c.is ∙ sym (length_row chip h (erase k) word at (k * chip.row))))

  pub word_counted : (word : ℕ → ℕ) (chosen : ℕ → Bool) (n k at r : ℕ) → k < n → chosen k ≡ true
      → Counting most all (writes_from word chosen (n - k) k at) r
      → Counting most all (writes_from word chosen (n - (k + 1)) (k + 1) k) (r + ((k - at) + 2))
  word_counted word chosen n k at r l t w =
      counting_then most all (word_steps (word k) at k) _ r _
      (counting_same most all _ _ r (writes_yes word chosen n k at l t) w)
      (sym (length_word (word k) at k))

module _ (chip : Chip) (erase : Bool) (word : ℕ → ℕ) (chosen : ℕ → Bool) where
  pub config_counted : (most e w : ℕ) → some chip.reading_tail chosen ≡ true → Counts 1 (erasing erase) e
      → Counts most (writes_from (λ k. word (chip.words + k)) chosen chip.reading_tail 0 0) w
      → Counts (2 + most) (config_steps chip erase word chosen) (1 + e + w)
  config_counted most e w s p q =
      counts_same (2 + most) _ _ (1 + e + w) (sym (config_yes chip erase word chosen s))
      (counts_then 2 most (LoadConfiguration erased ∷ erasing erase) (writes_from (λ k. word (chip.words + k)) chosen chip.reading_tail 0 0) (1 + e) w
      (counts_then 1 1 (LoadConfiguration erased ∷ []) (erasing erase) 1 e (record { is = refl; few = omega arith }) p)
      q)

  pub no_config_counted : (most : ℕ) → some chip.reading_tail chosen ≡ false → Counts most (config_steps chip erase word chosen) 0
  no_config_counted most s = counts_same most _ _ 0 (sym (config_no chip erase word chosen s)) (record { is = refl; few = omega arith })

-- ---- the streams

pub update_counted : (d : Device) (image reading : List ℕ) (rise ids : Bool) (b : ℕ)
    → rise ≡ id_rises (chip_of d) (wanted d image reading) (known reading)
    → ids ≡ id_differs (chip_of d) (wanted d image reading) (known reading)
    → Counts body_most (plan_body d image reading true rise ids) b → Counts (1 + body_most) (update_steps d image reading) (1 + b)
update_counted d image reading rise ids b r e c =
    counts_same (1 + body_most) _ _ (1 + b) (sym (update_opens d image reading rise ids r e))
    (counts_then 1 body_most (ResetAddress ∷ []) _ 1 b (record { is = refl; few = omega arith }) c)

pub fresh_counted : (d : Device) (image : List ℕ) (b : ℕ) → Counts body_most (plan_body d image [] false false false) b → Counts (3 + body_most) (fresh_steps d image) (3 + b)
fresh_counted d image b c =
    counts_same (3 + body_most) _ _ (3 + b) (sym (fresh_opens d image))
    (counts_then 3 body_most (LoadConfiguration erased ∷ BulkErase ∷ ResetAddress ∷ []) _ 3 b (record { is = refl; few = omega arith }) c)

pub read_back_counted : (d : Device) → Rules d → Counts body_most (read_back_steps d) (2 * d.words + 18)
read_back_counted d r =
    let m : d.words ≤ most_words = r.most in
    record { is = sym (read_back_count d r); few = omega arith }
