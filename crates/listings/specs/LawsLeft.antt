-- Laws of the sheet that a stream is to leave: what is filled in word by word is a reading, and the sheet of it is what is to be printed.
use Rattle.std.specs.Prelude.{ℕ, ◌+◌, ◌≤◌, ◌<◌, ◌≡◌, Bool, length, get_or, set, take}
use Rattle.std.proofs.Common.{zero-add, arith, ◌∙◌, length-append, take_at, length-take-le}
use Rattle.std.proofs.Math.Path.{sym, ap}
use Rattle.std.proofs.Math.Bool.{true, false}
use mathlib.Core.List.{List, [], ◌++◌}
use Rattle.words.specs.Choice.{pick}
use Rattle.words.specs.Lists.{build, in_range, overlay}
use Rattle.words.specs.LawsChoice.{pick_true, pick_false}
use Rattle.words.specs.LawsTests.{by_test}
use Rattle.words.specs.LawsLists.{length_build, get_or_build, build_ext, in_range_lem, overlay_more}
use Rattle.words.specs.LawsWord.{words_of_lem}
use Rattle.device.specs.declared.Device.{Device}
use Rattle.device.specs.Memory.{reading_tail, programmable, image_ok, reading_ok}
use Rattle.device.specs.LawsMemory.{reading_long, reading_each}
use Rattle.sheet.specs.Sheet.{sheet_with}
use Rattle.aim.specs.Wanted.{wanted}
use Rattle.aim.specs.Refusal.{update_number, fresh_number}
use Rattle.plan.specs.Demands.{programmed}
use Rattle.aim.specs.LawsAccepted.{accepted, accepted_fresh}
use Rattle.plan.specs.LawsPlanSource.{update_source, fresh_source}
use Rattle.device.specs.Record.{device_up_to}
use Rattle.board.specs.Open.{most_program}
use Rattle.board.specs.Sheet.{printed_sheet}
use Rattle.board.specs.LawsWritten.{printed_whole}
use Rattle.listings.specs.LawsPlans.{plan_number, known_to}

-- ---- one word

unfoldable pub left_word : Device → (image known reading : List ℕ) → ℕ → ℕ
left_word d image known reading i = pick (programmable d.words i) (wanted d image known i) (get_or reading i 0)

-- ---- word by word

-- one turn of a loop that replaces a list from its first entry on
pub fill_more : (f : ℕ → ℕ) (l m : List ℕ) (i v : ℕ) → m ≡ overlay 0 i f l → v ≡ f i → set m i v ≡ overlay 0 (i + 1) f l
fill_more f l m i v e w = ap (λ k. set m k v) (sym (zero-add i)) ∙ overlay_more 0 i f l m v e (w ∙ ap f (sym (zero-add i)))

pub fill_done : (d : Device) (image known reading l m : List ℕ) (i : ℕ) → length l ≡ length reading → length l ≤ i → m ≡ overlay 0 i (left_word d image known reading) l
    → m ≡ programmed d image known reading
unfolding overlay left_word programmed
fill_done d image known reading l m i long h e =
    e
    ∙ (build_ext (length l) _ (λ k. pick (programmable d.words k) (wanted d image known k) (get_or reading k 0))
    (λ k p. pick_true (in_range 0 i k) _ _ (in_range_lem 0 i k (omega arith) (rw zero-add (omega arith))))
    ∙ ap (λ n. build n (λ k. pick (programmable d.words k) (wanted d image known k) (get_or reading k 0))) long)

-- ---- what a planner that does not refuse is to leave is a reading

module _ (fresh : Bool) (d : Device) (image reading : List ℕ) (ok : reading_ok d.words reading ≡ true) (z : plan_number fresh d image reading ≡ 0) where
  image_sound : image_ok d.words image ≡ true
  image_sound = by fresh (unfold plan_number in z)
    where
      by : (f : Bool) → pick f (fresh_number d image (get_or reading (d.words + 6) 0)) (update_number d image reading) ≡ 0 → image_ok d.words image ≡ true
      by true q = (accepted_fresh d image (get_or reading (d.words + 6) 0) (unfold pick in q)).image_sound
      by false q = (accepted d image reading (unfold pick in q)).image_sound

  wanted_small : (i : ℕ) → wanted d image (known_to fresh reading) i < 0x4000
  wanted_small i = unfold known_to in by fresh
    where
      by : (f : Bool) → wanted d image (pick f [] reading) i < 0x4000
      by true = unfold pick in (fresh_source d image image_sound).fits i
      by false = unfold pick in (update_source d image reading image_sound ok).fits i

  aim : List ℕ
  aim = programmed d image (known_to fresh reading) reading

  aim_long : length aim ≡ d.words + reading_tail
  aim_long = unfold aim programmed in length_build (length reading) _ ∙ reading_long d.words reading ok

  aim_small : (i : ℕ) → i < d.words + reading_tail → get_or aim i 0 < 0x4000
  aim_small i h =
      rw (get_or_is i h)
      (by_test (programmable d.words i)
      (λ e. rw (pick_true (programmable d.words i) (wanted d image (known_to fresh reading) i) (get_or reading i 0) e) (wanted_small i))
      (λ e. rw (pick_false (programmable d.words i) (wanted d image (known_to fresh reading) i) (get_or reading i 0) e) (reading_each d.words reading ok i)))
    where
      get_or_is : (i : ℕ) → i < d.words + reading_tail → get_or aim i 0 ≡ pick (programmable d.words i) (wanted d image (known_to fresh reading) i) (get_or reading i 0)
      get_or_is i h = unfold aim programmed in get_or_build (length reading) _ i (rw (reading_long d.words reading ok) h)

  aim_sound : reading_ok d.words aim ≡ true
  unfolding reading_ok
  aim_sound = words_of_lem (d.words + reading_tail) aim aim_long aim_small

  -- at the front of a longer list
  module _ (words rest : List ℕ) (e : words ≡ programmed d image (known_to fresh reading) reading) where
    same : words ≡ aim
    unfolding aim
    same = e

    pub left_within : d.words + reading_tail ≤ length (words ++ rest)
    left_within = let count : length words ≡ d.words + reading_tail = ap length same ∙ aim_long in rw (length-append words rest) (omega arith)

    pub left_part : length (take (d.words + reading_tail) (words ++ rest)) ≡ d.words + reading_tail
    left_part = length-take-le (d.words + reading_tail) (words ++ rest) left_within

    front : take (d.words + reading_tail) (words ++ rest) ≡ words
    front = take_at words rest (d.words + reading_tail) (ap length same ∙ aim_long)

    left_sound : reading_ok d.words (take (d.words + reading_tail) (words ++ rest)) ≡ true
    left_sound = ap (reading_ok d.words) (front ∙ same) ∙ aim_sound

    pub left_sheet : device_up_to most_program d ≡ true → (id : ℕ) → id < 0x4000
        → printed_sheet d id (take (d.words + reading_tail) (words ++ rest)) ≡ sheet_with id d (programmed d image (known_to fresh reading) reading)
    left_sheet served id small = printed_whole d id _ served left_sound small ∙ ap (sheet_with id d) (front ∙ e)
