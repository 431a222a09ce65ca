-- Laws of a run's end: runs that are taken one by one give the text that entry after entry gives.
use Prim.Native.Nat.{ℕ, suc, ◌+◌, ◌-◌, ◌*◌, ◌/◌, ◌%◌, ◌≤◌, ◌<◌}
use native.Mathlib.Omega.{arith}
use Rattle.std.proofs.Math.Decide.{dec_lt, ℕ_discrete}
use Rattle.std.specs.Prelude.{◌≡◌, ◌==◌, ◌⊎◌, Bool, true, false, not, List, [], ◌++◌, length, get_or, min}
use borrow.Author.Tests.{eq-eqb, eqb-true}
use Rattle.words.specs.LawsChoice.{true_not_false}
use Rattle.words.specs.LawsTests.{not_holds, not_fails}
use Rattle.std.proofs.Common.{sym, ap, ◌∙◌, inl, inr, ⊎_elim, append-nil}
use Rattle.words.specs.Word.{not_given}
use Rattle.hexwrite.specs.Writer.{run_text, upper_after, text_from}
use Rattle.hexwrite.specs.LawsWriteRun.{run_none, after_none, Cut, cut_gap, cut_full, cut_none}

-- ---- one entry's part of the text

module _ (words : ℕ) (image : List ℕ) (n upper s i : ℕ) where
  pub text_end : n ≤ i → text_from words image (n - i) upper s i ≡ run_text words image upper s i
  unfolding text_from
  text_end h = let none : n - i ≡ 0 = omega arith in rw none

  text_cut : (e t : ℕ) → i < n → Cut image s i e t → text_from words image (n - i) upper s i ≡ run_text words image upper s e ++ text_from words image (n - (i + 1)) (upper_after words upper s e) t (i + 1)
  unfolding text_from
  text_cut e t h c = let more : n - i ≡ suc (n - (i + 1)) = omega arith in rw (more, c.ends, c.begins)

  -- a run ends before an entry that is not given
  text_gap : i < n → get_or image i 0 ≡ not_given → text_from words image (n - i) upper s i ≡ run_text words image upper s i ++ text_from words image (n - (i + 1)) (upper_after words upper s i) (i + 1) (i + 1)
  text_gap h g = text_cut i (i + 1) h (cut_gap image s i g)

  module _ (h : i < n) (g : get_or image i 0 ≡ not_given → ⊥) where
    -- a run ends with its block
    text_full : (i + 1) % 8 ≡ 0 → text_from words image (n - i) upper s i ≡ run_text words image upper s (i + 1) ++ text_from words image (n - (i + 1)) (upper_after words upper s (i + 1)) (i + 1) (i + 1)
    text_full z = text_cut (i + 1) (i + 1) h (cut_full image s i g z)

    -- a run goes on
    text_goes : ((i + 1) % 8 ≡ 0 → ⊥) → text_from words image (n - i) upper s i ≡ text_from words image (n - (i + 1)) upper s (i + 1)
    text_goes z =
        text_cut s s h (cut_none image s i g z)
        ∙ rw (run_none words image upper s s (omega arith), after_none words image upper s s (omega arith))

-- where no run is held, an entry that is not given has no text
pub text_skip : (words : ℕ) (image : List ℕ) (n upper i : ℕ) → i < n → get_or image i 0 ≡ not_given → text_from words image (n - i) upper i i ≡ text_from words image (n - (i + 1)) upper (i + 1) (i + 1)
text_skip words image n upper i h g =
    text_gap words image n upper i i h g
    ∙ rw (run_none words image upper i i (omega arith), after_none words image upper i i (omega arith))

-- ---- a whole run

-- from an entry the next block, or the image's end, is at r
pub record BlockStop (start count r : ℕ) : Type 0 where
  pub more : start < r
  pub inside : r ≤ count
  pub block : r ≤ 8 * (start / 8) + 8
  pub last : (r ≡ count) ⊎ (r % 8 ≡ 0)

module _ (start count : ℕ) (h : start < count) where
  pub block_ends : BlockStop start count (min count (start / 8 * 8 + 8))
  block_ends = record { more = omega arith; inside = omega arith; block = omega arith; last = by (dec_lt count (start / 8 * 8 + 8)) }
    where
      by : Dec (count < start / 8 * 8 + 8) → (min count (start / 8 * 8 + 8) ≡ count) ⊎ (min count (start / 8 * 8 + 8) % 8 ≡ 0)
      by (yes p) = inl (omega arith)
      by (no p) = inr (let e : min count (start / 8 * 8 + 8) ≡ start / 8 * 8 + 8 = omega arith in rw e (omega arith))

-- the run that begins at start ends at r: its text, and then what is left
pub record RunTo (image : List ℕ) (start r : ℕ) : Type 0 where
  pub more : start < r
  pub short : r ≤ start + 8
  pub inside : r ≤ length image
  pub text : (words upper : ℕ) → text_from words image (length image - start) upper start start ≡ run_text words image upper start r ++ text_from words image (length image - r) (upper_after words upper start r) r r

-- the entries from start up to i are given and in one block
pub record Going (image : List ℕ) (start stop i : ℕ) : Type 0 where
  pub low : start < i
  pub high : i ≤ stop
  pub given : get_or image (i - 1) 0 ≡ not_given → ⊥
  pub text : (words upper : ℕ) → text_from words image (length image - start) upper start start ≡ text_from words image (length image - (i - 1)) upper start (i - 1)

pub going_first : (image : List ℕ) (start stop : ℕ) → BlockStop start (length image) stop → (get_or image start 0 ≡ not_given → ⊥) → Going image start stop (start + 1)
going_first image start stop b g =
    let here : start + 1 - 1 ≡ start = omega arith in
    record { low = omega arith; high = omega arith; given = rw here g; text = λ words upper. rw here }

module _ (image : List ℕ) (start stop i : ℕ) (b : BlockStop start (length image) stop) (go : Going image start stop i) where
  last_entry : i - 1 + 1 ≡ i
  last_entry = omega arith

  held : i < stop → (words upper : ℕ) → text_from words image (length image - start) upper start start ≡ text_from words image (length image - i) upper start i
  held h words upper =
      let z : text_from words image (length image - (i - 1)) upper start (i - 1) ≡ text_from words image (length image - (i - 1 + 1)) upper start
      (i - 1 + 1) = text_goes words image (length image) upper start (i - 1) (omega arith) go.given (λ q. omega arith) in
      go.text words upper ∙ (rw last_entry at z)

  pub going_on : i < stop → (get_or image i 0 ≡ not_given → ⊥) → Going image start stop (i + 1)
  going_on h g =
      let here : i + 1 - 1 ≡ i = omega arith in
      record { low = omega arith; high = omega arith; given = rw here g; text = λ words upper. rw here (held h words upper) }

  pub run_gap : i < stop → get_or image i 0 ≡ not_given → RunTo image start i
  run_gap h g =
      record {
        more = go.low;
        short = omega arith;
        inside = omega arith;
        text = λ words upper.
            held h words upper
            ∙ (text_gap words image (length image) upper start i (omega arith) g
            ∙ ap (λ t. run_text words image upper start i ++ t) (sym (text_skip words image (length image) (upper_after words upper start i) i (omega arith) g)));
      }

  full_text : i % 8 ≡ 0 → (words upper : ℕ) → text_from words image (length image - start) upper start start ≡ run_text words image upper start i ++ text_from words image (length image - i) (upper_after words upper start i) i i
  full_text z words upper =
      let y : text_from words image (length image - (i - 1)) upper start (i - 1) ≡ run_text words image upper start (i - 1 + 1) ++ text_from words image
      (length image - (i - 1 + 1)) (upper_after words upper start (i - 1 + 1)) (i - 1 + 1) (i - 1 + 1) = text_full words image (length image) upper start (i - 1)
      (omega arith) go.given (rw last_entry z) in
      go.text words upper ∙ (rw last_entry at y)

  end_text : i ≡ length image → (i % 8 ≡ 0 → ⊥) → (words upper : ℕ)
      → text_from words image (length image - start) upper start start ≡ run_text words image upper start i ++ text_from words image (length image - i) (upper_after words upper start i) i i
  end_text e n words upper =
      let y : text_from words image (length image - (i - 1)) upper start (i - 1) ≡ text_from words image (length image - (i - 1 + 1)) upper start
      (i - 1 + 1) = text_goes words image (length image) upper start (i - 1) (omega arith) go.given (rw last_entry n) in
      let u : ℕ = upper_after words upper start i in
      let nothing : text_from words image (length image - i) u i i ≡ [] = text_end words image (length image) u i i (omega arith) ∙ run_none words image u i i (omega arith) in
      go.text words upper
      ∙ ((rw last_entry at y)
      ∙ (text_end words image (length image) upper start i (omega arith)
      ∙ (sym (append-nil (run_text words image upper start i)) ∙ ap (λ t. run_text words image upper start i ++ t) (sym nothing))))

  pub run_whole : stop ≤ i → RunTo image start i
  run_whole h = record { more = go.low; short = omega arith; inside = omega arith; text = by (ℕ_discrete (i % 8) 0) }
    where
      by : Dec (i % 8 ≡ 0) → (words upper : ℕ) → text_from words image (length image - start) upper start start ≡ run_text words image upper start i ++ text_from words image (length image - i) (upper_after words upper start i) i i
      by (yes z) = full_text z
      by (no n) = end_text (⊎_elim (λ e. omega arith) (λ z. absurd (n (let same : i ≡ stop = omega arith in rw same z))) b.last) n

-- a word that is given
abbrev pub given : ℕ → Bool
given w = not (w == not_given)

pub is_given : (w : ℕ) → given w ≡ true → w ≡ not_given → ⊥
is_given w t e = true_not_false (eq-eqb w not_given e) (not_holds (w == not_given) t)

pub not_one : (w : ℕ) → given w ≡ false → w ≡ not_given
not_one w f = eqb-true w not_given (not_fails (w == not_given) f)
