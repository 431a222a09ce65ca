-- What the writer's sentence says, told of the text as a whole: given words in ascending order, each run of neighbours
-- within an aligned block one record, a type 04 record only where the upper half changes.
use Prim.Native.Nat.{ℕ, zero, suc, ◌+◌, ◌-◌, ◌/◌, ◌%◌, ◌≤◌, ◌<◌}
use Rattle.std.proofs.Common.{arith, inl, inr, append-nil, below_more}
use Rattle.std.proofs.Math.Decide.{dec_lt}
use Rattle.std.specs.Prelude.{◌≡◌, refl, ◌⊎◌, List, [], ◌++◌}
use Rattle.std.proofs.Math.ListN.{get_or}
use Rattle.words.specs.Word.{not_given}
use Rattle.device.specs.Memory.{reading_tail}
use Rattle.hexwrite.specs.Writer.{record_text, upper_of, data_bytes, run_text, upper_after, run_end, next_start, text_from}
use Rattle.hexwrite.specs.LawsWrite.{upper_text}
use Rattle.hexwrite.specs.LawsWriteRun.{Seen, seen, gap, full, goes, run_some, run_none, after_some, after_none}

-- ---- runs

-- the entries from s up to, not including, e: all given, in one block, and more on neither side within it
pub record Run (words : ℕ) (image : List ℕ) (s e : ℕ) : Type 0 where
  pub some : s < e
  pub within : e ≤ words + reading_tail
  pub given : (k : ℕ) → s ≤ k → k < e → get_or image k 0 ≡ not_given → ⊥
  pub block : (k : ℕ) → s ≤ k → k < e → k / 8 ≡ s / 8
  pub no_earlier : (s % 8 ≡ 0) ⊎ (get_or image (s - 1) 0 ≡ not_given)
  pub no_later : (e % 8 ≡ 0) ⊎ ((e ≡ words + reading_tail) ⊎ (get_or image e 0 ≡ not_given))

-- no word is given from `from` up to `to`
abbrev pub Silent : List ℕ → (from to : ℕ) → Type 0
Silent image from to = (k : ℕ) → from ≤ k → k < to → get_or image k 0 ≡ not_given

-- the text of all given words from entry `from` on, where the upper half is `upper`
pub data Records (words : ℕ) (image : List ℕ) : (from upper : ℕ) → List ℕ → Type 0 where
  no_more : {from upper : ℕ} → Silent image from (words + reading_tail) → Records words image from upper []
  run : {from upper : ℕ} {rest : List ℕ} (s e : ℕ) → from ≤ s → Silent image from s → Run words image s e → Records words image e (upper_of words s) rest
      → Records words image from upper ((upper_text upper (upper_of words s) ++ record_text (data_bytes words image s e)) ++ rest)

one_more : (P : ℕ → Type 0) (s i : ℕ) → ((k : ℕ) → s ≤ k → k < i → P k) → P i → (k : ℕ) → s ≤ k → k < i + 1 → P k
one_more P s i below here k p q = below_more (λ j. s ≤ j → P j) i (λ j r t. below j t r) (λ t. here) k q p

module _ (words : ℕ) (image : List ℕ) where
  -- the run that is held back before entry i
  record Held (from s i : ℕ) : Type 0 where
    pub low : s ≤ i
    pub block : i ≤ s + i % 8
    pub after : from ≤ s
    pub silent : Silent image from s
    pub given : (k : ℕ) → s ≤ k → k < i → get_or image k 0 ≡ not_given → ⊥
    pub no_earlier : (s % 8 ≡ 0) ⊎ (get_or image (s - 1) 0 ≡ not_given)

  ended : (from s i e : ℕ) → Held from s i → s < e → e ≤ words + reading_tail → e ≤ s + 8 → (e - 1) / 8 ≡ s / 8 → ((k : ℕ) → s ≤ k → k < e → get_or image k 0 ≡ not_given → ⊥)
      → (e % 8 ≡ 0) ⊎ ((e ≡ words + reading_tail) ⊎ (get_or image e 0 ≡ not_given)) → Run words image s e
  ended from s i e h some within few one given later =
      record { some = some; within = within; given = given; block = λ k p q. omega arith; no_earlier = h.no_earlier; no_later = later }

  -- one entry more in the held run, or the next run to come after entry i
  held_on : (from s i : ℕ) → Held from s i → (get_or image i 0 ≡ not_given → ⊥) → ((i + 1) % 8 ≡ 0 → ⊥) → Held from s (i + 1)
  held_on from s i h g z =
      record {
        low = let l : s ≤ i = h.low in omega arith;
        block =
            let l : s ≤ i = h.low in
            let b : i ≤ s + i % 8 = h.block in
            let less : i % 8 < 7 = lib.Arith.lt_of_le-ne (omega arith) (λ q. z (omega arith)) in
            omega arith;
        after = h.after;
        silent = h.silent;
        given = one_more (λ k. get_or image k 0 ≡ not_given → ⊥) s i h.given g;
        no_earlier = h.no_earlier;
      }

  -- a run is over before entry i, and entry i is silent
  held_gap : (from i : ℕ) → from ≤ i → Silent image from i → get_or image i 0 ≡ not_given → Held from (i + 1) (i + 1)
  held_gap from i p q g =
      record {
        low = omega arith;
        block = omega arith;
        after = omega arith;
        silent = one_more (λ k. get_or image k 0 ≡ not_given) from i q g;
        given = λ k r t. absurd (omega arith);
        no_earlier = inr (let e : i + 1 - 1 ≡ i = omega arith in rw e g);
      }

  -- a block is over before entry i
  held_block : (i : ℕ) → i % 8 ≡ 0 → Held i i i
  held_block i z =
      record {
        low = omega arith;
        block = omega arith;
        after = omega arith;
        silent = λ k p q. absurd (omega arith);
        given = λ k r t. absurd (omega arith);
        no_earlier = inl z;
      }

  -- the last block of the held run
  one_block : (from s i : ℕ) → Held from s i → s < i → (i - 1) / 8 ≡ s / 8
  one_block from s i h p = let b : i ≤ s + i % 8 = h.block in omega arith

  -- a run and what comes after it
  put_run : {from upper : ℕ} {rest : List ℕ} (s i e : ℕ) → Held from s i → Run words image s e → Records words image e (upper_after words upper s e) rest
      → Records words image from upper (run_text words image upper s e ++ rest)
  put_run {from} {upper} {rest} s i e h r t =
      let u : upper_after words upper s e ≡ upper_of words s = after_some words image upper s e r.some in
      rw (run_some words image upper s e r.some) (run s e h.after h.silent r (rw u at t))

  -- no run
  put_none : {from upper : ℕ} {rest : List ℕ} (s e : ℕ) → e ≤ s → Records words image from (upper_after words upper s e) rest → Records words image from upper (run_text words image upper s e ++ rest)
  put_none {from} {upper} {rest} s e h t =
      let u : upper_after words upper s e ≡ upper = after_none words image upper s e h in
      rw (run_none words image upper s e h) (rw u at t)

  Made : (n upper from s i : ℕ) → Type 0
  Made n upper from s i = Records words image from upper (text_from words image n upper s i)

  at_end : (upper from s i : ℕ) → i ≡ words + reading_tail → Held from s i → Dec (s < i) → Records words image from upper (run_text words image upper s i)
  at_end upper from s i all h (yes p) =
      let r : Run words image s i = ended from s i i h p (omega arith) (let b : i ≤ s + i % 8 = h.block in omega arith) (one_block from s i h p) h.given (inr (inl all)) in
      let z : Records words image from upper (run_text words image upper s i ++ []) = put_run s i i h r (no_more (λ k a b. absurd (omega arith))) in
      rw append-nil at z
  at_end upper from s i all h (no p) =
      let l : s ≤ i = h.low in
      rw (run_none words image upper s i (omega arith)) (no_more (λ k a b. h.silent k a (omega arith)))

  -- one entry, where the rest is made of records whatever run is held after it
  one_entry : (n upper from s i : ℕ) → i < words + reading_tail → Held from s i → ((u f t : ℕ) → Held f t (i + 1) → Made n u f t (i + 1)) → Seen image s i → Dec (s < i)
      → Records words image from upper (run_text words image upper s (run_end image s i) ++ text_from words image n (upper_after words upper s (run_end image s i)) (next_start image s i) (i + 1))
  unfolding Made
  one_entry n upper from s i far h next (gap g x y) (yes p) =
      let r : Run words image s i = ended from s i i h p (omega arith) (let b : i ≤ s + i % 8 = h.block in omega arith) (one_block from s i h p) h.given (inr (inr g)) in
      rw (x, y) (put_run s i i h r (next (upper_after words upper s i) i (i + 1) (held_gap i i (omega arith) (λ k a b. absurd (omega arith)) g)))
  one_entry n upper from s i far h next (gap g x y) (no p) =
      let l : s ≤ i = h.low in
      let a : from ≤ s = h.after in
      rw (x, y) (put_none s i (omega arith) (next (upper_after words upper s i) from (i + 1) (held_gap from i (omega arith) (λ k b c. h.silent k b (omega arith)) g)))
  one_entry n upper from s i far h next (full g z x y) q =
      let l : s ≤ i = h.low in
      let b : i ≤ s + i % 8 = h.block in
      let r : Run words image s (i + 1) = ended from s i (i + 1) h (omega arith) (omega arith) (omega arith) (omega arith) (one_more (λ k. get_or image k 0 ≡ not_given → ⊥) s i h.given g) (inl z) in
      rw (x, y) (put_run s i (i + 1) h r (next (upper_after words upper s (i + 1)) (i + 1) (i + 1) (held_block (i + 1) z)))
  one_entry n upper from s i far h next (goes g z x y) q =
      rw (x, y) (put_none s s (omega arith) (next (upper_after words upper s s) from s (held_on from s i h g z)))

  made : (n upper from s i : ℕ) → i + n ≡ words + reading_tail → Held from s i → Made n upper from s i
  unfolding text_from Made
  made zero upper from s i all h = at_end upper from s i (omega arith) h (dec_lt s i)
  made (suc n) upper from s i all h =
      one_entry n upper from s i (omega arith) h (λ u f t k. made n u f t (i + 1) (omega arith) k) (seen image s i) (dec_lt s i)

  -- the text is made of records in this way
  pub text_made : Records words image 0 0 (text_from words image (words + reading_tail) 0 0 0)
  text_made = unfold Made in made (words + reading_tail) 0 0 0 0 (omega arith) (held_block 0 refl)
