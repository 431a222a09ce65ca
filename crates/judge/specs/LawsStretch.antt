-- Laws of stretches in which two readings have the same words: no entry differs there, so that nothing is counted.
use Rattle.std.specs.Prelude.{ℕ, zero, suc, ◌+◌, ◌-◌, ◌*◌, ◌≤◌, ◌<◌, ◌≡◌, List, [], take, drop, get_or, Option, false, not}
use Rattle.std.proofs.Common.{not-suc-le-zero, suc-mul, add_comm, arith, sym, ap, ◌∙◌}
use Rattle.std.proofs.lemmas.List.{get_or-take, get_or-drop, drop-drop}
use Rattle.std.specs.Str.{bytes_eq}
use Rattle.std.proofs.lemmas.Slice.Eq.{bytes_eq-Decides}
use borrow.Author.Tests.{not-false}
use Rattle.std.specs.Simd.{first_chunks}
use Rattle.device.specs.declared.Device.{Device}
use Rattle.judge.specs.declared.verdicts.Differences.{Differences}
use Rattle.judge.specs.LawsCount.{Seen, seen_over}
use Rattle.judge.specs.LawsVerify.{differs_equal}
use Rattle.judge.specs.Verify.{entry_differs}

-- stretch i of a list
stretch_at : (n k : ℕ) (l : List ℕ) (i : ℕ) → i < k → get_or (first_chunks n k l) i [] ≡ take n (drop (i * n) l)
stretch_at n zero l i h = absurd (not-suc-le-zero h)
stretch_at n (suc k) l zero h =
    let none : 0 * n ≡ 0 = omega arith in
    rw none
stretch_at n (suc k) l (suc i) h =
    let more : n + i * n ≡ suc i * n = sym (suc-mul i n ∙ add_comm (i * n) n) in
    stretch_at n k (drop n l) i (omega arith) ∙ (ap (take n) (drop-drop (i * n) n l) ∙ ap (λ j. take n (drop j l)) more)

word_at : (n k : ℕ) (l : List ℕ) (i j : ℕ) → i < k → j < n → get_or (get_or (first_chunks n k l) i []) j 0 ≡ get_or l (i * n + j) 0
word_at n k l i j h p = rw (stretch_at n k l i h, get_or-take n (drop (i * n) l) j 0 p) (get_or-drop (i * n) l j 0)

-- two arrays that the code finds equal
module _ (d : Device) (wanted reading : List ℕ) (n k m i : ℕ) (p : i < k) (q : i < m) (ws rs : List (List ℕ)) (w : ws ≡ first_chunks n k wanted) (r : rs ≡ first_chunks n m reading)
    (found_equal : false ≡ not (bytes_eq (get_or ws i []) (get_or rs i []))) where
  same : get_or (first_chunks n k wanted) i [] ≡ get_or (first_chunks n m reading) i []
  same =
      ap (λ l. get_or l i []) (sym w)
      ∙ ((bytes_eq-Decides (get_or ws i []) (get_or rs i [])).0 (not-false (bytes_eq (get_or ws i []) (get_or rs i [])) (sym found_equal))
      ∙ ap (λ l. get_or l i []) r)

  each : (j : ℕ) → i * n ≤ j → j < i * n + n → get_or wanted j 0 ≡ get_or reading j 0
  each j a b =
      let there : i * n + (j - i * n) ≡ j = omega arith in
      rw there at (sym (word_at n k wanted i (j - i * n) p (omega arith)) ∙ (ap (λ s. get_or s (j - i * n) 0) same ∙ word_at n m reading i (j - i * n) q (omega arith)))

  pub seen_same : (found : Option Differences) → Seen (i * n) (entry_differs d wanted reading) found → Seen (i * n + n) (entry_differs d wanted reading) found
  seen_same = seen_over (entry_differs d wanted reading) (i * n) n (λ j a b. differs_equal d wanted reading j (each j a b))
