-- The steps of a stream's bytes counted: as many of a kind as its orders have, and no more of them are completed than there are.
use Prim.Native.Nat.{ℕ, suc, ◌+◌, ◌*◌, ◌/◌, ◌%◌, ◌≤◌, min}
use Rattle.std.proofs.Common.{add-zero, sym, ◌∙◌}
use native.Mathlib.Omega.{arith}
use Rattle.std.specs.Prelude.{◌≡◌, Bool, List, [], ◌∷◌, ◌++◌, length}
use Rattle.std.proofs.Math.Path.{refl, ap, ap₂}
use Rattle.std.proofs.Math.ListN.{get_or}
use Rattle.words.specs.Choice.{pick}
use Rattle.judge.specs.Count.{count_to}
use Rattle.judge.specs.LawsCount.{count_same}
use Rattle.target.specs.Model.{Model, code_at, payload_at, after, started, run_of}
use Rattle.target.specs.Step.{decoded}
use Rattle.target.specs.Stream.{code_of, payload_of, step_bytes, bytes_of}
use Rattle.target.specs.LawsModel.{run_few}
use Rattle.target.specs.LawsStream.{FitsAll, decoded_order, length_bytes}
use Rattle.target.specs.declared.Order.{Order}
use Rattle.fewest.specs.Erases.{orders_of, step_is, steps_of}
use Rattle.fewest.specs.LawsCounts.{count_front, count_wider}

-- ---- the bytes of an order before others

module _ (o : Order) (rest : List ℕ) where
  first_code : code_at (step_bytes o ++ rest) 0 ≡ code_of o
  unfolding code_at step_bytes
  first_code = refl

  first_payload : payload_at (step_bytes o ++ rest) 0 ≡ payload_of o
  unfolding payload_at step_bytes
  first_payload = halves (payload_of o)
    where
      halves : (p : ℕ) → p % 256 + 256 * (p / 256) ≡ p
      halves p = omega arith

  -- what follows an order's three bytes
  behind : (k n : ℕ) → get_or (step_bytes o ++ rest) (3 * suc k + n) 0 ≡ get_or rest (3 * k + n) 0
  unfolding step_bytes
  behind k n = let three : 3 * suc k + n ≡ suc (suc (suc (3 * k + n))) = omega arith in rw three

  later_code : (k : ℕ) → code_at (step_bytes o ++ rest) (suc k) ≡ code_at rest k
  unfolding code_at
  later_code k = ap (λ n. get_or (step_bytes o ++ rest) n 0) (sym (add-zero (3 * suc k))) ∙ (behind k 0 ∙ ap (λ n. get_or rest n 0) (add-zero (3 * k)))

  later_payload : (k : ℕ) → payload_at (step_bytes o ++ rest) (suc k) ≡ payload_at rest k
  unfolding payload_at
  later_payload k = ap₂ (λ x y. x + 256 * y) (behind k 1) (behind k 2)

-- ---- the bytes of orders

-- step k of the bytes is order k
pub steps_orders : (kind : Order → Bool) (s : List Order) → FitsAll s → steps_of kind (bytes_of s) (length s) ≡ orders_of kind s
unfolding steps_of orders_of bytes_of step_is count_to
steps_orders kind [] h = refl
steps_orders kind (o ∷ s) h =
    count_front (length s) _
    ∙ ap₂ (λ x y. pick x 1 0 + y)
    (ap (step_is kind) (ap₂ decoded (first_code o (bytes_of s)) (first_payload o (bytes_of s)) ∙ decoded_order o h.0))
    (count_same _ _ (length s) (λ k p. ap (step_is kind) (ap₂ decoded (later_code o (bytes_of s) k) (later_payload o (bytes_of s) k))) ∙ steps_orders kind s h.1)

-- the first steps have no more of a kind than all
pub steps_few : (kind : Order → Bool) (s : List Order) → FitsAll s → (n : ℕ) → n ≤ length s → steps_of kind (bytes_of s) n ≤ orders_of kind s
steps_few kind s h n p = rw (← steps_orders kind s h) (unfold steps_of in count_wider n (length s) _ p)

-- an allowance of more steps than there are is one of as many as there are
capped : (M : Model) (stream : List ℕ) (allowance : ℕ) (cells words : List ℕ)
    → run_of M stream allowance cells words ≡ run_of M stream (min allowance (length stream / 3)) cells words
unfolding run_of
capped M stream allowance cells words =
    let least : min allowance (length stream / 3) ≡ min (min allowance (length stream / 3)) (length stream / 3) = omega arith in
    ap (after M stream (started M (M.judges stream cells) cells words)) least

-- no more steps are completed than there are orders
pub run_within : (M : Model) (s : List Order) (allowance : ℕ) (cells words : List ℕ) → (run_of M (bytes_of s) allowance cells words).done ≤ length s
run_within M s allowance cells words =
    let few : (run_of M (bytes_of s) (min allowance (length (bytes_of s) / 3)) cells words).done ≤ min allowance (length (bytes_of s) / 3)
    = run_few M (bytes_of s) (min allowance (length (bytes_of s) / 3)) cells words in
    let same : (run_of M (bytes_of s) allowance cells words).done ≡ (run_of M (bytes_of s) (min allowance (length (bytes_of s) / 3)) cells words).done
    = ap (λ r. r.done) (capped M (bytes_of s) allowance cells words) in
    let long : length (bytes_of s) ≡ 3 * length s = length_bytes s in
    omega arith
