-- A choice by a test, and a number below a limit.
use Rattle.std.specs.Prelude.{ℕ, Bool, true, false, Option, Some, None, ltb}

-- the first where the test holds, the second where it fails
unfoldable pub pick : {A : Type 0} → Bool → A → A → A
pick true a b = a
pick false a b = b

-- refusals in their order: what is answered where the test fails, and then what comes where it holds
abbrev pub unless : {A : Type 0} → Bool → A → A → A
unless ok refusal rest = pick ok rest refusal

-- a number that is below a limit, or none
abbrev pub below : (limit n : ℕ) → Option ℕ
below limit n = pick (ltb n limit) (Some n) None
