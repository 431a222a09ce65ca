-- Lists given entry by entry, which is how every change of a memory is stated.
use Rattle.std.specs.Prelude.{ℕ, zero, suc, ◌+◌, Bool, true, ◌&&◌, List, [], ◌∷◌, ltb, leb, length, get_or}
use Rattle.words.specs.Choice.{pick}

-- the list of n entries whose entry i is f i
unfoldable pub build : ℕ → (ℕ → ℕ) → List ℕ
build zero f = []
build (suc n) f = f zero ∷ build n (λ i. f (suc i))

-- i is one of the `count` entries from `first` on
unfoldable pub in_range : (first count i : ℕ) → Bool
in_range first count i = leb first i && ltb i (first + count)

-- the list with each entry of a range replaced by what f makes there
unfoldable pub overlay : (first count : ℕ) → (ℕ → ℕ) → List ℕ → List ℕ
overlay first count f l = build (length l) (λ i. pick (in_range first count i) (f i) (get_or l i 0))

-- the test holds at each of 0 to n-1
unfoldable pub every : ℕ → (ℕ → Bool) → Bool
every zero f = true
every (suc n) f = every n f && f n
