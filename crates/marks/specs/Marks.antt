-- The first place of a byte in a list, and a part of a list.
use Rattle.std.specs.Prelude.{ℕ, suc, Bool, true, false, List, [], ◌∷◌, eqb, take, drop}

-- the place after one more byte, which is the mark or not
unfoldable pub index_after : Bool → ℕ → ℕ
index_after true n = 0
index_after false n = suc n

-- the first place at which the mark stands; the list's length where it stands nowhere
unfoldable pub index_of : (mark : ℕ) → List ℕ → ℕ
index_of mark [] = 0
index_of mark (c ∷ l) = index_after (eqb c mark) (index_of mark l)

-- the entries from one place up to another
unfoldable pub slice : (from to : ℕ) → List ℕ → List ℕ
slice from to l = drop from (take to l)
