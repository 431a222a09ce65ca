-- The crash logic: what holds of a stream that may be cut anywhere and begun again, for any machine.
use Rattle.std.specs.Prelude.{List, [], ◌∷◌, ◌⊎◌}

-- a machine that can be cut: its states and orders, its memory, entry, which orders it takes, and what a cut at an order may leave
pub record Machine (Mem : Type 0) : Type 1 where
  pub State : Type 0
  pub Order : Type 0
  pub step : Order → State → State
  pub mem : State → Mem
  pub entry : Mem → State
  pub Takes : Order → State → Type 0
  pub Tears : Order → State → Mem → Type 0

module _ {Mem : Type 0} (M : Machine Mem) where
  -- the state after all orders
  abbrev pub runs : List M.Order → M.State → M.State
  runs [] x = x
  runs (o ∷ s) x = runs s (M.step o x)

  -- no order is refused
  abbrev pub Goes : List M.Order → M.State → Type 0
  Goes [] x = Unit
  Goes (o ∷ s) x = M.Takes o x × Goes s (M.step o x)

  -- c is what a cut somewhere in the orders may leave
  abbrev pub CutAt : List M.Order → M.State → Mem → Type 0
  CutAt [] x c = ⊥
  CutAt (o ∷ s) x c = M.Tears o x c ⊎ CutAt s (M.step o x) c

  -- from every state in A all orders are taken, they end in B, and a cut anywhere leaves a memory in I
  pub record Safe (I : Mem → Type 0) (A : M.State → Type 0) (s : List M.Order) (B : M.State → Type 0) : Type 0 where
    pub goes : (x : M.State) → A x → Goes s x
    pub ends : (x : M.State) → A x → B (runs s x)
    pub cuts : (x : M.State) → A x → (c : Mem) → CutAt s x c → I c

  -- memories that any number of cut runs may leave, each run from entry
  pub data Again (s : List M.Order) (first : Mem) : Mem → Type 0 where
    none : Again s first first
    again : {c e : Mem} → Again s first c → CutAt s (M.entry c) e → Again s first e
