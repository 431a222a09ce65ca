-- Laws of the crash logic: one stream after another, one order, one of two streams, and 'and then any number of times again'.
use Rattle.std.specs.Prelude.{◌≡◌, List, [], ◌∷◌, ◌++◌, Bool, ◌⊎◌}
use Rattle.std.proofs.Math.Path.{refl}
use Rattle.std.proofs.Common.{sym, subst, inl, inr, ⊎_elim}
use Rattle.std.proofs.Math.Bool.{true, false}
use Rattle.words.specs.Choice.{pick}
use Rattle.target.specs.Crash.{Machine, runs, Goes, CutAt, Safe, Again, none, again}

module _ {Mem : Type 0} (M : Machine Mem) where
  pub runs_append : (s t : List M.Order) (x : M.State) → runs M (s ++ t) x ≡ runs M t (runs M s x)
  runs_append [] t x = refl
  runs_append (o ∷ s) t x = runs_append s t (M.step o x)

  pub goes_append : (s t : List M.Order) (x : M.State) → Goes M s x → Goes M t (runs M s x) → Goes M (s ++ t) x
  goes_append [] t x p q = q
  goes_append (o ∷ s) t x p q = (p.0, goes_append s t (M.step o x) p.1 q)

  -- a cut in two streams is a cut in the first, or one in the second after the whole first
  pub cut_append : (s t : List M.Order) (x : M.State) (c : Mem) → CutAt M (s ++ t) x c → CutAt M s x c ⊎ CutAt M t (runs M s x) c
  cut_append [] t x c k = inr k
  cut_append (o ∷ s) t x c (inl k) = inl (inl k)
  cut_append (o ∷ s) t x c (inr k) = ⊎_elim (λ h. inl (inr h)) (λ h. inr h) (cut_append s t (M.step o x) c k)

  module _ (I : Mem → Type 0) where
    -- no order: what holds goes on
    pub safe_stay : {A B : M.State → Type 0} → ((x : M.State) → A x → B x) → Safe M I A [] B
    safe_stay h = record { goes = λ x a. tt; ends = h; cuts = λ x a c k. absurd k }

    -- one order
    pub safe_one : (A B : M.State → Type 0) (o : M.Order)
        → ((x : M.State) → A x → M.Takes o x)
        → ((x : M.State) → A x → B (M.step o x))
        → ((x : M.State) → A x → (c : Mem) → M.Tears o x c → I c)
        → Safe M I A (o ∷ []) B
    safe_one A B o takes ends tears =
        record { goes = λ x a. (takes x a, tt); ends = ends; cuts = λ x a c k. ⊎_elim (λ h. tears x a c h) (λ h. absurd h) k }

    -- one stream after another
    pub safe_seq : (A B C : M.State → Type 0) (s t : List M.Order) → Safe M I A s B → Safe M I B t C → Safe M I A (s ++ t) C
    safe_seq A B C s t f g =
        record {
          goes = λ x a. goes_append s t x (f.goes x a) (g.goes (runs M s x) (f.ends x a));
          ends = λ x a. subst C (sym (runs_append s t x)) (g.ends (runs M s x) (f.ends x a));
          cuts = λ x a c k. ⊎_elim (f.cuts x a c) (g.cuts (runs M s x) (f.ends x a) c) (cut_append s t x c k);
        }

    -- an order by what it does, and then a stream
    pub safe_first : {A C : M.State → Type 0} (B : M.State → Type 0) (o : M.Order) (t : List M.Order)
        → ((x : M.State) → A x → M.Takes o x)
        → ((x : M.State) → A x → B (M.step o x))
        → ((x : M.State) → A x → (c : Mem) → M.Tears o x c → I c)
        → Safe M I B t C → Safe M I A (o ∷ t) C
    safe_first B o t takes ends tears g =
        record {
          goes = λ x a. (takes x a, g.goes (M.step o x) (ends x a));
          ends = λ x a. g.ends (M.step o x) (ends x a);
          cuts = λ x a c k. ⊎_elim (λ h. tears x a c h) (λ h. g.cuts (M.step o x) (ends x a) c h) k;
        }

    -- one of two streams, by a test
    pub safe_pick : {A B : M.State → Type 0} (b : Bool) (s t : List M.Order) → (b ≡ true → Safe M I A s B) → (b ≡ false → Safe M I A t B) → Safe M I A (pick b s t) B
    unfolding pick
    safe_pick true s t f g = f refl
    safe_pick false s t f g = g refl

    -- from fewer states, to more
    pub safe_weaken : (A A' B B' : M.State → Type 0) (s : List M.Order) → ((x : M.State) → A' x → A x) → ((x : M.State) → B x → B' x) → Safe M I A s B → Safe M I A' s B'
    safe_weaken A A' B B' s p q f =
        record { goes = λ x a. f.goes x (p x a); ends = λ x a. q (runs M s x) (f.ends x (p x a)); cuts = λ x a c k. f.cuts x (p x a) c k }

  -- to more memories
  pub safe_relax : (I J : Mem → Type 0) (A B : M.State → Type 0) (s : List M.Order) → ((c : Mem) → I c → J c) → Safe M I A s B → Safe M J A s B
  safe_relax I J A B s p f = record { goes = f.goes; ends = f.ends; cuts = λ x a c k. p c (f.cuts x a c k) }

  -- any number of cut runs stay in I, and the next run is taken whole and ends in B
  pub stays_in : (I : Mem → Type 0) (A B : M.State → Type 0) (s : List M.Order) → Safe M I A s B → ((c : Mem) → I c → A (M.entry c))
      → (first c : Mem) → I first → Again M s first c → I c
  stays_in I A B s f enters first c i none = i
  stays_in I A B s f enters first c i (again {c = b} {e = e} k h) = f.cuts (M.entry b) (enters b (stays_in I A B s f enters first b i k)) e h

  pub recovers : (I : Mem → Type 0) (A B : M.State → Type 0) (s : List M.Order) → Safe M I A s B → ((c : Mem) → I c → A (M.entry c))
      → (first c : Mem) → I first → Again M s first c → Goes M s (M.entry c) × B (runs M s (M.entry c))
  recovers I A B s f enters first c i k =
      let a : A (M.entry c) = enters c (stays_in I A B s f enters first c i k) in
      (f.goes (M.entry c) a, f.ends (M.entry c) a)
