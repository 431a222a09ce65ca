-- A run over the bytes of orders is a machine's run over the orders, and so is each of its cuts, for any model and any orders.
use Rattle.std.specs.Prelude.{ℕ, zero, suc, ◌+◌, ◌*◌, ◌/◌, ◌%◌, ◌≤◌, ◌<◌, ◌≡◌, refl, List, [], ◌∷◌, ◌++◌, length, take}
use Rattle.std.proofs.Common.{add-zero, zero-add, le_refl, le_of_lt, le_of_suc-le-suc, not-suc-le-zero, arith, sym, subst, ◌∙◌, inl, inr, append_assoc, length-append, get_or-append-add}
use Rattle.std.proofs.Math.Nat.{min-eq_right}
use Rattle.std.proofs.Math.Path.{ap}
use Rattle.std.proofs.Math.ListN.{get_or}
use Rattle.std.proofs.Math.Seq.{take-length}
use Rattle.target.specs.Model.{Model, code_at, payload_at, done, after, run_of}
use Rattle.target.specs.Cut.{Torn, cells_at, CutRun, CutRuns, none, again, Recovers}
use Rattle.target.specs.Crash.{Machine, runs, Goes, CutAt, Safe}
use Rattle.target.specs.LawsModel.{stands, step_at, turn_done, after_zero, after_front, started_is, run_takes}

-- ---- orders that are spelt in a model's steps

-- three bytes an order; what a spelt order does where it is taken, and what a cut at it leaves at most
pub record Spelling (M : Model) : Type 1 where
  pub Order : Type 0
  pub step : Order → M.Target → M.Target
  pub Takes : Order → M.Target → Type 0
  pub Tears : Order → M.Target → List ℕ → Type 0
  pub code : Order → ℕ
  pub payload : Order → ℕ
  pub bytes : List Order → List ℕ
  pub Fits : List Order → Type 0
  pub bytes_none : bytes [] ≡ []
  pub bytes_more : (o : Order) (s : List Order) → bytes (o ∷ s) ≡ (code o ∷ payload o % 256 ∷ payload o / 256 ∷ []) ++ bytes s
  pub fits_rest : (o : Order) (s : List Order) → Fits (o ∷ s) → Fits s
  pub does : (o : Order) (s : List Order) (t : M.Target) → Fits (o ∷ s) → Takes o t → M.step (code o) (payload o) t ≡ done (step o t)
  pub tears : (o : Order) (t : M.Target) (c : List ℕ) → Torn (M.cells t) (M.cells (step o t)) c → Tears o t c

-- the machine of these orders, for runs that lend this buffer for words read
abbrev pub machine_of : (M : Model) → Spelling M → (words : List ℕ) → Machine (List ℕ)
machine_of M S words =
    record {
      State = M.Target;
      Order = S.Order;
      step = S.step;
      mem = M.cells;
      entry = λ c. M.entry c words;
      Takes = S.Takes;
      Tears = S.Tears;
    }

-- ---- a step of the stream

whole : (n : ℕ) → n % 256 + 256 * (n / 256) ≡ n
whole n = omega arith

-- the code and the payload of step k of a stream whose first k steps are `front`
module _ (front : List ℕ) (k c p : ℕ) (rest : List ℕ) (before : length front ≡ 3 * k) where
  reach : (j : ℕ) → get_or (front ++ (c ∷ p % 256 ∷ p / 256 ∷ rest)) (3 * k + j) 0 ≡ get_or (c ∷ p % 256 ∷ p / 256 ∷ rest) j 0
  reach j = ap (λ n. get_or (front ++ (c ∷ p % 256 ∷ p / 256 ∷ rest)) (n + j) 0) (sym before) ∙ get_or-append-add front (c ∷ p % 256 ∷ p / 256 ∷ rest) j 0

  code_there : code_at (front ++ (c ∷ p % 256 ∷ p / 256 ∷ rest)) k ≡ c
  unfolding code_at
  code_there = ap (λ n. get_or (front ++ (c ∷ p % 256 ∷ p / 256 ∷ rest)) n 0) (sym (add-zero (3 * k))) ∙ reach 0

  payload_there : payload_at (front ++ (c ∷ p % 256 ∷ p / 256 ∷ rest)) k ≡ p
  unfolding payload_at
  payload_there = rw (reach 1, reach 2) (whole p)

module _ (M : Model) (S : Spelling M) where
  length_spelt : (s : List S.Order) → length (S.bytes s) ≡ 3 * length s
  length_spelt [] = rw S.bytes_none
  length_spelt (o ∷ s) =
      ap (λ l. length l) (S.bytes_more o s) ∙ (let e : length (S.bytes s) ≡ 3 * length s = length_spelt s in omega arith)

  steps_of : (s : List S.Order) → length (S.bytes s) / 3 ≡ length s
  steps_of s = let e : length (S.bytes s) ≡ 3 * length s = length_spelt s in omega arith

module _ (M : Model) (S : Spelling M) (words : List ℕ) where
  -- a machine is cut where its memory is torn between two of its states
  torn_cut : (s : List S.Order) (t : M.Target) (k : ℕ) (c : List ℕ) → k < length s
      → Torn (M.cells (runs (machine_of M S words) (take k s) t)) (M.cells (runs (machine_of M S words) (take (suc k) s) t)) c → CutAt (machine_of M S words) s t c
  torn_cut [] t k c h q = absurd (not-suc-le-zero h)
  torn_cut (o ∷ s) t zero c h q = inl (S.tears o t c q)
  torn_cut (o ∷ s) t (suc k) c h q = inr (torn_cut s (S.step o t) k c (le_of_suc-le-suc h) q)

  -- n turns from where `front` ends are the machine's first n orders
  pub run_is : (front : List ℕ) (k : ℕ) (s : List S.Order) (t : M.Target) (n : ℕ) → length front ≡ 3 * k → n ≤ length s → S.Fits s → Goes (machine_of M S words) s t
      → after M (front ++ S.bytes s) (stands t k 0) n ≡ stands (runs (machine_of M S words) (take n s) t) (k + n) 0
  run_is front k s t zero e h f g = after_zero M _ _ ∙ (λ i. stands t (sym (add-zero k) i) 0)
  run_is front k [] t (suc n) e h f g = absurd (not-suc-le-zero h)
  run_is front k (o ∷ s) t (suc n) e h f g =
      after_front M _ _ n
      ∙ (ap (λ r. after M (front ++ S.bytes (o ∷ s)) r n) (turn_done M (front ++ S.bytes (o ∷ s)) t (S.step o t) k here)
      ∙ (ap (λ l. after M l (stands (S.step o t) (k + 1) 0) n) shift
      ∙ (run_is (front ++ three) (k + 1) s (S.step o t) n longer (le_of_suc-le-suc h) (S.fits_rest o s f) g.1
      ∙ (λ i. stands (runs (machine_of M S words) (take n s) (S.step o t)) (count i) 0))))
    where
      three : List ℕ
      three = S.code o ∷ S.payload o % 256 ∷ S.payload o / 256 ∷ []

      regroup : front ++ S.bytes (o ∷ s) ≡ front ++ (three ++ S.bytes s)
      regroup = ap (λ l. front ++ l) (S.bytes_more o s)

      here : step_at M (front ++ S.bytes (o ∷ s)) k t ≡ done (S.step o t)
      here =
          ap (λ l. step_at M l k t) regroup
          ∙ ((λ i. M.step (code_there front k (S.code o) (S.payload o) (S.bytes s) e i) (payload_there front k (S.code o) (S.payload o) (S.bytes s) e i) t)
          ∙ S.does o s t f g.0)

      shift : front ++ S.bytes (o ∷ s) ≡ (front ++ three) ++ S.bytes s
      shift = regroup ∙ sym (append_assoc front three (S.bytes s))

      longer : length (front ++ three) ≡ 3 * (k + 1)
      longer = length-append front three ∙ (let q : length front ≡ 3 * k = e in omega arith)

      count : k + 1 + n ≡ k + suc n
      count = omega arith

  -- ---- runs from entry

  module _ (s : List S.Order) (first : List ℕ) (f : S.Fits s) (g : Goes (machine_of M S words) s (M.entry first words)) where
    after_entry : (n : ℕ) → n ≤ length s → after M (S.bytes s) (stands (M.entry first words) 0 0) n ≡ stands (runs (machine_of M S words) (take n s) (M.entry first words)) n 0
    after_entry n h = run_is [] 0 s (M.entry first words) n refl h f g ∙ (λ i. stands (runs (machine_of M S words) (take n s) (M.entry first words)) (zero-add n i) 0)

    -- a run that may take at least all steps, and that nothing refuses before the first
    pub run_whole : (n : ℕ) → length s ≤ n → M.judges (S.bytes s) first ≡ 0
        → run_of M (S.bytes s) n first words ≡ stands (runs (machine_of M S words) s (M.entry first words)) (length s) 0
    run_whole n h j =
        run_takes M (S.bytes s) n (length s) first words j (rw (steps_of M S s) (min-eq_right h))
        ∙ (after_entry (length s) (le_refl (length s)) ∙ (λ i. stands (runs (machine_of M S words) (take-length s i) (M.entry first words)) (length s) 0))

    cells_after : (n : ℕ) → n ≤ length s → cells_at M (S.bytes s) words first n ≡ M.cells (runs (machine_of M S words) (take n s) (M.entry first words))
    unfolding cells_at
    cells_after n h = ap (λ r. M.cells (after M (S.bytes s) r n).target) (started_is M (S.bytes s) 0 first words) ∙ ap (λ r. M.cells r.target) (after_entry n h)

    -- a run that is cut is a cut of the machine
    pub cut_run : (c : List ℕ) → CutRun M (S.bytes s) words first c → CutAt (machine_of M S words) s (M.entry first words) c
    cut_run c k =
        torn_cut s (M.entry first words) k.at c inside
        (subst (λ z. Torn z (M.cells (runs (machine_of M S words) (take (suc k.at) s) (M.entry first words))) c) (cells_after k.at (le_of_lt inside))
        (subst (λ z. Torn (cells_at M (S.bytes s) words first k.at) z c) (cells_after (suc k.at) inside) k.torn))
      where
        inside : k.at < length s
        inside = rw (steps_of M S s) at k.inside

-- ---- safe streams

module _ (M : Model) (S : Spelling M) (I : List ℕ → Type 0) (A B : List ℕ → M.Target → Type 0) (s : List S.Order) (fits : S.Fits s)
    (safe : (words : List ℕ) → Safe (machine_of M S words) I (A words) s (B words)) (enters : (words c : List ℕ) → I c → A words (M.entry c words)) where
  -- any number of cut runs of a safe stream, each with its own buffer, stay in the invariant
  pub cut_runs : (first c : List ℕ) → I first → CutRuns M (S.bytes s) first c → I c
  cut_runs first c i none = i
  cut_runs first c i (again {c = b} {e = e} words k h) =
      let a : A words (M.entry b words) = enters words b (cut_runs first b i k) in
      (safe words).cuts (M.entry b words) a e (cut_run M S words s b fits ((safe words).goes (M.entry b words) a) e h)

  -- and the next run, if nothing refuses it before its first step, leaves what the stream is to leave
  pub recovers_to : (first last : List ℕ)
      → ((c : List ℕ) → I c → M.judges (S.bytes s) c ≡ 0)
      → ((words : List ℕ) (t : M.Target) → B words t → M.cells t ≡ last)
      → I first → Recovers M (S.bytes s) first last
  recovers_to first last judged ends i = record { recovers = λ words c k n h. next words c (cut_runs first c i k) n (rw (steps_of M S s) at h) }
    where
      next : (words c : List ℕ) → I c → (n : ℕ) → length s ≤ n
          → ((run_of M (S.bytes s) n c words).number ≡ 0) × ((run_of M (S.bytes s) n c words).done ≡ length (S.bytes s) / 3) × (M.cells (run_of M (S.bytes s) n c words).target ≡ last)
      next words c ic n h = (ap (λ r. r.number) ran, ap (λ r. r.done) ran ∙ sym (steps_of M S s), ap (λ r. M.cells r.target) ran ∙ ends words _ ((safe words).ends (M.entry c words) a))
        where
          a : A words (M.entry c words)
          a = enters words c ic

          ran : run_of M (S.bytes s) n c words ≡ stands (runs (machine_of M S words) s (M.entry c words)) (length s) 0
          ran = run_whole M S words s c fits ((safe words).goes (M.entry c words) a) n h (judged c ic)
