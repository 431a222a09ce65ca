-- What a writer of steps leaves in a lent buffer, and what is still to be written while it is at work.
use Rattle.std.specs.Prelude.{ℕ, suc, ◌+◌, ◌*◌, ◌/◌, ◌%◌, ◌≤◌, ◌<◌, ◌≡◌, refl, List, [], ◌∷◌, ◌++◌, set, get_or}
use Rattle.std.specs.Int.{w16, to_le_bytes}
use Rattle.std.proofs.Common.{add-one, sym, ap, subst, ◌∙◌, length-append}
use native.Mathlib.Omega.{arith}
use Rattle.std.proofs.Math.ListN.{length}
use Rattle.std.proofs.lemmas.List.Edits.{sets}
use Rattle.std.proofs.Math.Seq.{length-sets}
use Rattle.words.specs.LawsLists.{sets_append}
use Rattle.target.specs.declared.Order.{Order}
use Rattle.target.specs.Stream.{code_of, payload_of, step_bytes, bytes_of}
use Rattle.target.specs.LawsStream.{length_bytes, bytes_append}
use Rattle.plan.specs.declared.orders.Writer.{Writer}

-- the promise of every writer: so many bytes more in the same buffer, and the number of steps then
pub record Wrote (steps : List Order) (w w' : Writer) : Type 0 where
  pub bytes : w'.out.now ≡ sets w.out.now (3 * w.steps) (bytes_of steps)
  pub count : w'.steps ≡ w.steps + length steps
  pub same_buffer : w'.out.ghost_name ≡ w.out.ghost_name

-- more than any count here reaches, and far below what a number of the machine holds
abbrev pub ample : ℕ
ample = 1000000

-- what every writer asks: these steps fit the buffer too
pub record Room (steps : List Order) (w : Writer) : Type 0 where
  pub few : w.steps + length steps ≤ ample
  pub fits : 3 * (w.steps + length steps) ≤ length w.out.now

-- writing `rest` from here on gives what writing `all` gave at the start
pub record Left (all : List Order) (start : Writer) (rest : List Order) (w : Writer) : Type 0 where
  pub bytes : sets w.out.now (3 * w.steps) (bytes_of rest) ≡ sets start.out.now (3 * start.steps) (bytes_of all)
  pub count : w.steps + length rest ≡ start.steps + length all
  pub same_buffer : w.out.ghost_name ≡ start.out.ghost_name

pub wrote_none : {w : Writer} → Wrote [] w w
unfolding bytes_of
wrote_none = record { bytes = refl; count = omega arith; same_buffer = refl }

pub wrote_same : {x y : List Order} {w w' : Writer} → x ≡ y → Wrote x w w' → Wrote y w w'
wrote_same {w = w} {w' = w'} e h = subst (λ z. Wrote z w w') e h

pub room_same : {x y : List Order} {w : Writer} → x ≡ y → Room x w → Room y w
room_same {w = w} e h = subst (λ z. Room z w) e h

-- room for a whole stream, from the count of its steps
pub room_whole : (steps : List Order) (w : Writer) (need : ℕ) → w.steps ≡ 0 → need ≡ length steps → need ≤ ample → 3 * need ≤ length w.out.now → Room steps w
room_whole steps w need z e f h = record { few = omega arith; fits = omega arith }

-- one step's three bytes
pub bytes_one : (o : Order) (s : ℕ) (out : List ℕ) (code payload : ℕ) (low_high : List ℕ) → code ≡ code_of o → payload ≡ payload_of o → payload < 0x10000 → low_high ≡ to_le_bytes w16 payload
    → set (set (set out (3 * s) code) (3 * s + 1) (get_or low_high 0 0)) (3 * s + 2) (get_or low_high 1 0) ≡ sets out (3 * s) (bytes_of (o ∷ []))
unfolding bytes_of step_bytes
bytes_one o s out code payload low_high c p h e = rw (e, c, two_more, add-one, high, p)
  where
    two_more : 3 * s + 2 ≡ suc (suc (3 * s))
    two_more = omega arith

    high : payload / 256 % 256 ≡ payload / 256
    high = omega arith

-- a writer whose buffer and count are in hand
abbrev pub in_hand : Writer → List ℕ → ℕ → Writer
in_hand w out steps = record w { out = record w.out { now = out }; steps = steps }

pub wrote_in_hand : {o : Order} (w : Writer) {out out' : List ℕ} {s s' : ℕ} → out' ≡ sets out (3 * s) (bytes_of (o ∷ [])) → s' ≡ s + 1 → Wrote (o ∷ []) (in_hand w out s) (in_hand w out' s')
wrote_in_hand w b c = record { bytes = b; count = c; same_buffer = refl }

-- ---- a writer at work: `all` is what it was to write at the start, and `x ++ y` what is left

module _ {all : List Order} {start : Writer} where
  -- nothing is written yet
  pub left_all : Left all start all start
  left_all = record { bytes = refl; count = refl; same_buffer = refl }

  pub left_same : {x y : List Order} {w : Writer} → x ≡ y → Left all start x w → Left all start y w
  left_same {w = w} e l = subst (λ z. Left all start z w) e l

  -- the next part was written
  pub left_next : {x : List Order} (y : List Order) {w w' : Writer} → Left all start (x ++ y) w → Wrote x w w' → Left all start y w'
  left_next {x = x} y {w = w} {w' = w'} l h = record { bytes = moved ∙ l.bytes; count = counted; same_buffer = h.same_buffer ∙ l.same_buffer }
    where
      place : 3 * w'.steps ≡ 3 * w.steps + length (bytes_of x)
      place = let n : length (bytes_of x) ≡ 3 * length x = length_bytes x in let c : w'.steps ≡ w.steps + length x = h.count in omega arith

      moved : sets w'.out.now (3 * w'.steps) (bytes_of y) ≡ sets w.out.now (3 * w.steps) (bytes_of (x ++ y))
      moved = ap (λ z. sets z (3 * w'.steps) (bytes_of y)) h.bytes
          ∙ (ap (λ n. sets (sets w.out.now (3 * w.steps) (bytes_of x)) n (bytes_of y)) place
          ∙ (sets_append w.out.now (3 * w.steps) (bytes_of x) (bytes_of y)
          ∙ ap (sets w.out.now (3 * w.steps)) (sym (bytes_append x y))))

      counted : w'.steps + length y ≡ start.steps + length all
      counted = let n : length (x ++ y) ≡ length x + length y = length-append x y in
          let c : w'.steps ≡ w.steps + length x = h.count in
          let t : w.steps + length (x ++ y) ≡ start.steps + length all = l.count in omega arith

  -- the last part was written
  pub left_done : {x : List Order} {w w' : Writer} → Left all start x w → Wrote x w w' → Wrote all start w'
  left_done l h = record { bytes = h.bytes ∙ l.bytes; count = h.count ∙ l.count; same_buffer = h.same_buffer ∙ l.same_buffer }

  -- nothing is left
  pub left_none : {w : Writer} → Left all start [] w → Wrote all start w
  unfolding bytes_of
  left_none {w = w} l = record { bytes = l.bytes; count = let t : w.steps + 0 ≡ start.steps + length all = l.count in omega arith; same_buffer = l.same_buffer }

  -- the buffer is as long as at the start
  left_long : (rest : List Order) (w : Writer) → Left all start rest w → length w.out.now ≡ length start.out.now
  left_long rest w l = sym (length-sets w.out.now (3 * w.steps) (bytes_of rest)) ∙ (ap length l.bytes ∙ length-sets start.out.now (3 * start.steps) (bytes_of all))

  -- room for all that is left, and for the next part of it
  pub room_rest : {x : List Order} {w : Writer} → Left all start x w → Room all start → Room x w
  room_rest {x = x} {w = w} l r =
      let t : w.steps + length x ≡ start.steps + length all = l.count in
      let f : start.steps + length all ≤ ample = r.few in
      let g : 3 * (start.steps + length all) ≤ length start.out.now = r.fits in
      let n : length w.out.now ≡ length start.out.now = left_long x w l in
      record { few = omega arith; fits = omega arith }

  pub room_next : {x : List Order} (y : List Order) {w : Writer} → Left all start (x ++ y) w → Room all start → Room x w
  room_next {x = x} y {w = w} l r =
      let n : length (x ++ y) ≡ length x + length y = length-append x y in
      let q : Room (x ++ y) w = room_rest l r in
      let f : w.steps + length (x ++ y) ≤ ample = q.few in
      let g : 3 * (w.steps + length (x ++ y)) ≤ length w.out.now = q.fits in
      record { few = omega arith; fits = omega arith }

-- what is to be written, opened
pub opened : {all x : List Order} {w : Writer} → all ≡ x → Left all w x w
opened e = left_same e left_all
