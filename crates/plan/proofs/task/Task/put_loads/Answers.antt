-- The words left to be loaded are left to be written.
use Prim.Native.Nat.{ℕ}
use mathlib.Core.Path.{◌≡◌, ap}
use mathlib.Core.List.{[], ◌∷◌}
use native.Mathlib.Omega.{arith}
use Rattle.target.specs.declared.Order.TheVariants.{LoadData, Increment}
use Rattle.aim.specs.Wanted.{wanted}
use Rattle.plan.specs.declared.orders.Writer.{Writer}
use Rattle.plan.specs.Steps.{loads}
use Rattle.plan.specs.LawsPlanSteps.{loads_next, loads_end}
use Rattle.plan.specs.LawsPlanWrote.{Wrote, opened, left_same, left_next, left_done, room_next, room_rest, wrote_same, wrote_in_hand}
use Rattle.plan.proofs.task.Task.put_loads.Goals as goal

word_put : {u v : ℕ} {w w' : Writer} → u ≡ v → Wrote (LoadData u ∷ []) w w' → Wrote (LoadData v ∷ []) w w'
word_put e h = wrote_same (ap (λ x. LoadData x ∷ []) e) h

pub loop-i-init : goal.loop-i-init
loop-i-init c =
    let a = c.args.self.now.aim in
    opened (ap (loads (wanted a.device a.image.now a.reading.now) c.args.first) (let h = c.requires.count_nonzero.0 in omega arith))

pub put_order-steps-requires-clause-few : goal.put_order-steps-requires-clause-few
put_order-steps-requires-clause-few c = let r = room_next {x = LoadData _ ∷ []} _ (left_same (loads_next _ _ _ c.loop-i-test.true) c.loop-i.invariant) c.requires.room in omega arith

pub put_order-steps-requires-clause-room : goal.put_order-steps-requires-clause-room
put_order-steps-requires-clause-room c = let r = room_next {x = LoadData _ ∷ []} _ (left_same (loads_next _ _ _ c.loop-i-test.true) c.loop-i.invariant) c.requires.room in omega arith

pub put_order-steps-requires-in-loop-i-clause-few : goal.put_order-steps-requires-in-loop-i-clause-few
put_order-steps-requires-in-loop-i-clause-few c = let r = room_next {x = Increment ∷ []} _ (left_next _ (left_same (loads_next _ _ _ c.loop-i-test.true) c.loop-i.invariant) (word_put c.wanted.ensures (wrote_in_hand c.args.w.now c.put_order-steps.ensures.bytes c.put_order-steps.ensures.count))) c.requires.room in omega arith

pub put_order-steps-requires-in-loop-i-clause-room : goal.put_order-steps-requires-in-loop-i-clause-room
put_order-steps-requires-in-loop-i-clause-room c = let r = room_next {x = Increment ∷ []} _ (left_next _ (left_same (loads_next _ _ _ c.loop-i-test.true) c.loop-i.invariant) (word_put c.wanted.ensures (wrote_in_hand c.args.w.now c.put_order-steps.ensures.bytes c.put_order-steps.ensures.count))) c.requires.room in omega arith

pub loop-i-preserved : goal.loop-i-preserved
loop-i-preserved c =
    left_next _ (left_next _ (left_same (loads_next _ _ _ c.loop-i-test.true) c.loop-i.invariant) (word_put c.wanted.ensures (wrote_in_hand c.args.w.now c.put_order-steps.ensures.bytes c.put_order-steps.ensures.count)))
    (wrote_in_hand c.args.w.now c.put_order-steps-in-loop-i.ensures.bytes c.put_order-steps-in-loop-i.ensures.count)

pub put_order-w-requires-clause-few : goal.put_order-w-requires-clause-few
put_order-w-requires-clause-few c = let r = room_rest (left_same (loads_end _ _ _ (omega arith)) c.loop-i.invariant) c.requires.room in omega arith

pub put_order-w-requires-clause-room : goal.put_order-w-requires-clause-room
put_order-w-requires-clause-room c = let r = room_rest (left_same (loads_end _ _ _ (omega arith)) c.loop-i.invariant) c.requires.room in omega arith

pub returns : goal.returns
returns c =
    left_done (left_same (loads_end _ _ _ (omega arith)) c.loop-i.invariant) (word_put c.wanted-2.ensures (wrote_in_hand c.args.w.now c.put_order-w.ensures.bytes c.put_order-w.ensures.count))
