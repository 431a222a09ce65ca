-- One of the two planners.
use Rattle.std.proofs.Common.{arith, rules}
use Rattle.device.specs.LawsMemory.{reading_long}
use Rattle.listings.specs.LawsPlans.{held_update, held_fresh}
use Rattle.listings.proofs.plans.Planner.ask.Goals as goal

pub bounds-aim-id_place : goal.bounds-aim-id_place
bounds-aim-id_place c = omega (arith, reading_long _ _ c.requires.1)

pub returns-in-Update : goal.returns-in-Update
returns-in-Update c =
    let h = held_update c.args.self _ c.requires.0 _ _ _ (search rules) _ _ c.in-Update.is c.update.ensures in
    record { number = h.0; steps = h.1 }

pub returns-in-Fresh : goal.returns-in-Fresh
returns-in-Fresh c =
    let h = held_fresh c.args.self _ c.requires.0 _ _ _ (search rules) _ _ c.in-Fresh.is c.fresh.ensures in
    record { number = h.0; steps = h.1 }
