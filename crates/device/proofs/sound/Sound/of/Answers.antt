-- The judged record keeps the rules.
use Rattle.std.proofs.Common.{sym}
use Rattle.device.specs.LawsRecord.{rules_lem, ok_of_judged}
use Rattle.device.proofs.sound.Sound.of.Goals as goal

pub invariant_of-result : goal.invariant_of-result
invariant_of-result c = record { rules = rules_lem _ (ok_of_judged _ (sym c.in_ok-judge.ensures)) }
