-- By what differs, and by the bit that tells whether the board is protected.
use Rattle.std.proofs.Common.{sym}
use Rattle.judge.specs.LawsVerify.{found_0, found_41, found_40, found_within}
use Rattle.judge.proofs.verdicts.verdict.Goals as goal

pub address-requires : goal.address-requires
address-requires c = found_within _ _ _ _ c.in-Some.ensures

pub returns-in-Some : goal.returns-in-Some
returns-in-Some c = found_40 _ _ _ _ c.in-Some.ensures _ c.address.ensures

pub returns-in-None : goal.returns-in-None
returns-in-None c = found_41 _ _ _ c.in-None.ensures (sym c.if-hidden.ensures)

pub returns-in-None-2 : goal.returns-in-None-2
returns-in-None-2 c = found_0 _ _ _ c.in-None.ensures (sym c.if-hidden.ensures)
