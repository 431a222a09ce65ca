-- A word that the image gives is wanted whole.
use mathlib.Core.Path.{refl}
use borrow.Author.Tests.{eq-eqb}
use Rattle.aim.specs.LawsAim.{plain_silent, plain_given}
use Rattle.aim.proofs.source.Aim.plain_rises.Goals as goal

pub returns-then-given : goal.returns-then-given
returns-then-given c = plain_given _ _ _ _ c.requires _ refl c.if-given.true _ c.only_clears.ensures

pub returns-else-given : goal.returns-else-given
returns-else-given c = rw (eq-eqb _ 65535 c.if-given.false) (plain_silent _ _ _ _ c.requires _ refl c.if-given.false)
