-- A law for each part of a line.
use Rattle.std.proofs.Common.{refl, ap, ◌∙◌}
use Rattle.numerals.specs.Hex.{digit_of}
use Rattle.std.specs.Prelude.{is_some}
use borrow.Author.Tests.{le-ltb}
use Rattle.hexread.specs.LawsStand.{digit_told, stand_first, stand_near, stand_beyond, stand_far}
use Rattle.hexread.proofs.column.can_stand.Goals as goal

pub returns-then-i-eq0 : goal.returns-then-i-eq0
returns-then-i-eq0 c = stand_first _ _ c.if-i-eq0.true

pub returns-then-i-lt3 : goal.returns-then-i-lt3
returns-then-i-lt3 c = c.is_some-is_digit.ensures ∙ (ap is_some c.digit.ensures ∙ (digit_told _ ∙ stand_near _ _ c.if-i-eq0.false (digit_of _) refl c.if-i-lt3.true))

pub returns-then-i-most : goal.returns-then-i-most
returns-then-i-most c = c.is_some-is_digit.ensures
    ∙ (ap is_some c.digit.ensures ∙ (digit_told _ ∙ stand_far _ _ c.if-i-eq0.false (digit_of _) refl c.if-i-lt3.false _ c.requires.1 c.if-i-most.true))

pub returns-else-i-most : goal.returns-else-i-most
returns-else-i-most c = le-ltb _ _ c.if-i-most.false ∙ stand_beyond _ _ c.if-i-eq0.false (digit_of _) refl c.if-i-lt3.false _ c.requires.1 c.if-i-most.false
