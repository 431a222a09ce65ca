-- Two digits, if the line is long enough for them.
use Rattle.std.proofs.Common.{ap, ◌∙◌}
use Rattle.words.specs.Choice.{below}
use Rattle.hexread.specs.LawsDecode.{no_room, byte_is}
use Rattle.hexread.proofs.digits.Digits.count_of.Goals as goal

pub returns-then-line-lt3 : goal.returns-then-line-lt3
returns-then-line-lt3 c = no_room _ c.if-line-lt3.true

pub returns : goal.returns
returns c = c.byte.ensures ∙ ap (below 256) (byte_is _ 0)
