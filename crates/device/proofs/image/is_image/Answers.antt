-- The length, the bits of what is given, and the words that are never given.
use Rattle.std.proofs.Common.{sym, ◌∙◌, le-ltb}
use Rattle.device.specs.LawsMemory.{image_short}
use Rattle.device.specs.LawsImage.{image_high, image_low}
use Rattle.device.proofs.image.is_image.Goals as goal

pub returns-then-l-words : goal.returns-then-l-words
returns-then-l-words c = sym (image_short _ _ c.if-l-words.true)

pub returns-then-join_given-lt-WORD_LIMIT : goal.returns-then-join_given-lt-WORD_LIMIT
returns-then-join_given-lt-WORD_LIMIT c = c.none_between.ensures ∙ image_low _ _ _ c.if-l-words.false c.join_given.ensures c.if-join_given-lt-WORD_LIMIT.true

pub returns-else-join_given-lt-WORD_LIMIT : goal.returns-else-join_given-lt-WORD_LIMIT
returns-else-join_given-lt-WORD_LIMIT c = le-ltb _ _ c.if-join_given-lt-WORD_LIMIT.false ∙ sym (image_high _ _ _ c.if-l-words.false c.join_given.ensures c.if-join_given-lt-WORD_LIMIT.false)
