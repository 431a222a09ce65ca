-- Two bytes stored one after the other; past the end nothing.
use Rattle.numerals.specs.LawsHex.{word_put, word_put_past}
use Rattle.numerals.proofs.hex.put_word.Goals as goal

pub returns-then-at-out : goal.returns-then-at-out
returns-then-at-out c = word_put _ _ _ _ _ c.ranges.w.fits c.to_be_bytes.ensures c.put_byte.ensures _ c.put_byte-then-at-out.ensures

pub returns-else-at-out : goal.returns-else-at-out
returns-else-at-out c = word_put_past _ _ _ _ _ c.ranges.w.fits c.to_be_bytes.ensures c.put_byte.ensures c.if-at-out.false
