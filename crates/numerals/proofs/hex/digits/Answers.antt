-- Each place below c has the value of its character.
use Rattle.std.proofs.Common.{arith, ◌∙◌, ◌<◌, ◌≢◌, length, get_or-set_other, get_or-set_same, below_more, ap}
use Rattle.std.specs.Option.{unwrap_or}
use Rattle.words.specs.LawsLists.{built}
use Rattle.numerals.specs.Hex.{digit_of}
use Rattle.numerals.specs.LawsHex.{digit_le, unwrapped}
use Rattle.numerals.proofs.hex.digits.Goals as goal

pub loop-c-preserved : goal.loop-c-preserved
loop-c-preserved c =
    below_more _ _
    (λ k h. let ne : k ≢ c.loop-c.c = omega arith in rw get_or-set_other (c.loop-c.invariant k h))
    (let lt : c.loop-c.c < length c.loop-c.value-items = omega arith in rw get_or-set_same (c.unwrap_or.ensures ∙ (ap (λ r. unwrap_or r 16) c.digit.ensures ∙ unwrapped 16 _ (digit_le _))))

pub returns : goal.returns
returns c = built c.loop-c.value-items 256 digit_of c.loop-c-test.array_long (λ k h. c.loop-c.invariant k (omega arith))
