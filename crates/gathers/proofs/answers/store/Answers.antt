-- Each word passed is stored, and the rest is as it was.
use Rattle.std.proofs.Common.{◌∙◌, rules, arith}
use Rattle.gathers.specs.LawsStored.{stored_none, stored_more, stored_end, stored_there}
use Rattle.gathers.proofs.answers.store.Goals as goal

pub loop-i-init : goal.loop-i-init
loop-i-init c = stored_none _ _

pub unwrap-requires : goal.unwrap-requires
unwrap-requires c = rw (c.capital_word.ensures ∙ stored_there _ _ c.requires.2 c.loop-i.i (omega arith)) (search rules)

pub loop-i-preserved : goal.loop-i-preserved
loop-i-preserved c = let there = stored_there c.args.program c.args.text.now c.requires.2 c.loop-i.i (omega arith) in
    stored_more _ _ _ _ _ c.loop-i.invariant (cc)

pub returns : goal.returns
returns c = stored_end _ _ _ c.requires.1 _ _ (omega arith) (omega arith) c.loop-i.invariant
