-- By the one test where all words are program words, and by each word otherwise.
use native.Mathlib.Omega.{arith}
use borrow.Author.Rules.{rules}
use Rattle.std.specs.Prelude.{Some}
use Rattle.std.proofs.Common.{◌≡◌, ◌+◌, ◌/◌, ap, ◌∙◌}
use Rattle.hexread.specs.LawsGive.{entry_given, gave, given_read, given_inside}
use Rattle.hexread.specs.LawsGiveProgram.{first_most, program_answers}
use Rattle.hexread.proofs.give.give_record.Goals as goal

pub overflow_add-first : goal.overflow_add-first
overflow_add-first c = let f = first_most c.args.places.words c.args.places.upper c.args.places.offset in omega (arith, f)

pub returns-then-first-from : goal.returns-then-first-from
returns-then-first-from c = λ line s k o. c.give.ensures c.args.places.words c.args.places.upper line s (ap (λ n. n / 2) k) (λ j a h p.
    let q : a ≡ Some (c.entry-first.result + j) = search rules in
    q ∙ program_answers _ _ _ _ (c.args.count / 2) c.entry-first.ensures (omega arith) (omega arith) line o j h)
    ∙ ap (λ n. gave c.args.places.words c.args.places.upper line c.args.image.now 0 (n / 2)) k

pub give-requires-2-clause-inside : goal.give-requires-2-clause-inside
give-requires-2-clause-inside c = λ j i h p. let q : Some i ≡ entry_given c.args.places.words c.args.places.upper c.args.places.offset j = search rules in
    given_inside _ _ _ _ _ _ c.requires q

pub returns : goal.returns
returns c = λ line s k o. c.give-2.ensures c.args.places.words c.args.places.upper line s (ap (λ n. n / 2) k) (λ j a h p.
    let q : a ≡ entry_given c.args.places.words c.args.places.upper c.args.places.offset j = search rules in
    q ∙ given_read _ _ _ _ j o)
    ∙ ap (λ n. gave c.args.places.words c.args.places.upper line c.args.image.now 0 (n / 2)) k
