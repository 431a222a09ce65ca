-- Line 1, the other lines, and in the new form its name and sum.
use Rattle.std.proofs.Common.{sym, ◌∙◌, arith}
use Rattle.std.proofs.lemmas.Option.{MatchOption-at_some, MatchOption-at_none}
use Rattle.sheet.specs.LawsRead.{text_no_line, text_no_fit, text_no_body, text_body, text_old, text_18, text_19, text_0}
use Rattle.sheet.proofs.read.judge_text.Goals as goal
use Rattle.sheet.proofs.read.judge_text.Goals.{then-not-fits-via-then-not-fits, then-not-fits-via-else-not-fits+then-not-places_ok, in-Some-label+else-ne+else-sum_in-label, in_default-label}

pub returns-in_default-clause-number : goal.returns-in_default-clause-number
returns-in_default-clause-number c = text_no_line _ _ _ c.in_default.ensures

pub returns-then-not-fits-clause-number : goal.returns-then-not-fits-clause-number
returns-then-not-fits-clause-number c = elim c.then-not-fits.branch [
  | then-not-fits-via-then-not-fits w ↦ text_no_fit _ _ _ _ _ c.in-Some.ensures.0 (sym c.fits.ensures ∙ w.if-not-fits.true)
  | then-not-fits-via-else-not-fits+then-not-places_ok w ↦ text_no_body _ _ _ _ _ c.in-Some.ensures.0 c.args.sound.rules (sym w.places_ok.ensures ∙ w.if-not-places_ok.true)
]

pub returns-then-ne-clause-number : goal.returns-then-ne-clause-number
returns-then-ne-clause-number c = text_18 _ _ _ _ _ c.in-Some.ensures.0 c.args.sound.rules (sym c.fits.ensures ∙ c.if-not-fits.false) (sym c.places_ok.ensures ∙ c.if-not-places_ok.false) _ _ (MatchOption-at_some _ _ _ c.in-Some-label.is c.in-Some.ensures.1) c.if-ne.ensures

pub sum_in-requires : goal.sum_in-requires
sum_in-requires c = text_body _ c.args.name.now _ _ _ c.in-Some.ensures.0 c.args.sound.rules (sym c.fits.ensures ∙ c.if-not-fits.false) (sym c.places_ok.ensures ∙ c.if-not-places_ok.false)

pub returns-then-sum_in-label-clause-number : goal.returns-then-sum_in-label-clause-number
returns-then-sum_in-label-clause-number c = text_19 _ _ _ _ _ c.in-Some.ensures.0 c.args.sound.rules (sym c.fits.ensures ∙ c.if-not-fits.false) (sym c.places_ok.ensures ∙ c.if-not-places_ok.false) _ _ (MatchOption-at_some _ _ _ c.in-Some-label.is c.in-Some.ensures.1) c.if-ne.ensures _ c.sum_in.ensures c.if-sum_in-label.true

pub returns-clause-number : goal.returns-clause-number
returns-clause-number c = elim c.match-first.branch [
  | in-Some-label+else-ne+else-sum_in-label w ↦ text_0 _ _ _ _ _ c.in-Some.ensures.0 c.args.sound.rules (sym c.fits.ensures ∙ c.if-not-fits.false) (sym c.places_ok.ensures ∙ c.if-not-places_ok.false)
      _ _ (MatchOption-at_some _ _ _ w.in-Some-label.is c.in-Some.ensures.1) w.if-ne.ensures _ w.sum_in.ensures (omega arith)
  | in_default-label w ↦ text_old _ _ _ _ _ c.in-Some.ensures.0 c.args.sound.rules (sym c.fits.ensures ∙ c.if-not-fits.false) (sym c.places_ok.ensures ∙ c.if-not-places_ok.false) (MatchOption-at_none _ _ w.in_default-label.is c.in-Some.ensures.1)
]
