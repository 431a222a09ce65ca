-- Tab after tab, and at most one after the fifth.
use Rattle.std.proofs.Common.{◌≡◌, ℕ, List, [], ◌∷◌, length, false, Bor, sym, ap, arith, ◌∙◌}
use Rattle.numerals.specs.Text.{tab, split}
use Rattle.table.specs.LawsPieces.{Parted}
use Rattle.table.specs.LawsLine.{six_or_seven, Seven, of_either, of_none, of_some, every_bit_whole, more, few, six_fields, seven_fields, many_fields}
use Rattle.table.proofs.line.cut.Goals as goal

pub returns-in_err-name : goal.returns-in_err-name
returns-in_err-name c = rw c.from_residual.ensures (few _ 1 (ap length c.in_err-name.ensures) (omega arith))

pub returns-in_err-id : goal.returns-in_err-id
returns-in_err-id c = rw c.from_residual-in_err-id.ensures (few _ 2 (more c.in_ok-name.ensures (ap length c.in_err-id.ensures)) (omega arith))

pub returns-in_err-words : goal.returns-in_err-words
returns-in_err-words c = rw c.from_residual-in_err-words.ensures (few _ 3 (more c.in_ok-name.ensures (more c.in_ok-id.ensures (ap length c.in_err-words.ensures))) (omega arith))

pub returns-in_err-row : goal.returns-in_err-row
returns-in_err-row c = rw c.from_residual-in_err-row.ensures (few _ 4 (more c.in_ok-name.ensures (more c.in_ok-id.ensures (more c.in_ok-words.ensures (ap length c.in_err-row.ensures)))) (omega arith))

pub returns-in_err-mask1 : goal.returns-in_err-mask1
returns-in_err-mask1 c = rw c.from_residual-in_err-mask1.ensures (few _ 5 (more c.in_ok-name.ensures (more c.in_ok-id.ensures (more c.in_ok-words.ensures (more c.in_ok-row.ensures (ap length c.in_err-mask1.ensures))))) (omega arith))

pub returns-then-is_some : goal.returns-then-is_some
returns-then-is_some c = of_some _ _ _ _ c.split_once-7.ensures (sym c.is_some.ensures ∙ c.if-is_some.true)
    (of_either c.split_once-6.result _ _ _ _ (λ (p : Bor (List ℕ) × Bor (List ℕ)). (x : Bor (List ℕ) × Bor (List ℕ)) → Parted tab p.1.now x.0.now x.1.now → six_or_seven c.args.line.now ≡ false) c.unwrap_or.ensures c.split_once-6.ensures
    (λ e x q. absurd (every_bit_whole _ _ q))
    (λ p r x q. many_fields _ _ _ _ _ _ _ _ _ _ _ c.in_ok-name.ensures c.in_ok-id.ensures c.in_ok-words.ensures c.in_ok-row.ensures c.in_ok-mask1.ensures p.0.now p.1.now r _ _ q))

pub returns : goal.returns
returns c = of_either _ _ _ _ _ (λ (p : Bor (List ℕ) × Bor (List ℕ)). split tab p.1.now ≡ p.1.now ∷ [] → Seven c.args.line.now c.in_ok-name.name.now c.in_ok-id.id.now c.in_ok-words.words.now c.in_ok-row.row.now c.in_ok-mask1.mask1.now p.0.now p.1.now) c.unwrap_or.ensures c.split_once-6.ensures
    (λ e f. six_fields _ _ _ _ _ _ _ _ _ _ _ c.in_ok-name.ensures c.in_ok-id.ensures c.in_ok-words.ensures c.in_ok-row.ensures c.in_ok-mask1.ensures e)
    (λ p r f. seven_fields _ _ _ _ _ _ _ _ _ _ _ c.in_ok-name.ensures c.in_ok-id.ensures c.in_ok-words.ensures c.in_ok-row.ensures c.in_ok-mask1.ensures _ _ r f)
    (of_none _ _ _ c.split_once-7.ensures (sym c.is_some.ensures ∙ c.if-is_some.false))
