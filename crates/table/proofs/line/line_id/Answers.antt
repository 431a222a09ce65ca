-- The second field, if there is one.
use Rattle.std.proofs.Common.{◌≡◌, ℕ, List, Bor, sym, ap, ◌∙◌}
use Rattle.table.specs.Table.{id_of, hex_field}
use Rattle.words.specs.Choice.{below}
use Rattle.table.specs.LawsLine.{of_either, id_none, id_last, id_field}
use Rattle.table.proofs.line.line_id.Goals as goal

pub returns-in_err-rest : goal.returns-in_err-rest
returns-in_err-rest c = c.from_residual.ensures ∙ sym (id_none _ c.in_err-rest.ensures)

pub returns : goal.returns
returns c = c.hex_field.ensures ∙ ap (below 65536) (sym (of_either _ _ _ _ _ (λ (p : Bor (List ℕ) × Bor (List ℕ)). id_of c.args.line.now ≡ hex_field p.0.now) c.unwrap_or.ensures c.split_once-2.ensures
    (λ e. id_last _ _ _ c.in_ok-rest.ensures e) (λ p r. id_field _ _ _ _ _ c.in_ok-rest.ensures r)))
