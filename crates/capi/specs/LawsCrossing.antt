-- Laws of what crosses to C: a record comes back from its six numbers, and a search's answer from its parts.
use Rattle.std.specs.Prelude.{ℕ, ◌≡◌, List}
use Rattle.std.proofs.Common.{ap, ◌∙◌}
use Rattle.table.specs.Table.{Found}
use Rattle.capi.specs.Crossing.{numbers_of, Finds}

-- the parts of a search's answer
pub finds : (found want : Found) (numbers : List ℕ) → found ≡ want → numbers ≡ numbers_of found.device → Finds want found.number numbers found.name_at found.name_len
finds found want numbers e stored =
    record {
      answers = ap (λ f. f.number) e;
      device = stored ∙ ap (λ f. numbers_of f.device) e;
      name_at_lem = ap (λ f. f.name_at) e;
      name_len_lem = ap (λ f. f.name_len) e;
    }
