-- A range filled with one word.
use Rattle.std.proofs.Common.{ap, ◌∙◌, replicate, arith, rules}
use Rattle.std.proofs.lemmas.List.{places}
use Rattle.words.specs.Word.{erased}
use Rattle.target.specs.LawsCells.{filled}
use Rattle.target.proofs.cells.erase.Goals as goal

pub returns : goal.returns
returns c = filled _ _ _ _ _ _ c.requires (omega arith) (c.fill.ensures.after (λ y h. h) ∙ ap (λ n. replicate n erased) (search (rules, places)))
