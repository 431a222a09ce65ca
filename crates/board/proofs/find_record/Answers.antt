-- What the search answers of line 1's ID, or of 0.
use Rattle.board.specs.LawsOpen.{place_found, place_unfound, searched_found, searched_unread, searched_malformed, searched_unknown}
use Rattle.board.proofs.find_record.Goals as goal

pub returns-in-Ok-line-clause-number : goal.returns-in-Ok-line-clause-number
returns-in-Ok-line-clause-number c = searched_found _ _ _ c.read_id-line.ensures _ c.unwrap_or.ensures _ c.in-Ok-line.is _ c.in-Ok.ensures

pub returns-in-Ok-line-clause-found : goal.returns-in-Ok-line-clause-found
returns-in-Ok-line-clause-found c = place_found _ _ _ c.read_id-line.ensures _ c.unwrap_or.ensures _ c.in-Ok.ensures

pub returns-in-Err-line-clause-number : goal.returns-in-Err-line-clause-number
returns-in-Err-line-clause-number c = searched_unread _ _ _ c.read_id-line.ensures _ c.unwrap_or.ensures _ c.in-Err-line.is _ c.in-Ok.ensures

pub returns-in-Err-line-clause-found : goal.returns-in-Err-line-clause-found
returns-in-Err-line-clause-found c = place_found _ _ _ c.read_id-line.ensures _ c.unwrap_or.ensures _ c.in-Ok.ensures

pub returns-in-Table-clause-number : goal.returns-in-Table-clause-number
returns-in-Table-clause-number c = searched_malformed _ _ _ c.read_id-line.ensures _ c.unwrap_or.ensures _ c.in-Table.is c.in-Err.ensures

pub returns-in-Table-clause-found : goal.returns-in-Table-clause-found
returns-in-Table-clause-found c = place_unfound _ _ _ c.read_id-line.ensures _ c.unwrap_or.ensures _ c.in-Err.ensures

pub returns-in_default : goal.returns-in_default
returns-in_default c = record {
  number = searched_unknown _ _ _ c.read_id-line.ensures _ c.unwrap_or.ensures _ c.in_default.not-Table c.in-Err.ensures _ c.err.ensures.value _ c.unwrap_or-refusal.ensures;
  found = place_unfound _ _ _ c.read_id-line.ensures _ c.unwrap_or.ensures _ c.in-Err.ensures;
}
