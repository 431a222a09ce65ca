-- A law for each fault.
use Rattle.hexread.specs.LawsFault.{column_character, column_whole, column_low}
use Rattle.hexread.proofs.fault.Fault.column.Goals as goal

pub returns-in-NotARecord : goal.returns-in-NotARecord
returns-in-NotARecord c = rw (c.in-Line.is, c.in-NotARecord.is, c.bad_column.ensures) (column_character _)

pub returns-in_default : goal.returns-in_default
returns-in_default c = rw c.in-Line.is (column_whole _ _ c.in_default.not-NotARecord)

pub returns-in-Word : goal.returns-in-Word
returns-in-Word c = rw (c.in-Word.is, c.from.ensures) (column_low _ _)
