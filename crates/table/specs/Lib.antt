-- The device table, and its laws in the modules whose names begin with Laws.
pub mod Table
pub mod LawsPieces
pub mod LawsLine
pub mod LawsTable
pub mod LawsName
pub mod LawsClash
pub mod LawsSix
pub mod LawsLimit
