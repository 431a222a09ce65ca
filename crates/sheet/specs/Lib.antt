-- Board sheets, and their laws in the modules whose names begin with Laws.
pub mod FirstLine
pub mod Sheet
pub mod LawsStands
pub mod LawsFirstLine
pub mod LawsBody
pub mod LawsPlaces
pub mod LawsSheet
pub mod LawsRead
