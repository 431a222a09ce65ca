-- What the programs print, and its laws in the modules whose names begin with Laws.
pub mod Print
pub mod LawsPrint
pub mod LawsLines
