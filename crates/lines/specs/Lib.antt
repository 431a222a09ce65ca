-- The lines of a text, and their laws in the modules whose names begin with Laws.
pub mod Lines
pub mod LawsLine
pub mod LawsScan
pub mod LawsNext
