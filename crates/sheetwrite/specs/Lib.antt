-- The sheet writers, and their laws in the modules whose names begin with Laws.
pub mod Write
pub mod LawsWrite
pub mod LawsBack
