-- Sheets moved between their forms, and what the programs newsheet and oldsheet print; laws in the modules whose names begin with Laws.
pub mod Move
pub mod Programs
pub mod LawsMove
pub mod LawsWords
pub mod LawsPrograms
