-- What the program trial prints, and its laws in the modules whose names begin with Laws.
pub mod Trial
pub mod LawsTyped
pub mod LawsPlayed
pub mod LawsTrial
