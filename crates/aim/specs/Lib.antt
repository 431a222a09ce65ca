-- What a board is to hold, and what a planner refuses; their laws in the modules whose names begin with Laws.
pub mod Wanted
pub mod Refusal
pub mod LawsSome
pub mod LawsWanted
pub mod LawsRises
pub mod LawsAim
pub mod LawsAccepted
