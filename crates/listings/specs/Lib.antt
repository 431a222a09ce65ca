-- What the programs update, fresh, wanted, wanted_fresh and readback print, and its laws in the modules whose names begin with Laws.
pub mod Streams
pub mod Wanteds
pub mod LawsStreams
pub mod LawsPlanned
pub mod LawsPlans
pub mod LawsLeft
pub mod LawsBounds
