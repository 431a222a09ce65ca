-- What the program gather prints, and its laws in the modules whose names begin with Laws.
pub mod Gather
pub mod LawsAnswers
pub mod LawsStored
pub mod LawsGather
