-- The worked cases, as one statement over the list of them.
pub mod LawsWorked
