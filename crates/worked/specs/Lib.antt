-- The worked cases of the paper, and that all of them hold; its errors that look right, and that each breaks a demand.
pub mod Cases
pub mod Errors
pub mod LawsErrors
pub mod LawsBulk
