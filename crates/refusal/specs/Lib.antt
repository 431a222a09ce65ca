-- The numbers of refusals, and their laws.
pub mod Refusal
pub mod LawsRefusal
