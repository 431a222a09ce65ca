-- The promises of the calls, and that each fixes its answer.
pub mod Determined
