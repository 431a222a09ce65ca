-- How the calls cross to C.
pub mod Crossing
pub mod LawsCrossing
