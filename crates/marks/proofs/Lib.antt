-- That each promise fixes its answer.
pub mod Determined
