-- That the promises determine what they speak of.
pub mod Determined
