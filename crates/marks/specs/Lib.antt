-- Where a byte first stands in a list of bytes.
pub mod Marks
pub mod LawsMarks
