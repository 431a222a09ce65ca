-- The lines of a text, one after another.
pub mod Text
