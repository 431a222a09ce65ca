-- The round trip of HEX text, from what is written to what is read.
pub mod LawsRoundLine
pub mod LawsRoundTrip
pub mod LawsRound
