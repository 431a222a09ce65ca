-- Text in pieces, and the text of hex and decimal numbers, with their laws in the modules whose names begin with Laws.
pub mod Text
pub mod Hex
pub mod Decimal
pub mod LawsText
pub mod LawsHex
pub mod LawsDecimal
