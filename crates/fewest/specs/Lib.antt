-- That no stream without Bulk Erase has fewer Row Erases than an update.
pub mod Erases
pub mod LawsCounts
pub mod LawsClears
pub mod LawsLack
pub mod LawsFalls
pub mod LawsPays
pub mod LawsErasesCounted
pub mod LawsBytesCounted
