-- The device record and its memory, and their laws in the modules whose names begin with Laws.
pub mod Record
pub mod Memory
pub mod LawsRecord
pub mod LawsId
pub mod LawsMemory
pub mod LawsImage
pub mod LawsMask
