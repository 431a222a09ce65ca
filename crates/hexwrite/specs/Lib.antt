-- Intel HEX written of an image, and its laws in the modules whose names begin with Laws.
pub mod Writer
pub mod LawsWrite
pub mod LawsWriteRun
pub mod LawsWriteStop
pub mod LawsNextRun
pub mod LawsWriteText
pub mod LawsWritePut
pub mod LawsWriteRecords
pub mod LawsWriter
pub mod LawsAnswer
