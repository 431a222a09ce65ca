-- Checksum and verify, and their laws in the modules whose names begin with Laws.
pub mod Count
pub mod Checksum
pub mod Verify
pub mod LawsTold
pub mod LawsCount
pub mod LawsChecksum
pub mod LawsVerify
pub mod LawsVerdict
pub mod LawsStretch
