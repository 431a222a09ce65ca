-- What the programs checksum, verify and dump print, and its laws in the modules whose names begin with Laws.
pub mod Programs
pub mod Dump
pub mod LawsPrograms
pub mod LawsWhole
pub mod LawsDump
