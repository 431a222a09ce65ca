-- Intel HEX read into an image, and its laws in the modules whose names begin with Laws.
pub mod Line
pub mod Step
pub mod Column
pub mod Reader
pub mod LawsLine
pub mod LawsFault
pub mod LawsStand
pub mod LawsDecode
pub mod LawsGive
pub mod LawsGiveProgram
pub mod LawsReader
pub mod LawsTaken
pub mod LawsNext
pub mod LawsLines
pub mod LawsColumn
pub mod LawsImage
