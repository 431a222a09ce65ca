-- What a board's table and sheet open to, and its laws in the modules whose names begin with Laws.
pub mod Open
pub mod Sheet
pub mod LawsOpen
pub mod LawsFront
pub mod LawsBoard
pub mod LawsWritten
