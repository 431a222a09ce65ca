-- What the programs' texts come to when one is handed to the next, and the laws in the modules whose names begin with Laws.
pub mod Rehearsed
pub mod LawsPrinted
pub mod LawsFront
