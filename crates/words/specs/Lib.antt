-- The definitions that every crate stands on, and their laws in the modules whose names begin with Laws.
pub mod Choice
pub mod Word
pub mod Address
pub mod Lists
pub mod First
pub mod LawsPromise
pub mod LawsChoice
pub mod LawsTests
pub mod LawsWord
pub mod LawsMask
pub mod LawsAddress
pub mod LawsLists
pub mod LawsFirst
pub mod LawsJoined
