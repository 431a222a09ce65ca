-- The theorems over the printed texts, over the definitions of specs/.
pub mod LawsTold
pub mod LawsAnswers
pub mod LawsRehearsed
pub mod LawsGathered
