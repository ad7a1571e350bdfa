mod WorkedBlocks
mod WorkedQuestions
mod WorkedFits
mod WorkedTakes
mod WorkedPlays
pub mod Starting
pub mod Fitting
pub mod Deeds
pub mod Frames
pub mod Zoom
pub mod OwnMoves
pub mod Blocks
pub mod Answers
pub mod Lists
pub mod Steps
pub mod Sites
pub mod Entries
pub mod Readiness
pub mod Agenda
pub mod Freshness
pub mod LightBlocks
pub mod TouchBlocks
pub mod Questions
pub mod OwnCode
pub mod Touching
pub mod Playing
pub mod Allowances
pub mod Taking
pub mod Results
pub mod OwnEvents
pub mod OwnQuestions
pub mod Ending
pub mod Counting
