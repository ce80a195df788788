pub mod LineSteps
pub mod LongestRuns
pub mod PlaceSteps
pub mod PlayableLines
pub mod RunSteps
pub mod SaidEntries
pub mod Spellings
