pub mod ListedSenders
pub mod PollSteps
pub mod PollTurns
pub mod SweepSteps
pub mod SweepTurns
