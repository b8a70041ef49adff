pub mod EnterSteps
pub mod PassSteps
pub mod PassTurns
pub mod PushSteps
pub mod RecordSteps
pub mod Whole
