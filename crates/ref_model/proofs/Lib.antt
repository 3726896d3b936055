pub mod NativeLaws
pub mod StateLaws
mod RowLaws
pub mod StepLaws
pub mod ReplayLaws
mod WorkedTexts
mod WorkedWorld
mod WorkedHeap
mod WorkedOperands
mod WorkedRuns
mod WorkedThreadWorld
mod WorkedRequests
mod WorkedWaits
