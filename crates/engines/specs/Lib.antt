pub mod Engine
pub mod EngineAsks
pub mod Pass
pub mod PutBack
pub mod Queue
pub mod Answers
pub mod Offering
pub mod SheetD
