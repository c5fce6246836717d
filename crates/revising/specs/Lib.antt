pub mod Support
pub mod Table
pub mod Revise
pub mod Turn
pub mod Narrow
pub mod Over
