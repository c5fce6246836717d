pub mod Problems
pub mod Calls
pub mod Table
