pub mod Turns
pub mod Follows
pub mod EveryCall
