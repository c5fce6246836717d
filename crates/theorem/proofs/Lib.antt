pub mod CallAgrees
pub mod EveryCall
pub mod Inner
pub mod Outer
pub mod RoundTrips
pub mod Sequence
pub mod Corollaries
pub mod No8
