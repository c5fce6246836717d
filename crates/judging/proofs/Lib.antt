-- What the check cites by itself of `judging`.
pub mod Counts
pub mod Engines
