-- The limits of 01 and 02 and the numbers of the refusals.
pub mod Limits
pub mod Refusals
pub mod Engines
