-- Counts of supports in binary, as sets of settings.
pub mod Digits
pub mod Counts
