-- The plain ledger, and what holds of it.
pub mod Occurrences
pub mod Ledger
-- what holds of it
pub mod Cases
pub mod Kinds
pub mod Causes
pub mod Laws
pub mod Orders
pub mod Theorems
