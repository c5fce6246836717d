-- What the contracts of `groups` cite.
pub mod Groups
-- laws that the functions' proofs use
pub mod Storing
