-- What the contracts of `sheet` cite.
pub mod Sources
-- laws that the functions' proofs use
pub mod Items
pub mod Progress
pub mod Retired
