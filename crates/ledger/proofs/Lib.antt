-- What holds of the definitions of `ledger`.
pub mod NotJudged
pub mod Judging
pub mod Named
pub mod Laws
pub mod Sound
pub mod Selection
pub mod Theorems
