pub mod Opening
pub mod Remaining
pub mod Input
pub mod Page
pub mod Cases
