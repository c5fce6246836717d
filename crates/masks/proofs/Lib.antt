pub mod Bits
pub mod Floods
pub mod Loops
pub mod Masks
pub mod Restrict
pub mod Sets
pub mod Settings
pub mod Words
