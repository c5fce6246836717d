-- What the check cites by itself.
pub mod Giving
