-- What holds of the session's steps, and what the check cites by itself.
pub mod Shows
pub mod Counts
