-- The removal list: settings that left a set, each a single time.
pub mod Count
pub mod Moved
pub mod Moving
