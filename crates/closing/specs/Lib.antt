pub mod Fields
-- Closing by AC-4: at the start of an engine, in the test of a setting, and after its removal.
pub mod Recover
pub mod Frame
pub mod Asks
pub mod Start
pub mod TestAsks
pub mod Figure2
