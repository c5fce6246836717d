-- What the contracts of `session` cite.
pub mod Decisions
pub mod View
pub mod Form
pub mod Start
pub mod Steps
