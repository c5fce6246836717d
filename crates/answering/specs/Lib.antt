-- What the contracts of `answering` cite.
pub mod Answer
pub mod Intake
pub mod Settle
pub mod TakesStep
pub mod Answering
