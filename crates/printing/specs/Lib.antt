-- What the contracts of `printing` cite.
pub mod Text
pub mod Rooms
pub mod Puts
-- what holds of the text
pub mod Decimal
pub mod Lengths
pub mod Offered
pub mod Cases
