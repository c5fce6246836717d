-- What the contracts of `accepted` cite, and what holds of every accepted sheet.
pub mod Kinds
pub mod Sheets
pub mod Parts
-- accepted lists and right sheets
pub mod Accept
pub mod AcceptedFields
pub mod AcceptedRules
pub mod AcceptedTriples
pub mod AcceptedSheet
pub mod RightSheet
pub mod Sizes
pub mod Round
-- what holds of them
pub mod Places
pub mod Facts
pub mod Lists
pub mod Outline
pub mod Order
pub mod Refused
pub mod FirstFault
pub mod Theorems
pub mod Reads
pub mod Produces
pub mod Cases
