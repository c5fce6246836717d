-- pruneAC of Figure 2 of source document 004: what closing promises, support sets and counts, and the removal list emptied.
pub mod Counting
pub mod Shrunk
pub mod Supports
pub mod SupportSet
pub mod Drop
pub mod Close
pub mod Pending
pub mod Prune
pub mod Fields
pub mod PruneTurn
