-- initializeAC of Figure 2 of source document 004: the support sets and the counts made.
pub mod Initialize
pub mod Record
pub mod Count
pub mod InitializeTurn
