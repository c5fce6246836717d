-- What the contracts of `grammar` cite.
pub mod Grammar
