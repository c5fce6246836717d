-- What decides the page of an input.
pub mod Later
pub mod WholeInput
