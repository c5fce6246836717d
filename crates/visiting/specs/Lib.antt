pub mod Memory
pub mod Store
pub mod Visit
