pub mod Cells
pub mod Effects
pub mod Kinds
pub mod Legend
pub mod Rows
