pub mod Bound
pub mod Cells
