pub mod Orders
pub mod Planner
pub mod Sessions
pub mod Theorems
