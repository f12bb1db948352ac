pub mod Changes
pub mod Limits
pub mod Piles
pub mod Reserves
pub mod Theorems
pub mod Pushed
