pub mod Asked
pub mod Filling
pub mod Found
pub mod Lowest
pub mod Made
pub mod Read
pub mod Steps
pub mod Tried
