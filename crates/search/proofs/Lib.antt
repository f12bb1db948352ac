pub mod Lowest
pub mod Opened
pub mod Steps
