pub mod Completing
pub mod Emptied
pub mod Padded
pub mod Sheets
pub mod Unpadded
