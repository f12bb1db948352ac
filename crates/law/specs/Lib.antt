pub mod Book
pub mod Law
pub mod SafeOrder
pub mod Tally
