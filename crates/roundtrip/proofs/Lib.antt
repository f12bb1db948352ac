pub mod Amounts
pub mod Days
pub mod Records
