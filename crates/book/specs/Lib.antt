pub mod Books
pub mod Days
pub mod Faults
pub mod Replies
pub mod Served
pub mod Tables
