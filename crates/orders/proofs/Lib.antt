pub mod Bays
pub mod Named
pub mod Planned
pub mod Stand
pub mod Sums
pub mod Walked
