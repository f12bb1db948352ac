pub mod Layers
pub mod Places
pub mod Stays
