pub mod Codec
pub mod Kinds
pub mod Numbers
pub mod Widths
pub mod Writing
pub mod Codecs
pub mod Digits
pub mod Exactly
