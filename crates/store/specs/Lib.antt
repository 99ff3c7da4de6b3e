pub mod Bytes
pub mod Swaps
pub mod Grounds
pub mod Openings
pub mod Windows
pub mod Words
