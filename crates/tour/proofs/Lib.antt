pub mod Within
pub mod Told
