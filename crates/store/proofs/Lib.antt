pub mod Fours
pub mod Panes
