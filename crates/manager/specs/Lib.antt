pub mod Figures
pub mod Ranks
pub mod Rules
