pub mod Growing
pub mod Stands
