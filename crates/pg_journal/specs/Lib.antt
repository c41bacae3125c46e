pub mod Fronts
pub mod Entry
