pub mod Rows
pub mod Told
pub mod Texts
pub mod Types
pub mod Heads
pub mod Entries
pub mod Stages
pub mod Fronts
