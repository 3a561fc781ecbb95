pub mod Shown
pub mod Single
pub mod Lines
pub mod Maps
