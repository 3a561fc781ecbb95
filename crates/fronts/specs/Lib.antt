pub mod Ends
pub mod Lines
pub mod Maps
pub mod Puts
