pub mod Cursors
pub mod Faults
pub mod Begun
pub mod Turned
pub mod Words
pub mod Ruled
pub mod Signs
pub mod Lengths
