-- The ranges of types
pub mod Low
pub mod Gather
pub mod Group
pub mod Objects
-- The objects that annotations name
pub mod Bytes
pub mod Named
pub mod Known
