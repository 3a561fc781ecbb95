-- Laws of the words of a listing, and what the answers of the readers mean.
pub mod Decimals
pub mod Hexes
pub mod Signs
pub mod Answers
pub mod Backwards
pub mod Blocks
pub mod Pairs
pub mod Stored
pub mod ReadBytes
pub mod ReadDecimals
pub mod ReadSigns
pub mod ReadHexes
