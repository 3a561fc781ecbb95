pub mod Chunk
pub mod Chunks
pub mod Sizes
pub mod Sums
pub mod Turns
pub mod After
pub mod Both
