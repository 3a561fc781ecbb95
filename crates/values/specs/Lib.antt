-- Passing over elements, and holding them to the rules
pub mod Pass
pub mod Turns
pub mod Overs
pub mod Listed
pub mod Annotations
pub mod Items
pub mod Ups
pub mod Held
pub mod RangeLaws
pub mod Chunks
-- Maps of several types
pub mod Maps
pub mod Spans
pub mod Ways
pub mod MapChunks
pub mod Quick
-- Values of a column
pub mod Bare
pub mod Linkable
pub mod Ends
pub mod Columns
pub mod Constants
pub mod Filling
pub mod Rows
-- The kinds of a map
pub mod Unpacked
