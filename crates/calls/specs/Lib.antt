pub mod Fill
pub mod Kinds
pub mod Told
pub mod Sought
pub mod Column
pub mod Behind
pub mod Table
pub mod Fixed
