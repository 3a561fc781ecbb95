pub mod FixedLaws
pub mod TurnLaws
pub mod V64Laws
pub mod WordLaws
pub mod SignLaws
pub mod WriteLaws
