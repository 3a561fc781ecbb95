pub mod Answers
pub mod LineLaws
pub mod StringLaws
pub mod OldLaws
pub mod Twenty
pub mod KindLaws
pub mod MapLaws
pub mod NewLaws
