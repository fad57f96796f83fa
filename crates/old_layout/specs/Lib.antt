pub mod OldLayout
pub mod Same
