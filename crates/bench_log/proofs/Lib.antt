pub mod Log
pub mod Steps
pub mod WholeRun
pub mod Pieces
