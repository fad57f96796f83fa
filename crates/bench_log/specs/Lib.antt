pub mod Log
pub mod Step
pub mod Run
