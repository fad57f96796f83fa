pub mod Answers
pub mod Passes
pub mod Laws
pub mod MessageLaws
