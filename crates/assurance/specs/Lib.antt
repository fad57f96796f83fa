pub mod Examples
pub mod Assurance
pub mod Given
pub mod Answered
pub mod Fixed
