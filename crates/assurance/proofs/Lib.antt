pub mod Examples
pub mod Assurance
pub mod Given
pub mod Numbers
pub mod Answered
pub mod Fixed
