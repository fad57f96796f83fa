pub mod Picture
pub mod Numbers
pub mod Turning
