pub mod Replies
pub mod SentBack
