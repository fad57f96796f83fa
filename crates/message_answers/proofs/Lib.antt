pub mod Replies
mod Seventeen
