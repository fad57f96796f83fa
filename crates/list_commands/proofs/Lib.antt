pub mod PairLoop
pub mod Allowing
pub mod Ranks
pub mod Searching
