-- what the words mean
pub mod Words
pub mod Region
-- what is asked
pub mod Standing
pub mod Listed
-- the loops and the contracts
pub mod Skipping
pub mod Listing
