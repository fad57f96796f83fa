-- claims without an order
pub mod Lowest
pub mod Places
-- what the calls keep
pub mod Settled
pub mod Steps
pub mod Calls
-- the theorem
pub mod Unique
pub mod AnyOrder
-- each premise is needed
pub mod Tests
pub mod Needed
