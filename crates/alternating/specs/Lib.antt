pub mod Arrivals
pub mod Lanes
pub mod Retry
pub mod Rounds
