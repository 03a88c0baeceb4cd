pub mod Draining
pub mod Meaning
pub mod OneLane
pub mod Receiving
pub mod Retrying
pub mod Rounding
pub mod Sending
pub mod Sounding
