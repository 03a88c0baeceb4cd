pub mod Asking
pub mod Coming
pub mod Counts
pub mod Outside
pub mod Planting
pub mod Preparing
pub mod Refusing
pub mod Running
