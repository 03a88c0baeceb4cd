pub mod Cables
pub mod InOrder
