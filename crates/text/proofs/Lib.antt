pub mod Cuts
pub mod Naming
