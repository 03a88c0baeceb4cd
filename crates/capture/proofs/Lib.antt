pub mod Counts
pub mod Packing
