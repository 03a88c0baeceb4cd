pub mod Keeping
pub mod Reading
pub mod States
pub mod Tables
