pub mod Made
pub mod Room
pub mod Tables
