pub mod Frames
pub mod Laws
pub mod Numbers
pub mod Refusals
pub mod Rows
pub mod Worked
