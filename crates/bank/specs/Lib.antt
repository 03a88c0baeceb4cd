pub mod Answers
pub mod Banks
pub mod Parts
pub mod Promised
