pub mod Counting
pub mod Few
pub mod Ghosts
pub mod Keeping
pub mod LawsHold
pub mod Phasing
pub mod Pigeonhole
pub mod Viewing
