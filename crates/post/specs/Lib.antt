pub mod Posts
pub mod StraightIsAPost
pub mod Straights
