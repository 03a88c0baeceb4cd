pub mod Laws
pub mod Planted
pub mod Trees
pub mod Worked
