pub mod Grids
pub mod Played
