pub mod Telling
pub mod Tabling
