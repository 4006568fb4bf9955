-- How labels are told, the supplied labellings and their laws, and the rows of a chart. Assumes nothing.
pub mod Told
pub mod Lawful
pub mod Supplied
pub mod Filled
