-- Calls on a table, one by one and in runs. Assumes nothing.
pub mod Granted
pub mod Queries
pub mod Perform
pub mod Room
pub mod Again
pub mod Refusal
pub mod Runs
pub mod Examples
