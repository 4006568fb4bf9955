-- A walk with a stack: the table that grows, the stack and its measure, the tasks, and what holds turn by turn. Assumes nothing.
pub mod Grow
pub mod Stack
pub mod Frames
pub mod Measure
pub mod Child
pub mod Task
pub mod Larger
pub mod Work
pub mod Full
