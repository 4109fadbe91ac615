pub mod Shift
pub mod Ways
