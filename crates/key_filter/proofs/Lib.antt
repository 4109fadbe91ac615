mod Covers
pub mod Hashing
pub mod Marking
