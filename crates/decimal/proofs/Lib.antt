pub mod Decide
pub mod Numerals
mod Runs
pub mod Stores
pub mod Complements
