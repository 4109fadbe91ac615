pub mod Scans
pub mod Parts
