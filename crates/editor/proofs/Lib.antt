mod Ended
pub mod Canonicalizing
pub mod Inserting
