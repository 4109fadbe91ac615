pub mod Tokens
pub mod Between
