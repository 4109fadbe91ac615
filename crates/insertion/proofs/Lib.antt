pub mod Arrays
pub mod SiteRows
pub mod Grown
pub mod Meanings
pub mod Sizes
mod Kept
pub mod PairTexts
mod Told
pub mod Steps
pub mod Inserting
pub mod Refusing
