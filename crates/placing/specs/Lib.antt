pub mod Locating
pub mod Placing
pub mod Words
pub mod Passing
pub mod PairTexts
pub mod Checks
