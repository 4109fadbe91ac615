mod WordLaws
mod Passes
mod TextLaws
pub mod PairParts
pub mod Sites
mod SiteWords
mod StepLaws
mod SplicedTexts
pub mod Gaps
pub mod SpotLaws
mod Locating
pub mod OneSpot
