mod Outputs
mod Spelled
pub mod Respelled
pub mod Raised
pub mod Anywhere
mod Staying
mod PlainTokens
mod Rewritten
mod SplicedTexts
pub mod Measures
pub mod Editable
