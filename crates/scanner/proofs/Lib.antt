pub mod Numbers
mod Flags
mod Quotes
mod Floats
pub mod PlainFloats
mod Decimals
mod Heads
mod Scalars
pub mod Printed
