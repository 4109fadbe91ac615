pub mod Digits
pub mod Complement
pub mod Promise
