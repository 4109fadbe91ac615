pub mod Output
pub mod Shortest
pub mod Rewriting
pub mod Stretches
pub mod Edited
