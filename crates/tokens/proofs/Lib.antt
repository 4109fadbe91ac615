pub mod TokenLaws
pub mod Nodes
mod Scanned
pub mod Tagged
pub mod Standing
pub mod TokenRead
pub mod Stretches
