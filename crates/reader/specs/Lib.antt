pub mod Promise
pub mod Texts
pub mod Nodes
pub mod KeysSeen
pub mod Steps
