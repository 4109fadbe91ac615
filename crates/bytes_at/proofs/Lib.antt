pub mod BytesAt
pub mod Signs
pub mod Runs
