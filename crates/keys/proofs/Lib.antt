pub mod NodeKeys
pub mod SaidKeys
pub mod Chains
