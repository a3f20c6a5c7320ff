pub mod Bodies
pub mod Elements
pub mod Chains
pub mod Fields
pub mod Fronts
