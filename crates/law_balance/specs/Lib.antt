pub mod Election
pub mod GivingBack
pub mod Balancing
