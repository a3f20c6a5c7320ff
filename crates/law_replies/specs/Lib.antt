pub mod LimitReplies
pub mod Losses
pub mod ToldApart
