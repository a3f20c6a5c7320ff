pub mod LimitReplies
pub mod Losses
pub mod OwnAnswers
pub mod ToldApart
