pub mod DrivenMoves
pub mod StandingReplies
