pub mod TimedRuns
pub mod TimedLaws
