mod Examples
pub mod DeedEffects
pub mod CoreDeeds
pub mod CoreRunEnds
pub mod Sides
pub mod CallSides
pub mod Campaigns
pub mod WonEpochs
pub mod TimedRuns
pub mod DaemonEvents
pub mod RunsOfCores
