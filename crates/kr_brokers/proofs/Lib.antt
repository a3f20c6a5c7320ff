pub mod FencingMeanings
pub mod ReadOffsets
pub mod StoppingBeats
pub mod UnfencedBrokers
