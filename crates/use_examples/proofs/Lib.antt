pub mod StoppedTurns
