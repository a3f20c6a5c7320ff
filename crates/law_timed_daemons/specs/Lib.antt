pub mod TimedDaemons
