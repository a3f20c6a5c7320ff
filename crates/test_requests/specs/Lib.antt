pub mod StoppingBrokers
