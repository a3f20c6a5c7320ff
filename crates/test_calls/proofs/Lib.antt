pub mod FilledMaps
