pub mod NewSettings
