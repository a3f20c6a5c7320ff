pub mod Nullable
pub mod Messages
pub mod Reading
pub mod Written
pub mod Lines
pub mod Pages
pub mod Joined
