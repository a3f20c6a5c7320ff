pub mod Handing
pub mod Taking
pub mod Settling
pub mod Checks
pub mod Copying
pub mod Acting
