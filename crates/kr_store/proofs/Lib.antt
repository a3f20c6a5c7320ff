pub mod Alone
pub mod LastKept
pub mod ShownImages
