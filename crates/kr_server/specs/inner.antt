pub mod Paging
pub mod Reading
pub mod Serving
