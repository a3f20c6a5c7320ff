pub mod JsonText
pub mod Lines
