pub mod Layouts
pub mod Forms
pub mod MessageTypes
pub mod Responses
pub mod Shown
pub mod inner
