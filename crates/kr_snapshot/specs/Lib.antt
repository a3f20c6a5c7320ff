pub mod Grammar
pub mod ImageText
pub mod ReaderState
pub mod Reading
pub mod TextLaws
pub mod Written
pub mod inner
