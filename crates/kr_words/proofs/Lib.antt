pub mod DecimalTexts
pub mod Statuses
mod NumberedWords
