pub mod Images
pub mod ItemAnswers
pub mod Reads
