pub mod FaultWords
pub mod ImageFaultWords
pub mod ImagePieces
