pub mod ImageFrames
pub mod WorldLaws
