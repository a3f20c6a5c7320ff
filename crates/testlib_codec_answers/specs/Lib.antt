pub mod BalanceWords
pub mod FoldWords
pub mod ImageWords
pub mod MessageWords
pub mod PrimitiveWords
pub mod SessionWords
pub mod Words
