pub mod Exchanges
pub mod Messages
pub mod PagingCalls
pub mod SeatCalls
pub mod Served
pub mod Told
pub mod Walks
pub mod inner
