mod Answering
mod Calls
mod FrameLaws
mod Going
mod Racks
mod Sizes
mod Statuses
