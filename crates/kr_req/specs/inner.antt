pub mod ReplyBodies
