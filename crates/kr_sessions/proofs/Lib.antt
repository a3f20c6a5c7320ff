pub mod Begins
pub mod ValidContacts
