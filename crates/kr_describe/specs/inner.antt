pub mod RecordFields
pub mod ShownLines
