pub mod FieldLoop
pub mod LayoutForms
pub mod RecordForms
pub mod RecordLaws
