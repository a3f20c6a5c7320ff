pub mod DumpText
