pub mod CommandLine
pub mod Flags
pub mod Grammar
pub mod Named
pub mod Numbers
