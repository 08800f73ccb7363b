pub mod Networks
pub mod Probing
pub mod Running
pub mod Runs
pub mod Serving
