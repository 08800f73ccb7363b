pub mod MemoryTold
pub mod MemoryTurns
