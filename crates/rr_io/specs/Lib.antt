pub mod Told
pub mod Sending
pub mod Receiving
pub mod Counted
pub mod Cut
pub mod Joined
