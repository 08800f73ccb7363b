pub mod ServingTimes
pub mod PeerCalls
pub mod Listening
