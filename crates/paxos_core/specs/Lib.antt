pub mod Ballot
pub mod Standing
pub mod Acceptor
pub mod Majority
pub mod Proposing
pub mod World
pub mod Votes
pub mod Messages
