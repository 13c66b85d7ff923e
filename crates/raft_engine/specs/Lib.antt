pub mod LeaderCalls
pub mod Makers
pub mod Whole
