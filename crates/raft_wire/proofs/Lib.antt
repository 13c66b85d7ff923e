mod Ascending
mod Memberships
pub mod Replays
mod Texts
