pub mod Agreed
pub mod Clashes
pub mod Expected
pub mod Limits
pub mod Printed
pub mod Reported
pub mod Safe  -- what each run promises
pub mod Simulated
pub mod Steps
pub mod Undelivered
pub mod Worlds
