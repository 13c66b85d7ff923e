pub mod Options  -- how values are set, and when keys expire
pub mod Queries  -- queries
pub mod Commands  -- commands
pub mod Requests  -- requests
