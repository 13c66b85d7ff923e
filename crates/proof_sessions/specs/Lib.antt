pub mod Service  -- the service as an object, with client sessions and without
pub mod Laws  -- what sessions give
