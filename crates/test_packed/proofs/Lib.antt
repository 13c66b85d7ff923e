pub mod Along  -- what nodes keep, along the equations that they ensure
