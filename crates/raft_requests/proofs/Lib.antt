pub mod Counts
pub mod Fitting
pub mod Pairs
pub mod Told
pub mod Chosen
pub mod Scanned
