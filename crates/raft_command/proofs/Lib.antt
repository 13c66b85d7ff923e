mod SameIds
mod Walk
