mod Chains
mod Planned
mod Repeated
mod Machines
mod Aligned
mod InOrder
