-- The way along a chain, and records written one after another; other crates cite it.
pub mod Chains
pub mod Writing
