-- What a decision asks, and what it tells of a policy.
pub mod Decisions
