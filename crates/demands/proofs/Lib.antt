-- The demands, each sentence a theorem about what the operations' contracts say.
pub mod Orders
pub mod Refusals
pub mod Afterwards
pub mod Slices
pub mod Limits
pub mod Verdicts
pub mod Comparisons
pub mod ShortWay
pub mod Checks
pub mod Owl
pub mod Spell
pub mod OneValue
pub mod Rehearse
