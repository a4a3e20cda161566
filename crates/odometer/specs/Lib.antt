-- Combinations by digits, and what the odometer leaves.
pub mod Digits
pub mod Odometer
