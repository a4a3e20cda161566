-- What the short way asks, and where it stops.
pub mod Stops
