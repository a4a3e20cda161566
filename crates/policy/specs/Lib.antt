-- What the walk carries.
pub mod Terms
pub mod Trails
