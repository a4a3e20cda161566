-- What is asked of two intervals beside whether one lies inside the other.
pub mod Touching
