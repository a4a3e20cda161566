-- The laws, from one word's bits up to sets of any number of words; other crates cite Laws, Listing, Rows and Growth.
pub mod Bits
pub mod Lists
pub mod Laws
pub mod Listing
pub mod Growth
pub mod Steps
pub mod Others
pub mod Examples
