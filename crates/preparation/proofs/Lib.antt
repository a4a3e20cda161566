-- Laws of what is prepared; other crates cite them.
pub mod Laws
