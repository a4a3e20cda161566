-- Laws of what the functions find.
mod Laws
mod Front
mod Parsing
