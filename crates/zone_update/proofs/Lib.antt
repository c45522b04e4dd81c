mod Examples
mod NameTests
mod TakenSets
mod Steps
mod Made
mod Owned
