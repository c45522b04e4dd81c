mod NameTests
mod Steps
mod Forms
mod Messages
