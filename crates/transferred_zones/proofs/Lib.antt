mod LeftOut
mod Made
mod SetsGrown
mod Exactly
