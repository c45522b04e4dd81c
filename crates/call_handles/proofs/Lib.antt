pub mod NullableBoxes
pub mod RawBoxes
pub mod Sending
pub mod Walking
