pub mod Serving
pub mod Stopping
