pub mod Readdressed
