pub mod TextFacts
