pub mod ItemFacts
pub mod ValueFacts
