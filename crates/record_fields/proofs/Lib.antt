pub mod LocationFacts
pub mod NameFaults
pub mod PairFacts
pub mod ParameterFacts
pub mod PrefixFacts
pub mod RowFacts
pub mod TypeFacts
