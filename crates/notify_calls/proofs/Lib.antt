pub mod NotifyFacts
