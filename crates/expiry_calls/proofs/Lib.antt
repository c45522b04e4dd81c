pub mod ExpiryFacts
