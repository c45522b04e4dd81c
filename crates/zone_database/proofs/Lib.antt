pub mod Answered
pub mod CallFacts
pub mod NoDenials
pub mod OwnDenials
pub mod Preparing
pub mod PutsInOrder
pub mod TextFacts
pub mod UnderOrigins
