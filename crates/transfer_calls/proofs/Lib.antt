pub mod CallFacts
pub mod StepFacts
