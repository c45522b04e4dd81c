pub mod PlanFacts
pub mod PlanTelling
pub mod ReplayFacts
