pub mod PlanStates
pub mod Keys
pub mod Copies
pub mod Asking
pub mod Holding
pub mod HoldingLaws
