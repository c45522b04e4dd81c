pub mod Recalling
pub mod RecallLaws
