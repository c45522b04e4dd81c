pub mod Texts
pub mod Notifies
pub mod NotifyLaws
