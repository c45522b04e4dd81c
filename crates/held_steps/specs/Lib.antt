pub mod Histories
pub mod Lacking
pub mod Sending
pub mod Shortening
pub mod HistoryLaws
pub mod GrantLaws
pub mod Recalling
