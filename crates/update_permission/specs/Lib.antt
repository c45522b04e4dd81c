pub mod Permissions
pub mod PermittedChanges
