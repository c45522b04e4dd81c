pub mod Copying
pub mod KeyLists
pub mod Signable
pub mod Finished
