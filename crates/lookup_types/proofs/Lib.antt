pub mod HashedOwners
