pub mod SignedTransfers
