pub mod HeldRecords
pub mod TransferredZones
pub mod Taking
pub mod Exact
