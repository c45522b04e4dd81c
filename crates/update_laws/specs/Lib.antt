pub mod UpdatedZones
