-- Orders: of octets, of names, of keys and of digests, and what every order gives
pub mod FromLeft
pub mod FromFront
pub mod SameFronts
pub mod OctetOrder
pub mod BeforeLaws
pub mod KeyOrder
pub mod KeyLaws
pub mod Orders
pub mod Base32Facts
pub mod Base32Order
