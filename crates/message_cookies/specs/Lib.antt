pub mod Cookies
pub mod SipHash
