pub mod Encloser
pub mod NsecRecords
pub mod NsecProofs
pub mod Judgement
pub mod Nsec3Records
pub mod Nsec3Proofs
pub mod Nsec3Parameters
pub mod Nsec3Responses
