pub mod Told
pub mod Turned
pub mod Stepped
pub mod Leads
pub mod Passages
pub mod StandIns
pub mod Dnames
pub mod LastNames
pub mod Starts
pub mod Faults
pub mod Hashings
pub mod SentSets
pub mod Origins
pub mod OwnerSets
pub mod NsecSets
pub mod HashedSets
pub mod HashedBridges
pub mod Answers
pub mod Authorities
pub mod DenialTypes
pub mod Parts
pub mod ReadSets
pub mod Said
pub mod LentSets
pub mod BareNames
pub mod SaidNames
pub mod ToldNames
pub mod Signatures
pub mod Summed
pub mod Proved
pub mod HashedNames
pub mod HashedParts
pub mod HashedShown
pub mod HashedTypes
pub mod HashedTold
pub mod HashedLacks
pub mod HashedSummed
pub mod HashedCalls
pub mod HashedProved
pub mod HashedDenied
pub mod HashedEmpty
pub mod HashedReferrals
pub mod HashCounts
pub mod OwnDenials
pub mod Helpful
pub mod Reasons
pub mod Filled
pub mod Responses
pub mod SecuredZones
pub mod Once
pub mod AnswersOnce
pub mod AuthoritiesOnce
pub mod AdditionalsOnce
pub mod Repeats
pub mod AgreementNames
pub mod AgreementSteps
pub mod AgreementPaths
pub mod Agreement
pub mod AgreementProofs
pub mod Failing
pub mod AgreementMet
mod AgreementStandIns
mod AgreementExamples
mod SayingExamples
mod MetPremises
mod ChainTests
mod SignedZones
mod HashedSignedZones
mod HashedExamples
mod HashedMetPremises
mod WrongServers
mod WrongSets
