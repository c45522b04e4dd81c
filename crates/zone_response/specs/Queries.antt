-- The zone that is asked, and the query
use Rattle.std.specs.Prelude.{◌≡◌, ℕ, Bool, ◌&&◌, List, Option, Some, is_some, option_copied}
use Rattle.zone_proto.specs.declared.nx_proof_kind.NxProofKind.{NxProofKind}
use Rattle.zone_proto.specs.declared.rdata.signing.RRSIG.{RRSIG}
use Rattle.zone_proto.specs.declared.record.Record.{Record}
use Rattle.zone_proto.specs.Names.{Name}
use Rattle.zone_proto.specs.Sets.{RRset}
use Rattle.zone_proto.specs.Signing.{SignedPart}
use Rattle.zone_map.specs.Zones.{Sets, set_at, IsZone}
use Rattle.zone_lookup.specs.Inner.{Inner}
use Rattle.zone_response.specs.declared.question.Question.{Question}
use Rattle.zone_response.specs.declared.question.ServedZone.{ServedZone}
use Rattle.zone_response.specs.declared.steps.Asked.{Asked}
use Rattle.zone_signing.specs.Signatures.{answer_signatures}

pub record Zone : Type 0 where
  -- the name at its top
  pub origin : Name
  -- its record sets
  pub sets : Sets
  -- the sets in which the NSEC or NSEC3 sets are looked up that prove what is said: its record sets, or those without the NSEC and NSEC3 sets of all chains but one (RFC 5155 section 7.3)
  pub denials : Sets
  -- how it denies what it doesn't hold
  pub nx_proof_kind : Option NxProofKind
  -- the digest of an algorithm, a salt, a name and a count of iterations, or none, where it denies by hashed names (RFC 5155 section 5)
  pub digest_of : ℕ → List ℕ → Name → ℕ → Option (List ℕ)
  -- the signatures of a set that is made for a response, to a query that asks for DNSSEC or doesn't
  pub sign : Bool → RRset → List Record

-- the sets in which the proofs are looked up are sets of the zone, as they are where it lends its own, or those of one chain
pub record HasOwnDenials (z : Zone) : Type 0 where
  pub zone : IsZone z.denials
  pub own : (n : Name) (t : ℕ) (s : RRset) → set_at z.denials n t ≡ Some s → set_at z.sets n t ≡ Some s

-- a question (RFC 1035 section 4.1.2), and whether it asks for DNSSEC (RFC 3225 section 3)
pub record Query : Type 0 where
  pub name : Name
  pub record_type : ℕ
  pub class : ℕ
  pub signed : Bool

-- what is asked of a zone, apart from the name, which changes along aliases
pub record Inquiry : Type 0 where
  pub origin : Name
  pub sets : Sets
  pub record_type : ℕ
  pub signed : Bool
  -- what is said has to be proved: the query asks for DNSSEC, and the zone has denials (RFC 4035 section 3.1)
  pub is_proved : Bool
  -- the signatures of a set that is made for the response
  pub sign : RRset → List Record

abbrev pub inquiry : Zone → Query → Inquiry
inquiry z q = record { origin = z.origin; sets = z.sets; record_type = q.record_type; signed = q.signed; is_proved = q.signed && is_some z.nx_proof_kind; sign = z.sign q.signed }

-- ---- as the program keeps them

-- the zone's signers sign, at the moment at which it is asked
abbrev pub zone_of : {S H : Type 0} → (S → SignedPart → ℕ → ℕ → Option RRSIG) → (H → ℕ → List ℕ → Name → ℕ → Option (List ℕ)) → ServedZone S H → Zone
zone_of signature_of digest_of z = record {
  origin = z.origin.now;
  sets = z.inner.now.records;
  denials = z.denials.now;
  nx_proof_kind = option_copied z.nx_proof_kind;
  digest_of = digest_of z.hash.now;
  sign = λ signed. answer_signatures signature_of z.moment signed z.inner.now.signers;
}

abbrev pub query_of : Question → Bool → Query
query_of q signed = record { name = q.name.now; record_type = q.query_type.0; class = q.query_class.0; signed = signed }

abbrev pub inquiry_of : {S : Type 0} → (S → SignedPart → ℕ → ℕ → Option RRSIG) → Asked → Inner S → Inquiry
inquiry_of signature_of a inner = record {
  origin = a.origin.now;
  sets = inner.records;
  record_type = a.record_type.0;
  signed = a.signed;
  is_proved = a.is_proved;
  sign = answer_signatures signature_of a.moment a.signed inner.signers;
}
