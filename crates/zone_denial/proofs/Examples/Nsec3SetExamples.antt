-- The NSEC3 sets that small zones get when they are secured, computed from the definitions with a hash by a table
use Rattle.std.proofs.Common.{◌≡◌, ℕ, Bool, true, false, List, [], ◌∷◌, map, replicate, refl}
use Rattle.std.specs.Prelude.{Option, Some, None, codes}
use Rattle.zone_proto.specs.declared.rdata.RData.TheVariants as V
use Rattle.zone_proto.specs.declared.rdata.denial.NSEC3PARAM.{NSEC3PARAM as Nsec3Parameters}
use Rattle.zone_proto.specs.declared.record.Record.{Record}
use Rattle.zone_proto.specs.HashedOwners.{hashed_owner}
use Rattle.zone_proto.specs.Names.{Name}
use Rattle.zone_proto.specs.Sets.{RRset}
use Rattle.zone_proto.specs.Types.{A, NS, SOA, AAAA, DS, RRSIG, DNSKEY, NSEC3, NSEC3PARAM, IN}
use Rattle.lookup_types.specs.declared.secure_error.SecureError.TheVariants as error
use Rattle.zone_map.specs.Zones.{Sets}
use Rattle.zone_denial.specs.Nsec3Sets.{nsec3_fault, nsec3_sets_at}
use Rattle.zone_denial.proofs.Examples.NsecExamples.{origin, record_with, entry, address, start, public_key}
use Rattle.zone_denial.proofs.Examples.Nsec3Examples.{parameters, digest_in, announcing, announced, y, deep, unsigned, signed, cuts, a, b}

-- the sets that a zone gets by a table, of TTL 300 and serial 8
abbrev made : List (Name × List ℕ) → Sets → Name → ℕ → Option RRset
made table m = nsec3_sets_at origin m (digest_in table) parameters 300 8

-- an NSEC3 record of an owner that says a next digest and types
abbrev says : Bool → List ℕ → List ℕ → List ℕ → Record
says opt_out digest next types = record (record_with (hashed_owner origin digest) (V.NSEC3 (record {
  algorithm = 1;
  opt_out = opt_out;
  iterations = 12;
  salt = 7 ∷ [];
  next_hashed_owner_name = next;
  types = map (λ t. record { 0 = t }) types;
}))) { ttl = 300 }

-- a set of such records
abbrev set_with : Name → ℕ → List Record → RRset
set_with n t records = record { owner = n; record_type = t; class = IN; ttl = 300; serial = 8; records = records; signatures = [] }

abbrev set_of_digest : List ℕ → List Record → RRset
set_of_digest digest records = set_with (hashed_owner origin digest) NSEC3 records

-- ---- the origin and a host: two sets, each with the other's digest

abbrev hosts : Sets
hosts = start ∷ public_key ∷ address a ∷ []

abbrev table : List (Name × List ℕ)
table = (origin, 64 ∷ []) ∷ (a, 128 ∷ []) ∷ []

set_of_origin : made table hosts (hashed_owner origin (64 ∷ [])) NSEC3 ≡ Some (set_of_digest (64 ∷ []) (says false (64 ∷ []) (128 ∷ []) (SOA ∷ RRSIG ∷ DNSKEY ∷ NSEC3PARAM ∷ []) ∷ []))
set_of_origin = refl

set_of_host : made table hosts (hashed_owner origin (128 ∷ [])) NSEC3 ≡ Some (set_of_digest (128 ∷ []) (says false (128 ∷ []) (64 ∷ []) (A ∷ RRSIG ∷ []) ∷ []))
set_of_host = refl

-- none under another owner, the names' own too, and none of another type
none_elsewhere : made table hosts (hashed_owner origin (32 ∷ [])) NSEC3 ≡ None
none_elsewhere = refl

none_at_host : made table hosts a NSEC3 ≡ None
none_at_host = refl

none_of_type : made table hosts (hashed_owner origin (128 ∷ [])) A ≡ None
none_of_type = refl

-- ---- two names of one digest: one set with a record of each, in canonical order of the names

abbrev pair : Sets
pair = start ∷ public_key ∷ address a ∷ entry b AAAA (V.AAAA (replicate 16 0)) ∷ []

abbrev colliding : List (Name × List ℕ)
colliding = (b, 32 ∷ []) ∷ (a, 32 ∷ []) ∷ (origin, 64 ∷ []) ∷ []

set_of_both : made colliding pair (hashed_owner origin (32 ∷ [])) NSEC3
    ≡ Some (set_of_digest (32 ∷ []) (says false (32 ∷ []) (32 ∷ []) (A ∷ RRSIG ∷ []) ∷ says false (32 ∷ []) (64 ∷ []) (AAAA ∷ RRSIG ∷ []) ∷ []))
set_of_both = refl

before_both : made colliding pair (hashed_owner origin (64 ∷ [])) NSEC3 ≡ Some (set_of_digest (64 ∷ []) (says false (64 ∷ []) (32 ∷ []) (SOA ∷ RRSIG ∷ DNSKEY ∷ NSEC3PARAM ∷ []) ∷ []))
before_both = refl

-- ---- an empty non-terminal has a set without types

abbrev deep_table : List (Name × List ℕ)
deep_table = (origin, 64 ∷ []) ∷ (y, 16 ∷ []) ∷ (codes "x" ∷ y, 32 ∷ []) ∷ []

set_of_empty : made deep_table deep (hashed_owner origin (16 ∷ [])) NSEC3 ≡ Some (set_of_digest (16 ∷ []) (says false (16 ∷ []) (32 ∷ []) [] ∷ []))
set_of_empty = refl

-- ---- opt-out: an unsigned delegation gets no set, and needs no digest

abbrev cuts_table : List (Name × List ℕ)
cuts_table = (origin, 64 ∷ []) ∷ (signed, 128 ∷ []) ∷ []

abbrev opting_out : Nsec3Parameters
opting_out = record parameters { opt_out = true }

abbrev made_with_opt_out : List (Name × List ℕ) → Name → ℕ → Option RRset
made_with_opt_out table = nsec3_sets_at origin cuts (digest_in table) opting_out 300 8

origin_with_opt_out : made_with_opt_out cuts_table (hashed_owner origin (64 ∷ [])) NSEC3 ≡ Some (set_of_digest (64 ∷ []) (says true (64 ∷ []) (128 ∷ []) (SOA ∷ RRSIG ∷ DNSKEY ∷ NSEC3PARAM ∷ []) ∷ []))
origin_with_opt_out = refl

signed_with_opt_out : made_with_opt_out cuts_table (hashed_owner origin (128 ∷ [])) NSEC3 ≡ Some (set_of_digest (128 ∷ []) (says true (128 ∷ []) (64 ∷ []) (NS ∷ DS ∷ RRSIG ∷ []) ∷ []))
signed_with_opt_out = refl

unsigned_with_opt_out : made_with_opt_out ((unsigned, 96 ∷ []) ∷ cuts_table) (hashed_owner origin (96 ∷ [])) NSEC3 ≡ None
unsigned_with_opt_out = refl

-- ---- the origin's NSEC3PARAM set

abbrev parameter_record : Nsec3Parameters → Record
parameter_record p = record (record_with origin (V.NSEC3PARAM p)) { ttl = 300 }

-- with the parameters, and none elsewhere
parameters_told : made table hosts origin NSEC3PARAM ≡ Some (set_with origin NSEC3PARAM (parameter_record parameters ∷ []))
parameters_told = refl

parameters_elsewhere : made table hosts a NSEC3PARAM ≡ None
parameters_elsewhere = refl

-- one that tells the parameters already stays as it is, of TTL 60 and serial 7
parameters_told_before : made table (announced hosts) origin NSEC3PARAM ≡ Some announcing
parameters_told_before = refl

-- other parameters stay beside the zone's
others_told_before : nsec3_sets_at origin (announced hosts) (digest_in table) opting_out 300 8 origin NSEC3PARAM
    ≡ Some (set_with origin NSEC3PARAM (record_with origin (V.NSEC3PARAM parameters) ∷ parameter_record opting_out ∷ []))
others_told_before = refl

-- ---- refusals

no_fault : nsec3_fault origin hosts (digest_in table) false ≡ None
no_fault = refl

-- names of one digest are none
no_fault_of_both : nsec3_fault origin pair (digest_in colliding) false ≡ None
no_fault_of_both = refl

-- a hash without a digest of a name
no_digest : nsec3_fault origin hosts (digest_in ((origin, 64 ∷ []) ∷ [])) false ≡ Some error.Hash
no_digest = refl

-- a digest without octets, whose text is no label, and one whose text is longer than a label
no_octets : nsec3_fault origin hosts (digest_in ((origin, 64 ∷ []) ∷ (a, []) ∷ [])) false ≡ Some error.OwnerTooLong
no_octets = refl

long_digest : nsec3_fault origin hosts (digest_in ((origin, 64 ∷ []) ∷ (a, replicate 40 0) ∷ [])) false ≡ Some error.OwnerTooLong
long_digest = refl

-- of both, that there is no digest
no_digest_first : nsec3_fault origin hosts (digest_in ((origin, []) ∷ [])) false ≡ Some error.Hash
no_digest_first = refl

-- a name that opt-out leaves out is no fault
left_out_undigested : nsec3_fault origin cuts (digest_in cuts_table) true ≡ None
left_out_undigested = refl

counted_undigested : nsec3_fault origin cuts (digest_in cuts_table) false ≡ Some error.Hash
counted_undigested = refl
