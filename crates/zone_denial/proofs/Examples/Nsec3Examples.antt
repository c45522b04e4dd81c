-- Small zones with their NSEC3 sets, and the sets that deny in them, computed from the definitions with a hash by a table
use Rattle.std.proofs.Common.{◌≡◌, ℕ, true, false, List, [], ◌∷◌, replicate, refl}
use Rattle.std.specs.Prelude.{Option, Some, Result, Ok, Err, codes, find, unwrap_or, option_map}
use Rattle.zone_proto.specs.declared.error.ProtoError.{ProtoError}
use Rattle.zone_proto.specs.declared.error.ProtoError.TheVariants.{Hash, LabelTooLong}
use Rattle.zone_proto.specs.declared.rdata.RData.TheVariants as V
use Rattle.zone_proto.specs.declared.rdata.denial.NSEC3PARAM.{NSEC3PARAM as Nsec3Parameters}
use Rattle.zone_proto.specs.HashedOwners.{hashed_owner, owner_or_refusal}
use Rattle.zone_proto.specs.Names.{Name, name_eq, wildcard_under}
use Rattle.zone_proto.specs.Sets.{RRset}
use Rattle.zone_proto.specs.Types.{A, NS, SOA, DS, RRSIG, DNSKEY, NSEC3, NSEC3PARAM, IN}
use Rattle.zone_map.specs.Zones.{Sets, put}
use Rattle.zone_denial.specs.Nsec3Circle.{nsec3_data, nsec3_types, digests, next_digest}
use Rattle.zone_denial.specs.Nsec3Denial.{closest_encloser, next_closer, nsec3_denial}
use Rattle.zone_denial.specs.Nsec3Names.{nsec3_names}
use Rattle.zone_denial.proofs.Examples.NsecExamples.{origin, at_origin, record_with, entry, address, start, public_key, bare}

abbrev pub parameters : Nsec3Parameters
parameters = record { algorithm = 1; opt_out = false; iterations = 12; salt = 7 ∷ [] }

-- a hash by a table
abbrev pub digest_in : List (Name × List ℕ) → Name → Option (List ℕ)
digest_in table n = option_map (λ e. e.1) (find (λ e. name_eq n e.0) table)

abbrev pub hashed_by : List (Name × List ℕ) → Name → Result Name ProtoError
hashed_by table n = owner_or_refusal origin (digest_in table n)

-- the NSEC3 set of an owner that says a next digest and types
abbrev pub says : List ℕ → List ℕ → List ℕ → RRset
says digest next types = record {
  owner = hashed_owner origin digest;
  record_type = NSEC3;
  class = IN;
  ttl = 60;
  serial = 7;
  records = record_with (hashed_owner origin digest) (V.NSEC3 (nsec3_data parameters next types)) ∷ [];
  signatures = [];
}

-- a zone with the NSEC3 sets of its names
abbrev nsec3_set : List (Name × List ℕ) → Sets → Name → RRset
nsec3_set table m n =
    let digest = unwrap_or (digest_in table n) [] in
    says digest (next_digest (digests (digest_in table) (nsec3_names origin m false)) digest) (nsec3_types origin m n)

abbrev with_sets : List (Name × List ℕ) → Sets → Sets → List Name → Sets
with_sets table m sets [] = sets
with_sets table m sets (n ∷ ns) = put (with_sets table m sets ns) (hashed_owner origin (unwrap_or (digest_in table n) [])) NSEC3 (nsec3_set table m n)

abbrev pub announcing : RRset
announcing = (entry origin NSEC3PARAM (V.NSEC3PARAM parameters)).1

abbrev pub announced : Sets → Sets
announced m = put m origin NSEC3PARAM announcing

abbrev pub linked : List (Name × List ℕ) → Sets → Sets
linked table m = with_sets table m (announced m) (nsec3_names origin m false)

-- ---- names

abbrev pub y : Name
y = at_origin (codes "y")

-- an empty non-terminal above x.y
abbrev pub deep : Sets
deep = start ∷ public_key ∷ address (codes "x" ∷ y) ∷ []

names_with_empty : nsec3_names origin deep false ≡ origin ∷ y ∷ (codes "x" ∷ y) ∷ []
names_with_empty = refl

-- a zone cut without DS, one with, and one below an empty non-terminal; glue below the first
abbrev pub unsigned : Name
unsigned = at_origin (codes "a")

abbrev pub signed : Name
signed = at_origin (codes "b")

abbrev below_empty : Name
below_empty = codes "d" ∷ at_origin (codes "c")

abbrev pub cuts : Sets
cuts =
    start ∷ public_key ∷ entry unsigned NS (V.NS (codes "ns" ∷ unsigned)) ∷ address (codes "ns" ∷ unsigned) ∷ entry signed NS (V.NS (codes "ns" ∷ unsigned))
    ∷ entry signed DS (V.Other (record { record_type = record { 0 = DS }; octets = 1 ∷ []; other = refl })) ∷ entry below_empty NS (V.NS (codes "ns" ∷ unsigned)) ∷ []

names_of_cuts : nsec3_names origin cuts false ≡ origin ∷ unsigned ∷ signed ∷ at_origin (codes "c") ∷ below_empty ∷ []
names_of_cuts = refl

names_with_opt_out : nsec3_names origin cuts true ≡ origin ∷ signed ∷ []
names_with_opt_out = refl

-- ---- lists of types

types_of_origin : nsec3_types origin deep origin ≡ SOA ∷ RRSIG ∷ DNSKEY ∷ NSEC3PARAM ∷ []
types_of_origin = refl

types_of_empty : nsec3_types origin deep y ≡ []
types_of_empty = refl

types_of_host : nsec3_types origin deep (codes "x" ∷ y) ≡ A ∷ RRSIG ∷ []
types_of_host = refl

-- ---- the circle of digests

next_between : next_digest ((64 ∷ []) ∷ (16 ∷ []) ∷ (32 ∷ []) ∷ []) (16 ∷ []) ≡ 32 ∷ []
next_between = refl

next_of_greatest : next_digest ((64 ∷ []) ∷ (16 ∷ []) ∷ (32 ∷ []) ∷ []) (64 ∷ []) ≡ 16 ∷ []
next_of_greatest = refl

-- ---- denials in a zone with the host a

abbrev pub a : Name
a = at_origin (codes "a")

abbrev pub b : Name
b = at_origin (codes "b")

abbrev pub table : List (Name × List ℕ)
table = (origin, 64 ∷ []) ∷ (a, 128 ∷ []) ∷ (b, 32 ∷ []) ∷ (wildcard_under origin, 96 ∷ []) ∷ (codes "x" ∷ a, 192 ∷ []) ∷ (wildcard_under a, 48 ∷ []) ∷ (codes "x" ∷ b, 200 ∷ []) ∷ []

abbrev pub hosts : Sets
hosts = linked table (start ∷ public_key ∷ address a ∷ [])

abbrev pub origin_set : RRset
origin_set = says (64 ∷ []) (128 ∷ []) (SOA ∷ RRSIG ∷ DNSKEY ∷ NSEC3PARAM ∷ [])

abbrev pub host_set : RRset
host_set = says (128 ∷ []) (64 ∷ []) (A ∷ RRSIG ∷ [])

-- a name that is there: its own set
own : nsec3_denial hosts (hashed_by table) false a ≡ Ok (host_set ∷ [])
own = refl

-- one that isn't: what matches the origin, which covers the wildcard too, and what covers the name
absent : nsec3_denial hosts (hashed_by table) false b ≡ Ok (origin_set ∷ host_set ∷ [])
absent = refl

encloser : closest_encloser origin hosts false (codes "x" ∷ a) ≡ Some a
encloser = refl

closer : next_closer (codes "y" ∷ codes "x" ∷ a) a ≡ Some (codes "x" ∷ a)
closer = refl

-- below the host
below : nsec3_denial hosts (hashed_by table) false (codes "x" ∷ a) ≡ Ok (host_set ∷ [])
below = refl

-- with a wildcard that has a set: of a name further below that one too
abbrev starred : Sets
starred = linked table (start ∷ public_key ∷ address a ∷ address (wildcard_under origin) ∷ [])

wildcard_told : nsec3_denial starred (hashed_by table) false (codes "x" ∷ b)
    ≡ Ok (says (64 ∷ []) (96 ∷ []) (SOA ∷ RRSIG ∷ DNSKEY ∷ NSEC3PARAM ∷ []) ∷ says (96 ∷ []) (128 ∷ []) (A ∷ RRSIG ∷ []) ∷ says (128 ∷ []) (64 ∷ []) (A ∷ RRSIG ∷ []) ∷ [])
wildcard_told = refl

-- where a wildcard answered: what covers the next closer name alone
answered_by_wildcard : nsec3_denial hosts (hashed_by table) true b ≡ Ok (host_set ∷ [])
answered_by_wildcard = refl

-- without NSEC3 sets nothing is denied
unlinked : nsec3_denial bare (hashed_by table) false b ≡ Ok []
unlinked = refl

-- ---- refusals of the hash

abbrev no_wildcard_name : List (Name × List ℕ)
no_wildcard_name = (origin, 64 ∷ []) ∷ (a, 128 ∷ []) ∷ (b, 32 ∷ []) ∷ []

-- the wildcard is hashed last
wildcard_refused : nsec3_denial hosts (hashed_by no_wildcard_name) false b ≡ Err Hash
wildcard_refused = refl

-- the queried name is hashed first
abbrev long_name : List (Name × List ℕ)
long_name = (b, replicate 40 0) ∷ []

first_refusal : nsec3_denial hosts (hashed_by long_name) false b ≡ Err LabelTooLong
first_refusal = refl

-- and then its ancestors
abbrev long_origin : List (Name × List ℕ)
long_origin = (b, 32 ∷ []) ∷ (origin, replicate 40 0) ∷ []

second_refusal : nsec3_denial hosts (hashed_by long_origin) false b ≡ Err LabelTooLong
second_refusal = refl
