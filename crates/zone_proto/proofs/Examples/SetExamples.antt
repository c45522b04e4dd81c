-- Insertions computed from the definition, case by case
use Rattle.std.proofs.Common.{◌≡◌, ℕ, [], ◌∷◌, refl, true, false, pos}
use Rattle.std.specs.Prelude.{Some, None, codes, List}
use Rattle.zone_proto.specs.Names.{Name}
use Rattle.zone_proto.specs.Data.{type_of}
use Rattle.zone_proto.specs.Sets.{RRset, inserted, lent}
use Rattle.zone_proto.specs.declared.rdata.RData.{RData}
use Rattle.zone_proto.specs.declared.rdata.RData.TheVariants as V
use Rattle.zone_proto.specs.declared.record.Record.{Record}

abbrev owner : Name
owner = codes "example" ∷ codes "com" ∷ []

abbrev host : Name
host = codes "host" ∷ codes "example" ∷ codes "com" ∷ []

abbrev HOST : Name
HOST = codes "HOST" ∷ codes "Example" ∷ codes "com" ∷ []

abbrev soa : ℕ → RData
soa serial =
    V.SOA (record {
      mname = host;
      rname = host;
      serial = serial;
      refresh = pos 7200;
      retry = pos 600;
      expire = pos 86400;
      minimum = 300;
    })

abbrev address : ℕ → RData
address last = V.A (192 ∷ 0 ∷ 2 ∷ last ∷ [])

-- a record of the owner, of a TTL
abbrev with_ttl : ℕ → RData → Record
with_ttl ttl d = record { name = owner; dns_class = record { 0 = 1 }; ttl = ttl; rdata = d }

-- a set of TTL 3600 and serial 1 with these records and a signature
abbrev signed : RData → List Record → RRset
signed d rs =
    record {
      owner = owner;
      record_type = type_of d;
      class = 1;
      ttl = 3600;
      serial = 1;
      records = rs;
      signatures = with_ttl 3600 (V.NS host) ∷ [];
    }

-- the same after an insertion of a record of TTL 60 with serial 9
abbrev after : RData → List Record → RRset
after d rs = record (signed d rs) { ttl = 60; serial = 9; signatures = [] }

abbrev stored : RData → RRset
stored d = signed d (with_ttl 3600 d ∷ [])

-- an SOA where one is stored: equal, lesser and greater serial
equal_soa : inserted (stored (soa 5)) (with_ttl 60 (soa 5)) 9 ≡ None
equal_soa = refl

lesser_soa : inserted (stored (soa 5)) (with_ttl 60 (soa 4)) 9 ≡ None
lesser_soa = refl

greater_soa : inserted (stored (soa 5)) (with_ttl 60 (soa 6)) 9 ≡ Some (after (soa 6) (with_ttl 60 (soa 6) ∷ []))
greater_soa = refl

-- serials are numbers: the greatest isn't followed by 0
wrapped_soa : inserted (stored (soa 4294967295)) (with_ttl 60 (soa 0)) 9 ≡ None
wrapped_soa = refl

first_soa : inserted (signed (soa 5) []) (with_ttl 60 (soa 5)) 9 ≡ Some (after (soa 5) (with_ttl 60 (soa 5) ∷ []))
first_soa = refl

-- an address that is stored, of another TTL, and one that isn't
equal_address : inserted (stored (address 1)) (with_ttl 60 (address 1)) 9 ≡ None
equal_address = refl

other_address : inserted (stored (address 1)) (with_ttl 60 (address 2)) 9
    ≡ Some (after (address 1) (with_ttl 3600 (address 1) ∷ with_ttl 60 (address 2) ∷ []))
other_address = refl

-- names in data have no case
equal_server : inserted (stored (V.NS host)) (with_ttl 60 (V.NS HOST)) 9 ≡ None
equal_server = refl

-- a second CNAME or ANAME, an equal one too
second_alias : inserted (stored (V.CNAME host)) (with_ttl 60 (V.CNAME owner)) 9
    ≡ Some (after (V.CNAME host) (with_ttl 60 (V.CNAME owner) ∷ []))
second_alias = refl

equal_alias : inserted (stored (V.CNAME host)) (with_ttl 60 (V.CNAME HOST)) 9
    ≡ Some (after (V.CNAME host) (with_ttl 60 (V.CNAME HOST) ∷ []))
equal_alias = refl

second_address_alias : inserted (stored (V.ANAME host)) (with_ttl 60 (V.ANAME owner)) 9
    ≡ Some (after (V.ANAME host) (with_ttl 60 (V.ANAME owner) ∷ []))
second_address_alias = refl

-- a reader is given the signatures last, and nothing of a set without records
lent_signed : lent (stored (address 1)) true ≡ with_ttl 3600 (address 1) ∷ with_ttl 3600 (V.NS host) ∷ []
lent_signed = refl

lent_unsigned : lent (stored (address 1)) false ≡ with_ttl 3600 (address 1) ∷ []
lent_unsigned = refl

lent_nothing : lent (signed (address 1) []) true ≡ []
lent_nothing = refl
