-- A small zone secured, computed from the definitions
use Rattle.std.proofs.Common.{◌≡◌, ℕ, List, [], ◌∷◌, refl, cond, ◌==◌}
use Rattle.std.specs.Prelude.{codes, Option, Some, None, pos}
use Rattle.zone_proto.specs.declared.rdata.RData.{RData}
use Rattle.zone_proto.specs.declared.rdata.RData.TheVariants as V
use Rattle.zone_proto.specs.declared.rdata.signing.RRSIG.{RRSIG}
use Rattle.zone_proto.specs.declared.record.Record.{Record}
use Rattle.zone_proto.specs.Keys.{key}
use Rattle.zone_proto.specs.Names.{Name}
use Rattle.zone_proto.specs.Sets.{RRset}
use Rattle.zone_proto.specs.Signing.{SignedPart}
use Rattle.zone_proto.specs.Types.{A, SOA, NSEC, IN}
use Rattle.zone_map.specs.Zones.{Sets, set_at}
use Rattle.zone_signing.specs.Secured.{secured_at, unsigned_at}

abbrev origin : Name
origin = codes "example" ∷ []

abbrev host : Name
host = codes "www" ∷ origin

-- the signer 0 declines, and any other signs by its number
abbrev made_by : ℕ → SignedPart → ℕ → RRSIG
made_by signer part now =
    record {
      type_covered = record { 0 = part.record_type };
      algorithm = 253;
      num_labels = 1;
      original_ttl = part.ttl;
      expiration = 87400;
      inception = now;
      key_tag = signer;
      signer_name = origin;
      signature = [];
    }

abbrev sign : ℕ → SignedPart → ℕ → ℕ → Option RRSIG
sign signer part class now = cond (signer == 0) None (Some (made_by signer part now))

abbrev record_with : Name → RData → Record
record_with n d = record { name = n; dns_class = record { 0 = IN }; ttl = 60; rdata = d }

abbrev set_with : Name → ℕ → ℕ → RData → List Record → RRset
set_with n t serial d signatures = record { owner = n; record_type = t; class = IN; ttl = 60; serial = serial; records = record_with n d ∷ []; signatures = signatures }

abbrev start : ℕ → RData
start serial = V.SOA (record { mname = origin; rname = origin; serial = serial; refresh = pos 7200; retry = pos 600; expire = pos 86400; minimum = 300 })

abbrev address : RData
address = V.A (192 ∷ 0 ∷ 2 ∷ 1 ∷ [])

abbrev zone : Sets
zone =
    (key origin SOA, set_with origin SOA 4294967295 (start 4294967295) []) ∷ (key host A, set_with host A 4294967295 address (record_with host (start 1) ∷ [])) ∷ []

abbrev signed_by : Name → ℕ → ℕ → Record
signed_by n t signer = record_with n (V.RRSIG (made_by signer (record { owner = n; record_type = t; ttl = 60; records = [] }) 1000))

-- after the greatest serial comes 0, in the data and in the set; each signer that signs does, in order
soa_after : secured_at sign 1000 origin (7 ∷ 0 ∷ 9 ∷ []) (set_at zone) origin SOA ≡ Some (set_with origin SOA 0 (start 0) (signed_by origin SOA 7 ∷ signed_by origin SOA 9 ∷ []))
soa_after = refl

-- another set keeps its serial, and old signatures go
host_after : secured_at sign 1000 origin (7 ∷ 0 ∷ 9 ∷ []) (set_at zone) host A ≡ Some (set_with host A 4294967295 address (signed_by host A 7 ∷ signed_by host A 9 ∷ []))
host_after = refl

-- what isn't there stays away, and sets of the old denials' type go
absent_after : secured_at sign 1000 origin (7 ∷ []) (set_at zone) host NSEC ≡ None
absent_after = refl

gone_after : secured_at sign 1000 origin (7 ∷ []) (unsigned_at (Some A) zone []) host A ≡ None
gone_after = refl

-- without denials what is signed is what is there
nothing_new : (m : Sets) (n : Name) (t : ℕ) → unsigned_at None m [] n t ≡ set_at m n t
nothing_new m n t = refl
