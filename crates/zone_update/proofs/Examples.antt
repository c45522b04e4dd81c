-- Updates computed from the definitions, case by case
use Rattle.std.proofs.Common.{◌≡◌, ℕ, [], ◌∷◌, refl, true, false, pos}
use Rattle.std.specs.Prelude.{codes, List, Ok, Err}
use Rattle.zone_proto.specs.Keys.{key}
use Rattle.zone_proto.specs.Names.{Name}
use Rattle.zone_proto.specs.Sets.{RRset}
use Rattle.zone_proto.specs.declared.rdata.RData.{RData}
use Rattle.zone_proto.specs.declared.rdata.RData.TheVariants as V
use Rattle.zone_proto.specs.declared.record.Record.{Record}
use Rattle.zone_map.specs.Zones.{Sets}
use Rattle.zone_proto.specs.Serials.{is_newer}
use Rattle.zone_update.specs.Demands.{demands_of}
use Rattle.zone_update.specs.Changes.{changes_of}
use Rattle.zone_update.specs.Updates.{run, updated}
use Rattle.zone_update.specs.declared.entry.Content.{Content}
use Rattle.zone_update.specs.declared.entry.Content.TheVariants as content
use Rattle.zone_update.specs.declared.entry.Entry.{Entry}
use Rattle.zone_update.specs.declared.refusal.Refusal.TheVariants as refusals

-- ---- a zone: its SOA, one NS, and an address of www

abbrev origin : Name
origin = codes "example" ∷ []

abbrev www : Name
www = codes "www" ∷ origin

abbrev ns : Name
ns = codes "ns" ∷ origin

abbrev soa : ℕ → RData
soa serial = V.SOA (record { mname = ns; rname = ns; serial = serial; refresh = pos 7200; retry = pos 600; expire = pos 86400; minimum = 300 })

abbrev address : ℕ → RData
address last = V.A (192 ∷ 0 ∷ 2 ∷ last ∷ [])

abbrev of_ttl : ℕ → Name → RData → Record
of_ttl ttl n d = record { name = n; dns_class = record { 0 = 1 }; ttl = ttl; rdata = d }

abbrev set : Name → ℕ → ℕ → ℕ → List Record → RRset
set n t ttl serial rs = record { owner = n; record_type = t; class = 1; ttl = ttl; serial = serial; records = rs; signatures = [] }

abbrev soa_set : ℕ → RRset
soa_set serial = set origin 6 60 serial (of_ttl 60 origin (soa serial) ∷ [])

abbrev ns_set : RRset
ns_set = set origin 2 60 1 (of_ttl 60 origin (V.NS ns) ∷ [])

abbrev zone : List Record → Sets
zone addresses = (key origin 2, ns_set) ∷ (key origin 6, soa_set 1) ∷ (key www 1, set www 1 60 1 addresses) ∷ []

abbrev before : Sets
before = zone (of_ttl 60 www (address 1) ∷ [])

abbrev entry : Name → ℕ → ℕ → ℕ → Content → Entry
entry n t class ttl c = record { name = n; record_type = record { 0 = t }; dns_class = record { 0 = class }; ttl = ttl; content = c }

-- ---- five updates

-- a record is added: its TTL is that of the set, and the serial goes on
added_record : updated origin before [] (entry www 1 1 300 (content.Data (address 2)) ∷ [])
    ≡ Ok (
    (key origin 2, ns_set) ∷ (key origin 6, soa_set 2)
    ∷ (key www 1, set www 1 300 1 (of_ttl 300 www (address 1) ∷ of_ttl 300 www (address 2) ∷ [])) ∷ []
    )
unfolding demands_of changes_of run
added_record = refl

-- the last NS of the origin stays, and nothing is changed, the serial neither
last_ns : updated origin before [] (entry origin 2 254 0 (content.Data (V.NS ns)) ∷ []) ≡ Ok before
unfolding demands_of changes_of run
last_ns = refl

-- all sets of a name are deleted, where the set is as it is wanted
deleted : updated origin before (entry www 1 1 0 (content.Data (address 1)) ∷ []) (entry www 255 255 0 content.Empty ∷ [])
    ≡ Ok ((key origin 2, ns_set) ∷ (key origin 6, soa_set 2) ∷ [])
unfolding demands_of changes_of run
deleted = refl

-- a set that isn't all that is wanted refuses the update
other_set : updated origin before (entry www 1 1 0 (content.Data (address 2)) ∷ []) (entry www 255 255 0 content.Empty ∷ []) ≡ Err refusals.NXRRSet
unfolding demands_of changes_of run
other_set = refl

-- a name that isn't of the zone refuses the update, whatever stands before it
not_of_zone : updated origin before [] (entry www 1 1 60 (content.Data (address 9)) ∷ entry (codes "org" ∷ []) 1 1 60 (content.Data (address 9)) ∷ []) ≡ Err refusals.NotZone
unfolding demands_of changes_of run
not_of_zone = refl

-- an SOA of an older serial is ignored, and a CNAME beside an address too
ignored : updated origin before [] (entry origin 6 1 60 (content.Data (soa 0)) ∷ entry www 5 1 60 (content.Data (V.CNAME ns)) ∷ []) ≡ Ok before
unfolding demands_of changes_of run
ignored = refl

-- a name without records isn't in use
not_in_use : updated origin before (entry (codes "no" ∷ origin) 255 255 0 content.Empty ∷ []) [] ≡ Err refusals.NXDomain
unfolding demands_of changes_of run
not_in_use = refl

-- serials go on from 0 behind the greatest
newer : is_newer 3 4294967290 ≡ true
newer = refl

half_way : is_newer 2147483649 1 ≡ false
half_way = refl
