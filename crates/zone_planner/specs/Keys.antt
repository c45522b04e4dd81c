-- The keys of a zone, and their records
use Rattle.std.specs.Prelude.{ℕ, ◌&&◌, Bool, true, cond, List, [], ◌∷◌, ◌++◌, fold, flat_map, unwrap_or, refl}
use Rattle.zone_proto.specs.declared.rdata.RData.{RData}
use Rattle.zone_proto.specs.declared.rdata.RData.TheVariants as V
use Rattle.zone_proto.specs.declared.rdata.signing.DNSKEY.{DNSKEY}
use Rattle.zone_proto.specs.declared.record.Record.{Record}
use Rattle.zone_proto.specs.Names.{Name}
use Rattle.zone_proto.specs.Types.{IN}
use Rattle.zone_map.specs.Upserts.{upserted}
use Rattle.zone_map.specs.Zones.{Sets}
use Rattle.message_writing.specs.DataText.{dnskey_text}
use Rattle.zone_keys.specs.Digests.{ds_text}
use Rattle.zone_keys.specs.Roles.{signs_keys, signs_others}
use Rattle.zone_lookup.specs.StartOfAuthority.{serial}
use Rattle.zone_planner.specs.declared.keys.PlannedKey.{PlannedKey}
use Rattle.zone_planner.specs.declared.request.Request.{Request}

-- a key among others, published, that signs by its flags; for the parent, where that is asked and it signs keys
abbrev pub by_flags : List DNSKEY → Bool → DNSKEY → PlannedKey
by_flags keys asks_parent k = record {
  key = k;
  is_published = true;
  signs_keys = signs_keys keys k;
  signs_others = signs_others keys k;
  is_for_parent = asks_parent && signs_keys keys k;
}

-- ---- records of keys

-- what the child asks its parent for: a DS record of the key, as CDS, and the key, as CDNSKEY (RFC 7344 sections 3.1 and 3.2)
abbrev pub cds_data : Name → DNSKEY → RData
cds_data origin k = V.Other (record { record_type = record { 0 = 59 }; octets = ds_text origin k; other = refl })

abbrev pub cdnskey_data : DNSKEY → RData
cdnskey_data k = V.Other (record { record_type = record { 0 = 60 }; octets = dnskey_text k; other = refl })

-- the data by which a key stands in its zone (RFC 4034 section 2)
abbrev pub key_data : Name → PlannedKey → List RData
key_data origin k =
    cond k.is_published (V.DNSKEY k.key ∷ []) [] ++ cond k.is_for_parent (cds_data origin k.key ∷ cdnskey_data k.key ∷ []) []

-- the record of data at the origin, of class IN
abbrev pub apex_record : Name → ℕ → RData → Record
apex_record origin ttl d = record { name = origin; dns_class = record { 0 = IN }; ttl = ttl; rdata = d }

-- a zone into which the records of data are inserted at the origin, one after the other; one that isn't taken, as it stands there, changes nothing
abbrev pub with_data : Name → ℕ → ℕ → Sets → List RData → Sets
with_data origin ttl serial m ds = fold (λ (n : Sets) (d : RData). unwrap_or (upserted n IN (apex_record origin ttl d) serial) n) m ds

-- a zone with the records of its keys, which have the TTL that is asked for
abbrev pub keyed : Name → List PlannedKey → Request → Sets → Sets
keyed origin keys request m = with_data origin request.key_ttl (serial m origin) m (flat_map (key_data origin) keys)
