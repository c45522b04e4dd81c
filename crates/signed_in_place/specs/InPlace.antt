-- A version of a signed zone that is changed in place
use Rattle.std.specs.Prelude.{◌≡◌, ℕ, ◌==◌, ◌&&◌, ◌||◌, not, nat_le, Bool, true, false, List, length, map, Option, Some, None}
use Rattle.std.specs.Cmp.Lexicographic.{pointwise}
use Rattle.std.specs.List.{list_all, list_any}
use Rattle.std.specs.Map.{keys_of}
use Rattle.std.specs.Option.{option_map_or}
use Rattle.zone_proto.specs.declared.nx_proof_kind.NxProofKind.{NxProofKind}
use Rattle.zone_proto.specs.declared.nx_proof_kind.NxProofKind.TheVariants as kind
use Rattle.zone_proto.specs.declared.rdata.RData.{RData}
use Rattle.zone_proto.specs.declared.rdata.signing.DNSKEY.{DNSKEY as KeyData}
use Rattle.zone_proto.specs.declared.rdata.RData.TheVariants as V
use Rattle.zone_proto.specs.declared.rr_key.RrKey.{RrKey}
use Rattle.zone_proto.specs.Data.{type_of}
use Rattle.zone_proto.specs.Names.{Name, is_at_or_above, proper_ancestors}
use Rattle.zone_proto.specs.Records.{same_record}
use Rattle.zone_proto.specs.Sets.{RRset, stores}
use Rattle.zone_proto.specs.Types.{DNAME, DNSKEY, NSEC, NSEC3PARAM}
use Rattle.zone_lookup.specs.StartOfAuthority.{serial}
use Rattle.zone_map.specs.Zones.{Sets, names_of, owns, set_at}
use Rattle.zone_denial.specs.NsecSets.{nsec_set_at}
use Rattle.zone_trimming.specs.Trimming.{trimmed_at}
use Rattle.zone_planner.specs.declared.keys.PlannedKey.{PlannedKey}
use Rattle.zone_planner.specs.declared.request.Request.{Request}
use Rattle.zone_planner.specs.Keys.{cdnskey_data, cds_data}
use Rattle.zone_planner.specs.Plans.{denial_ttl}
use Rattle.update_in_place.specs.Parts.{is_among, AreChanged}
use Rattle.chain_changes.specs.Renewal.{IsRenewed}
use Rattle.signed_changes.specs.Renewing.{changed_keys}
use Rattle.signed_changes.specs.Signing.{IsDue}
use Rattle.signed_in_place.specs.declared.beginning.Begun.{Begun}
use Rattle.signed_in_place.specs.declared.beginning.Begun.TheVariants as begun
use Rattle.signed_in_place.specs.declared.beginning.PreparedChange.{PreparedChange}

-- ---- changes that are made in place

-- the types by which a zone asks its parent for DS records, CDS and CDNSKEY (RFC 7344 section 3)
abbrev pub cds_type : ℕ
cds_type = 59

abbrev pub cdnskey_type : ℕ
cdnskey_type = 60

-- a zone is to deny by NSEC
abbrev pub is_nsec : NxProofKind → Bool
is_nsec kind.Nsec = true
is_nsec (kind.Nsec3 algorithm salt iterations opt_out) = false

-- it does so as it stands: its origin owns NSEC, and no parameters of hashes (RFC 5155 section 4)
abbrev pub is_denied_by_nsec : Name → Sets → Bool
is_denied_by_nsec origin m = owns m origin NSEC && not (owns m origin NSEC3PARAM)

-- the TTL of denials stays (RFC 9077 section 3)
abbrev pub keeps_denial_ttl : Name → Sets → Sets → Bool
keeps_denial_ttl origin zone after = denial_ttl zone origin == denial_ttl after origin

-- a set that is there has the same records, signatures aside
abbrev pub have_same_records : Option RRset → Option RRset → Bool
have_same_records (Some s) (Some t) = pointwise same_record s.records t.records
have_same_records None None = true
have_same_records _ _ = false

-- the records of keys stay at the origin, and those by which it asks its parent for their DS records
abbrev pub keeps_records : Name → Sets → Sets → ℕ → Bool
keeps_records origin zone after t = have_same_records (set_at zone origin t) (set_at after origin t)

abbrev pub keeps_keys : Name → Sets → Sets → Bool
keeps_keys origin zone after = keeps_records origin zone after DNSKEY && (keeps_records origin zone after cds_type && keeps_records origin zone after cdnskey_type)

-- a record of the origin has these data
abbrev pub has_data : Name → Sets → RData → Bool
has_data origin m d = option_map_or (λ (s : RRset). stores s.records d) (set_at m origin (type_of d)) false

-- the DNSKEY record of a key stands there, if it is to
abbrev pub is_published : Name → Sets → PlannedKey → Bool
is_published origin m k = not k.is_published || has_data origin m (V.DNSKEY k.key)

-- the records by which the parent is asked for the DS record of a key stand there
abbrev pub asks_parent : Name → Sets → KeyData → Bool
asks_parent origin m key = has_data origin m (cds_data origin key) && has_data origin m (cdnskey_data key)

-- and they do if it is to be asked for
abbrev pub is_asked_for : Name → Sets → PlannedKey → Bool
is_asked_for origin m k = not k.is_for_parent || asks_parent origin m k.key

-- a key, no longer than the data of a record, stands in its zone as it is to
abbrev pub has_key : Name → Sets → PlannedKey → Bool
has_key origin m k = nat_le (length k.key.public_key) 65531 && (is_published origin m k && is_asked_for origin m k)

-- a name stands below a DNAME of the zone
abbrev pub owns_dname : Name → Sets → Name → Bool
owns_dname origin m n = is_at_or_above origin n && owns m n DNAME

abbrev pub is_below_dname : Name → Sets → Name → Bool
is_below_dname origin m n = list_any (owns_dname origin m) (proper_ancestors n)

-- below the set under a key nothing may stand, and the zone has none there; or it may not stand there itself (RFC 6672 section 2.4)
abbrev pub meets_dname : Name → Sets → RrKey → Bool
meets_dname origin m k = ((k.record_type.0 == DNAME) && not (owns m k.name DNAME)) || is_below_dname origin m k.name

-- A change after which its sets are these can be made in a zone in place: but for the sets that it makes others, the zone is as it is to be with such denials and these keys.
abbrev pub is_local : List PlannedKey → NxProofKind → Name → Sets → Sets → Bool
is_local keys k origin zone after =
    is_nsec k && (is_denied_by_nsec origin zone && (keeps_denial_ttl origin zone after && (list_all (has_key origin zone) keys
    && (keeps_keys origin zone after && not (list_any (meets_dname origin zone) (keys_of after))))))

-- ---- changes that are begun

-- Of a zone in which a change was carried out: its NSEC sets are renewed, each other set stays, and the plan has the sets that get other signatures than they have. The
-- origin is among its names.
pub record IsRenewedChange (origin : Name) (keys : List PlannedKey) (request : Request) (before after changed new : Sets) (prepared : PreparedChange) : Type 0 where
  pub renewed : IsRenewed origin (changed_keys before after) changed (trimmed_at (nsec_set_at origin changed (denial_ttl changed origin) (serial changed origin))) new
  pub data' : (n : Name) (t : ℕ) → (t == NSEC) ≡ false → set_at new n t ≡ set_at changed n t
  pub others : (n : Name) (t : ℕ) → is_among prepared.names.items n ≡ false → set_at new n t ≡ set_at changed n t
  pub owners : (n : Name) → is_among prepared.names.items n ≡ false → (is_among (names_of before) n ≡ false) × (is_among (names_of after) n ≡ false)
  pub apex : is_among prepared.names.items origin ≡ true
  pub due : IsDue origin keys request prepared.names.items new prepared.plan.records
  pub planned : prepared.plan.keys.items ≡ map (λ (k : PlannedKey). k.key) keys

-- what comes of a change of a zone
abbrev pub IsBegun : Name → List PlannedKey → Request → Sets → Sets → Sets → Sets → Begun → Type 0
IsBegun origin keys request before after old new begun.NotLocal = (new ≡ old) × (is_local keys request.nx_proof_kind origin old after ≡ false)
IsBegun origin keys request before after old new (begun.Changed p) =
    (is_local keys request.nx_proof_kind origin old after ≡ true)
    × ((names : List Name) (next : Sets) → AreChanged names old next before after → IsRenewedChange origin keys request before after next new p)
    × ((n : Name) (t : ℕ) → is_among p.names.items n ≡ false → set_at new n t ≡ set_at old n t)
