-- Which names' NSEC sets a change of a zone makes anew
use Rattle.std.specs.Prelude.{◌≡◌, ℕ, Bool, false, ◌&&◌, ◌||◌, ◌==◌, List, filter, Option, option_map}
use Rattle.std.specs.List.{list_any}
use Rattle.std.specs.Option.{option_map_or}
use Rattle.zone_proto.specs.declared.record.Record.{Record}
use Rattle.zone_proto.specs.declared.rr_key.RrKey.{RrKey}
use Rattle.zone_proto.specs.Keys.{key, key_eq}
use Rattle.zone_proto.specs.Names.{Name, name_cmp, name_eq, is_above, is_at_or_above, proper_ancestors}
use Rattle.zone_proto.specs.Order.{is_before, greatest, least}
use Rattle.zone_proto.specs.Sets.{RRset}
use Rattle.zone_proto.specs.Types.{NS, NSEC}
use Rattle.zone_map.specs.DenialOwners.{denial_owners_before}
use Rattle.zone_map.specs.Zones.{Sets, set_at, owns, names_of}
use Rattle.zone_denial.specs.Authority.{is_authoritative, authoritative_names}
use Rattle.zone_denial.specs.NsecSets.{nsec_set_at}
use Rattle.update_in_place.specs.Parts.{is_among}

-- the key of an NS set strictly below the origin: where such a set comes or goes, a zone cut does (RFC 1034 section 4.2)
abbrev pub is_cut_key : Name → RrKey → Bool
is_cut_key origin k = (k.record_type.0 == NS) && is_above origin k.name

-- a set that comes or goes under a key touches a name: its owner, and where it makes a zone cut each name at or below that too that owns sets
abbrev pub is_touched_by : Name → Sets → RrKey → Name → Bool
is_touched_by origin m k n = name_eq n k.name || (is_cut_key origin k && (is_at_or_above k.name n && is_among (names_of m) n))

-- the nearest name before n that has an NSEC set and is to have one
abbrev pub nearest_before : Name → Sets → Name → Option Name
nearest_before origin m n = greatest name_cmp (filter (is_authoritative origin m NSEC) (denial_owners_before m NSEC n))

-- a set that comes or goes under a key touches a name, or this is the nearest one before the set's owner
abbrev pub is_renewed_by : Name → Sets → RrKey → Name → Bool
is_renewed_by origin m k n = is_touched_by origin m k n || option_map_or (name_eq n) (nearest_before origin m k.name) false

-- the NSEC set of a name is made anew in a zone in which sets came or went under these keys
abbrev pub is_renewed : Name → Sets → List RrKey → Name → Bool
is_renewed origin m keys n = list_any (λ k. is_renewed_by origin m k n) keys

-- under each other key both zones have a set or none has, NSEC aside
abbrev pub HaveChanges : List RrKey → Sets → Sets → Type 0
HaveChanges keys m after = (n : Name) (t : ℕ) → (t == NSEC) ≡ false → list_any (key_eq (key n t)) keys ≡ false → owns after n t ≡ owns m n t

-- the records of the NSEC set of a name, if it has one
abbrev pub nsec_records : Sets → Name → Option (List Record)
nsec_records m n = option_map (λ (s : RRset). s.records) (set_at m n NSEC)

-- a zone whose NSEC sets are renewed so, signatures aside: `made` tells those of the names that are renewed
pub record IsRenewed (origin : Name) (keys : List RrKey) (after : Sets) (made : Name → ℕ → Option RRset) (put : Sets) : Type 0 where
  pub others : (n : Name) (t : ℕ) → (t == NSEC) ≡ false → owns put n t ≡ owns after n t
  pub anew : (n : Name) → is_renewed origin after keys n ≡ Bool.true → nsec_records put n ≡ option_map (λ (s : RRset). s.records) (made n NSEC)
  pub kept : (n : Name) → is_renewed origin after keys n ≡ false → nsec_records put n ≡ nsec_records after n

-- the NSEC set of a name under its key, if the name is to have one
abbrev pub nsec_entry_of : Name → Sets → ℕ → ℕ → Name → Option (RrKey × RRset)
nsec_entry_of origin m ttl serial n = option_map (λ (s : RRset). (key n NSEC, s)) (nsec_set_at origin m ttl serial n NSEC)

-- the least name after n that the zone is authoritative for
abbrev pub next_authoritative : Name → Sets → Name → Option Name
next_authoritative origin m n = least name_cmp (filter (is_before name_cmp n) (authoritative_names origin m NSEC))

-- a zone cut is above n: as it is seen from n up
abbrev pub has_cut_above : Name → Sets → Name → Bool
has_cut_above origin m n = list_any (λ a. is_above origin a && owns m a NS) (proper_ancestors n)
