-- The owners whose NSEC3 sets a change of a zone makes anew
use Rattle.std.specs.Prelude.{◌≡◌, ◌⊎◌, ℕ, Bool, true, false, not, ◌==◌, List, ◌∷◌, filter, filter_map, flat_map, Option, option_map, option_to_list, IsTrue}
use Rattle.std.specs.List.{Contains}
use Rattle.zone_proto.specs.declared.record.Record.{Record}
use Rattle.zone_proto.specs.declared.rr_key.RrKey.{RrKey}
use Rattle.zone_proto.specs.HashedOwners.{hashed_owner}
use Rattle.zone_proto.specs.Names.{Name, name_cmp}
use Rattle.zone_proto.specs.Sets.{RRset}
use Rattle.zone_proto.specs.Types.{NSEC3}
use Rattle.zone_map.specs.Zones.{Sets, set_at, owns, owners}
use Rattle.zone_denial.specs.Nsec3Names.{nsec3_names}
use Rattle.zone_denial.specs.Nsec3Zones.{HasDistinctDigests}
use Rattle.hashed_changes.specs.Among.{is_among}
use Rattle.hashed_changes.specs.Affected.{HaveChanges, is_affected}
use Rattle.hashed_changes.specs.Around.{nearest_around}

-- the hashed owners of names, of those that a hash has digests of
abbrev pub hashed_owners : (Name → Option (List ℕ)) → Name → List Name → List Name
hashed_owners hash origin names = filter_map (λ n. option_map (hashed_owner origin) (hash n)) names

-- the owners of NSEC3 in a zone, but for some
abbrev pub owners_besides : Sets → List Name → List Name
owners_besides m some = filter (λ o. not (is_among some o)) (owners m NSEC3)

-- of some owners each one, and the nearest owner of NSEC3 before it that is none of these: after the first comes the last (RFC 5155 section 3.1.7)
abbrev pub with_nearest : Sets → List Name → Name → List Name
with_nearest m some o = o ∷ option_to_list (nearest_around name_cmp (owners_besides m some) o)

abbrev pub with_all_nearest : Sets → List Name → List Name
with_all_nearest m some = flat_map (with_nearest m some) some

-- the owners whose NSEC3 sets are made anew in a zone whose NSEC3 sets stand as they were, where these names are affected
abbrev pub renewed : (Name → Option (List ℕ)) → Name → Sets → List Name → List Name
renewed hash origin m names = with_all_nearest m (hashed_owners hash origin names)

-- the records of the NSEC3 set of an owner, if it has one
abbrev pub nsec3_records : Sets → Name → Option (List Record)
nsec3_records m o = option_map (λ (s : RRset). s.records) (set_at m o NSEC3)

-- a zone in which the NSEC3 sets of some owners are made anew, signatures aside: `made` tells those of the owners
pub record IsRenewed (some : List Name) (after : Sets) (made : Name → Option RRset) (put : Sets) : Type 0 where
  pub others : (n : Name) (t : ℕ) → (t == NSEC3) ≡ false → owns put n t ≡ owns after n t
  pub anew : (o : Name) → is_among some o ≡ true → nsec3_records put o ≡ option_map (λ (s : RRset). s.records) (made o)
  pub kept : (o : Name) → is_among some o ≡ false → nsec3_records put o ≡ nsec3_records after o

-- a name gets an NSEC3 set before a change or after it
abbrev pub IsOfEither : Name → Sets → Sets → Bool → Name → Type 0
IsOfEither origin m after opt_out n = Contains (nsec3_names origin m opt_out) n ⊎ Contains (nsec3_names origin after opt_out) n

-- one zone is changed into another
pub record IsChange (origin : Name) (m after : Sets) (keys : List RrKey) (names : List Name) (hash : Name → Option (List ℕ)) (opt_out : Bool) : Type 0 where
  -- sets came or went under these keys
  pub told : HaveChanges keys m after
  -- the names that this affects are among these
  pub named : (n : Name) → IsTrue (is_affected origin after keys n) → IsTrue (is_among names n)
  -- and the hash tells the names that get NSEC3 sets before it or after it apart
  pub apart : HasDistinctDigests (IsOfEither origin m after opt_out) hash
