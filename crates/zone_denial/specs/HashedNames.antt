-- The names of a circle with their digests, as the program holds them, and the sets that these make
use Rattle.std.specs.Prelude.{◌==◌, ◌&&◌, ℕ, Bool, true, false, cond, List, map, filter_map, Option, Some, None, option_map, is_some}
use Rattle.std.specs.List.{list_all}
use Rattle.std.specs.Option.{option_map_or}
use Rattle.zone_proto.specs.declared.rdata.RData.TheVariants as V
use Rattle.zone_proto.specs.declared.rdata.denial.NSEC3PARAM.{NSEC3PARAM as Nsec3Parameters}
use Rattle.zone_proto.specs.declared.record.Record.{Record}
use Rattle.zone_proto.specs.Faults.{fault_of}
use Rattle.zone_proto.specs.HashedOwners.{hashed_owner}
use Rattle.zone_proto.specs.Names.{Name, name_eq}
use Rattle.zone_proto.specs.Sets.{RRset}
use Rattle.zone_proto.specs.Types.{IN, NSEC3, NSEC3PARAM}
use Rattle.zone_map.specs.Zones.{Sets}
use Rattle.zone_denial.specs.declared.hashed_names.HashedName.{HashedName as HeldName}
use Rattle.zone_denial.specs.Covering.{next_around}
use Rattle.zone_denial.specs.Nsec3Circle.{nsec3_data}
use Rattle.zone_denial.specs.Nsec3Nodes.{name_of, types_of}
use Rattle.zone_denial.specs.Nsec3Sets.{HashedName, hashed_cmp, set_of, announced_set}

-- the name and the digest that are held
abbrev pub hashed : HeldName → HashedName
hashed h = record { digest = h.digest; name = name_of h.name.now }

-- the names that a hash has digests of, with these
abbrev pub with_digests : (Name → Option (List ℕ)) → List Name → List HashedName
with_digests hash ns = filter_map (λ n. option_map (λ d. record { digest = d; name = n }) (hash n)) ns

-- whether it has a digest of each
abbrev pub all_hashed : (Name → Option (List ℕ)) → List Name → Bool
all_hashed hash ns = list_all (λ n. is_some (hash n)) ns

-- whether the hashed owners of these are names
abbrev pub all_fit : Name → List HashedName → Bool
all_fit origin hs = list_all (λ (h : HashedName). option_map_or (λ _. false) (fault_of (hashed_owner origin h.digest)) true) hs

module _ (origin : Name) (parameters : Nsec3Parameters) (ttl : ℕ) where
  -- the NSEC3 record of a name, with a next digest
  abbrev pub linked_record : HeldName → List ℕ → Record
  linked_record h next = record { name = hashed_owner origin h.digest; dns_class = record { 0 = IN }; ttl = ttl; rdata = V.NSEC3 (nsec3_data parameters next (types_of h.name.now)) }

  module _ (all : List HeldName) where
    -- the record of one of these names, which form a circle
    abbrev pub circle_record : HeldName → Record
    circle_record h = linked_record h (next_around hashed_cmp (map hashed all) (hashed h)).digest

    -- the records of the names whose hashed owner is o
    abbrev pub circle_records : List HeldName → Name → List Record
    circle_records hs o = filter_map (λ h. cond (name_eq o (hashed_owner origin h.digest)) (Some (circle_record h)) None) hs

    -- the set that these make
    abbrev pub circle_set_at : ℕ → List HeldName → Name → Option RRset
    circle_set_at serial hs o = set_of o NSEC3 serial (circle_records hs o)

-- the sets of all these names, and a set of the origin that announces them
abbrev pub circle_with : Name → RRset → Nsec3Parameters → ℕ → List HeldName → ℕ → Name → ℕ → Option RRset
circle_with origin announced parameters ttl all serial n t =
    cond (t == NSEC3) (circle_set_at origin parameters ttl all serial all n)
    (cond ((t == NSEC3PARAM) && name_eq n origin) (Some announced) None)

-- the sets of all these names, and the origin's NSEC3PARAM set, into which the parameters are inserted
abbrev pub circle_sets_at : Name → Sets → Nsec3Parameters → ℕ → List HeldName → ℕ → Name → ℕ → Option RRset
circle_sets_at origin m parameters ttl all serial n t =
    circle_with origin (announced_set origin m (λ _. None) parameters ttl serial) parameters ttl all serial n t
