-- The NSEC sets that a list of keys gives
use Rattle.std.specs.Prelude.{◌≡◌, ℕ, cond, List, [], ◌∷◌, map, Some, None, filter, filter_map, unwrap_or}
use Rattle.std.specs.List.{All, Contains}
use Rattle.std.specs.Ordering.{nat_cmp}
use Rattle.zone_proto.specs.declared.rr_key.RrKey.{RrKey}
use Rattle.zone_proto.specs.Keys.{key}
use Rattle.zone_proto.specs.Names.{Name, name_cmp, name_eq}
use Rattle.zone_proto.specs.Order.{is_before, least}
use Rattle.zone_proto.specs.Sets.{RRset}
use Rattle.zone_proto.specs.Types.{RRSIG, NSEC}
use Rattle.zone_map.specs.Zones.{Sets, names_of}
use Rattle.zone_denial.specs.NsecSets.{nsec_data, new_set}
use Rattle.zone_denial.specs.TypeLists.{in_order}

-- the names of keys
abbrev pub key_names : List RrKey → List Name
key_names ks = map (λ k. k.name) ks

-- the types that keys have for a name
abbrev pub key_types : List RrKey → Name → List ℕ
key_types ks n = filter_map (λ k. cond (name_eq n k.name) (Some k.record_type.0) None) ks

-- the least name of a key after n, and after the last one the origin
abbrev pub next_key_name : Name → List RrKey → Name → Name
next_key_name origin ks n = unwrap_or (least name_cmp (filter (is_before name_cmp n) (key_names ks))) origin

module _ (origin : Name) (ks : List RrKey) (ttl serial : ℕ) where
  -- the NSEC set that keys give a name
  abbrev pub linked_set : Name → RRset
  linked_set n = new_set ttl serial n (nsec_data (next_key_name origin ks n) (in_order nat_cmp (NSEC ∷ RRSIG ∷ key_types ks n)))

  -- sets by their keys are those of the names of `ks`, one for each
  pub record AreLinked (entries : Sets) : Type 0 where
    pub each : All (λ e. e ≡ (key e.0.name NSEC, linked_set e.0.name)) entries
    pub named : All (λ e. Contains (key_names ks) e.0.name) entries
    pub all : (n : Name) → Contains (key_names ks) n → Contains (names_of entries) n

-- the name of the first key, or the origin if there is none
abbrev pub first_name : Name → List RrKey → Name
first_name origin [] = origin
first_name origin (k ∷ ks) = k.name
