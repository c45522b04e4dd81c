-- What is at a name, as one walk of the zone reads it
use Rattle.std.specs.Prelude.{◌≡◌, ℕ, option_copied}
use Rattle.std.specs.BTreeMap.Range.{entries_between}
use Rattle.std.specs.declared.ops.Bound.TheVariants.{Included, Unbounded}
use Rattle.zone_proto.specs.declared.rr_key.RrKey.{RrKey}
use Rattle.zone_proto.specs.Keys.{key_cmp}
use Rattle.zone_proto.specs.Names.{Name}
use Rattle.zone_proto.specs.Types.{NS}
use Rattle.zone_map.specs.Zones.{Sets, set_at, IsZone}
use Rattle.zone_map.specs.Walks.{first_key_from}
use Rattle.zone_response.specs.declared.node_sets.NodeSets.{NodeSets}

-- the sets from a key on
abbrev pub sets_from : Sets → RrKey → Sets
sets_from m k = entries_between key_cmp (Included k) Unbounded m

-- all sets from some key on
abbrev pub IsFromSome : Sets → Sets → Type 0
IsFromSome m es = (k : RrKey) × (es ≡ sets_from m k)

-- of a zone, the sets of NS and of two other types that are at a name
pub record StandsAt (m : Sets) (n : Name) (t u : ℕ) (here : NodeSets) : Type 0 where
  pub ns : option_copied here.ns ≡ set_at m n NS
  pub first_asked : option_copied here.first_asked ≡ set_at m n t
  pub second_asked : option_copied here.second_asked ≡ set_at m n u
  -- the first key from the name's least key on, and that the keys of the zone are in order: by the two it mostly says
  -- whether the name exists
  pub first : option_copied here.first ≡ first_key_from m n
  pub zone : IsZone m
