-- Sets that are put into a zone together, and what takes them out again
use Rattle.std.specs.Prelude.{◌≡◌, List, [], ◌∷◌, not, filter, Option, None, Some}
use Rattle.std.specs.List.Sorted.{IsStrictlySortedBy}
use Rattle.std.specs.Map.{keys_of, lookup, set_value}
use Rattle.std.specs.Option.{option_or, unwrap_or}
use Rattle.zone_proto.specs.declared.rr_key.RrKey.{RrKey}
use Rattle.zone_proto.specs.Keys.{key_cmp, key_eq}
use Rattle.zone_map.specs.DenialOwners.{Listed, listed_of}
use Rattle.zone_map.specs.Upserts.{is_denial_type}
use Rattle.zone_map.specs.Zones.{Sets, without, IsZone}

-- sets of which those under these keys are exchanged for others, one after the other
abbrev pub with_exchanged : Sets → Sets → Sets
with_exchanged m [] = m
with_exchanged m (e ∷ es) = with_exchanged (set_value (key_eq e.0) m e.1) es

-- the same, the last one first
abbrev pub with_before : Sets → Sets → Sets
with_before m [] = m
with_before m (e ∷ es) = set_value (key_eq e.0) (with_before m es) e.1

-- sets without those under these keys
abbrev pub without_all : Sets → List RrKey → Sets
without_all m [] = m
without_all m (k ∷ ks) = without_all (without m k.name k.record_type.0) ks

-- sets without those of denial
abbrev pub without_denials : Sets → Sets
without_denials m = filter (λ e. not (is_denial_type e.0.record_type.0)) m

-- sets without those under these keys, or without those of denial where no keys are named
abbrev pub without_added : Sets → Option (List RrKey) → Sets
without_added m (Some keys) = without_all m keys
without_added m None = without_denials m

-- sets that others were put into: under each key is the one that was put there, else the one that was there
pub record ArePut (had more after : Sets) : Type 0 where
  pub was_ordered : IsStrictlySortedBy key_cmp (keys_of more)
  pub ordered : IsStrictlySortedBy key_cmp (keys_of after)
  pub found : (k : RrKey) → lookup (key_eq k) after ≡ option_or (lookup (key_eq k) more) (lookup (key_eq k) had)

-- what stood there before sets were put in: those in whose place others came, each under its key; the keys under which none
-- stood, which aren't named where sets of denial alone came and none stood; and the owners of the sets, if others came
pub record Before : Type 0 where
  pub exchanged : Sets
  pub added : Option (List RrKey)
  pub owners : Option Listed

-- with it, the sets that a zone has after others were put there are again those that it had
pub record Restores (before : Before) (after had : Sets) : Type 0 where
  pub zone : IsZone had
  pub sets : with_before (without_added after before.added) before.exchanged ≡ had
  pub index : unwrap_or before.owners (listed_of after) ≡ listed_of had
