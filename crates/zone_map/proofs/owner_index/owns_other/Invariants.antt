use Rattle.std.proofs.Common.{◌≡◌, not}
use Rattle.std.specs.List.{list_any}
use Rattle.zone_map.specs.Upserts.{is_denial_type}
use Rattle.zone_map.proofs.Neighbours.{front_types, from_key}
use Rattle.zone_map.proofs.owner_index.owns_other.Given as goal

-- the types that were passed are those of denial, so that those that are left tell what all do
abbrev pub invariant-loop-key : goal.invariant-loop-key
invariant-loop-key l =
    list_any (λ t. not (is_denial_type t)) (front_types l.least.name l.key-iterator) ≡ list_any (λ t. not (is_denial_type t)) (front_types l.least.name (from_key l.least l.sets))
