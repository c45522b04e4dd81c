use Rattle.std.proofs.Common.{◌≡◌, ◌==◌, ◌||◌}
use Rattle.std.specs.Prelude.{option_copied}
use Rattle.std.specs.List.{list_any}
use Rattle.std.specs.Option.{option_or}
use Rattle.zone_proto.specs.Types.{NS, SOA}
use Rattle.zone_map.specs.Direct.{types_for}
use Rattle.zone_map.proofs.AnyTypes.{Ascends}
use Rattle.zone_map.proofs.AtName.{first_set}
use Rattle.zone_map.proofs.FirstKeys.{front_key}
use Rattle.zone_map.proofs.Neighbours.{front_types, from_key}
use Rattle.zone_map.proofs.at_name.at_name.Given as goal

-- what was found, and else what is left, is what the whole has; the types that are left ascend
abbrev pub invariant-loop-key : goal.invariant-loop-key
invariant-loop-key l = record {
  exact :
      option_or (option_copied l.here.exact) (first_set (λ u. list_any (λ v. u == v) (types_for l.record_type.0)) l.least.name l.key-iterator)
      ≡ first_set (λ u. list_any (λ v. u == v) (types_for l.record_type.0)) l.least.name (from_key l.least l.records);
  ns : option_or (option_copied l.here.ns) (first_set (λ u. NS == u) l.least.name l.key-iterator) ≡ first_set (λ u. NS == u) l.least.name (from_key l.least l.records);
  soa : l.here.owns_soa || list_any (λ u. SOA == u) (front_types l.least.name l.key-iterator) ≡ list_any (λ u. SOA == u) (front_types l.least.name (from_key l.least l.records));
  first : option_or (option_copied l.here.first) (front_key l.key-iterator) ≡ front_key (from_key l.least l.records);
  ascend : Ascends (front_types l.least.name l.key-iterator);
}
