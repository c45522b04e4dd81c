use Rattle.std.proofs.Common.{◌≡◌, ◌==◌}
use Rattle.std.specs.Prelude.{option_copied}
use Rattle.std.specs.Option.{option_or}
use Rattle.zone_proto.specs.Types.{NS}
use Rattle.zone_map.proofs.AnyTypes.{Ascends}
use Rattle.zone_map.proofs.AtName.{first_set}
use Rattle.zone_map.proofs.FirstKeys.{front_key}
use Rattle.zone_map.proofs.Neighbours.{front_types, from_key}
use Rattle.zone_response.proofs.node_sets.node_sets_in.Given as goal

-- what was found, and else what is left, is what the whole has; the types that are left ascend
abbrev pub invariant-loop-key : goal.invariant-loop-key
invariant-loop-key l = record {
  ns : option_or (option_copied l.here.ns) (first_set (λ u. NS == u) l.least.name l.key-iterator) ≡ first_set (λ u. NS == u) l.least.name (from_key l.least l.sets);
  first_asked : option_or (option_copied l.here.first_asked) (first_set (λ u. l.first_asked.0 == u) l.least.name l.key-iterator) ≡ first_set (λ u. l.first_asked.0 == u) l.least.name (from_key l.least l.sets);
  second_asked : option_or (option_copied l.here.second_asked) (first_set (λ u. l.second_asked.0 == u) l.least.name l.key-iterator) ≡ first_set (λ u. l.second_asked.0 == u) l.least.name (from_key l.least l.sets);
  first : option_or (option_copied l.here.first) (front_key l.key-iterator) ≡ front_key (from_key l.least l.sets);
  ascend : Ascends (front_types l.least.name l.key-iterator);
}
