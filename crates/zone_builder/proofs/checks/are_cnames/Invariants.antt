use Rattle.std.proofs.Common.{◌≡◌, drop}
use Rattle.std.specs.Map.{lookup}
use Rattle.zone_proto.specs.Keys.{key, key_eq}
use Rattle.zone_proto.specs.Names.{Name}
use Rattle.zone_proto.specs.Types.{CNAME}
use Rattle.zone_builder.proofs.checks.are_cnames.Given as goal

-- of the groups that were passed none is of CNAME
abbrev pub invariant-loop-key : goal.invariant-loop-key
invariant-loop-key l = (n : Name) → lookup (key_eq (key n CNAME)) (drop l.key-index l.groups) ≡ lookup (key_eq (key n CNAME)) l.groups
