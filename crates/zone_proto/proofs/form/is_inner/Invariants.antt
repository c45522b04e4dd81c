use Rattle.std.proofs.Common.{take}
use Rattle.std.specs.List.{AllByRecursion}
use Rattle.zone_proto.specs.Packing.{IsInner}
use Rattle.zone_proto.proofs.form.is_inner.Given as goal

abbrev pub invariant-loop-octet : goal.invariant-loop-octet
invariant-loop-octet l = AllByRecursion IsInner (take l.octet-index l.label)
