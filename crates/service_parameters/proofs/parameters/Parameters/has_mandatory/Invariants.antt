use Rattle.std.proofs.Common.{◌≡◌, ◌==◌, drop, true, if◌then◌else◌}
use Rattle.std.specs.List.{list_all}
use Rattle.service_parameters.specs.Parameters.{KeyValue, are_there, has_mandatory}
use Rattle.service_parameters.proofs.parameters.Parameters.has_mandatory.Given as goal

abbrev pub invariant-loop-parameter : goal.invariant-loop-parameter
invariant-loop-parameter l =
    list_all (λ (p : KeyValue). if p.key == 0 then are_there p.value l.self else true) (drop l.parameter-index l.self) ≡ has_mandatory l.self
