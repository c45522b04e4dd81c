use Rattle.std.proofs.Common.{◌≡◌}
use Rattle.zone_response.specs.Additional.{hosts}
use Rattle.zone_response.proofs.HostFacts.{hosts_from}
use Rattle.zone_response.proofs.additional.hosts.Given as goal

-- the hosts so far, with those of the records that are left, are all
abbrev pub invariant-loop-naming : goal.invariant-loop-naming
invariant-loop-naming l = hosts_from l.names.items l.left l.naming-iterator ≡ hosts l.set
