use Rattle.std.proofs.Common.{◌≡◌, ◌++◌}
use Rattle.std.specs.Prelude.{flat_map}
use Rattle.std.specs.Vec.Iter.{into_iter_items}
use Rattle.zone_response.specs.Additional.{host_sets}
use Rattle.zone_response.specs.Sections.{sent_sets}
use Rattle.zone_response.proofs.additional.send_hosts.Given as goal

-- the addresses so far, and those of the hosts that are left, are all
abbrev pub invariant-loop-host : goal.invariant-loop-host
invariant-loop-host g l =
    sent_sets l.list ++ flat_map (host_sets l.origin l.inner.records l.signed l.below) (into_iter_items l.host-iterator)
    ≡ sent_sets l.fn.list ++ flat_map (host_sets l.origin l.inner.records l.signed l.below) l.fn.hosts.items
