use Rattle.std.proofs.Common.{arith, ◌-◌}
use Rattle.zone_response.proofs.HostFacts.{none_left, enough, passed}
use Rattle.zone_response.proofs.additional.hosts.Goals as goal

pub loop-naming-preserved : goal.loop-naming-preserved
loop-naming-preserved c =
    passed c.loop-naming.names.items c.add_host.new.names.items c.loop-naming.left (c.loop-naming.left - 1) c.loop-naming.naming-iterator c.next.new.self c.in-Some.naming.now _
    c.in-Some.ensures.steps (omega arith) c.in_ok-add_host.ensures.ok c.loop-naming.invariant

pub returns-then-left-eq0-clause-ok : goal.returns-then-left-eq0-clause-ok
returns-then-left-eq0-clause-ok c = enough c.loop-naming.names.items c.loop-naming.left c.loop-naming.naming-iterator _ c.if-left-eq0.true c.loop-naming.invariant

pub returns-clause-ok : goal.returns-clause-ok
returns-clause-ok c = none_left c.loop-naming.names.items c.loop-naming.left c.loop-naming.naming-iterator _ c.in-None.ensures.steps.0 c.loop-naming.invariant
