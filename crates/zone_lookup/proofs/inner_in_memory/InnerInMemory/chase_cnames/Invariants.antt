use Rattle.std.proofs.Common.{◌-◌, length}
use Rattle.zone_lookup.proofs.Chasing.{Goes}
use Rattle.zone_lookup.proofs.inner_in_memory.InnerInMemory.chase_cnames.Given as goal

abbrev pub invariant-loop-query_type : goal.invariant-loop-query_type
invariant-loop-query_type g l = Goes l.self.records l.lookup_options.dnssec_ok l.query_type.0 l.name l.fn.first l.fn.searches l.chain.items l.seen.items l.next l.searches

abbrev pub decreases-loop-query_type : goal.decreases-loop-query_type
decreases-loop-query_type g l = 8 - length l.chain.items
