use Rattle.std.proofs.Common.{Bor, ◌≡◌, ◌++◌, map}
use Rattle.std.specs.Vec.Iter.{into_iter_items}
use Rattle.zone_proto.specs.Sets.{RRset}
use Rattle.zone_response.specs.Denials.{sent_proof}
use Rattle.zone_response.specs.Sections.{sent_sets}
use Rattle.zone_response.proofs.denials.send_proofs.Given as goal

-- the sets so far, and those that are left, are all
abbrev pub invariant-loop-set : goal.invariant-loop-set
invariant-loop-set l =
    sent_sets l.list ++ map (sent_proof l.ttl) (map (λ (b : Bor RRset). b.now) (into_iter_items l.set-iterator))
    ≡ sent_sets l.fn.list ++ map (sent_proof l.ttl) (map (λ (b : Bor RRset). b.now) l.fn.sets.items)
