use Rattle.std.proofs.Common.{Bor, ◌≡◌, map}
use Rattle.std.specs.Prelude.{fold}
use Rattle.std.specs.Vec.Iter.{into_iter_items}
use Rattle.zone_proto.specs.Sets.{RRset}
use Rattle.zone_lookup.specs.Runs.{with_new}
use Rattle.zone_response.specs.Denials.{same_owner}
use Rattle.zone_response.proofs.denials.add_all.Given as goal

-- the sets so far, with those that are left, are all
abbrev pub invariant-loop-set : goal.invariant-loop-set
invariant-loop-set l =
    fold (with_new same_owner) (map (λ (b : Bor RRset). b.now) l.sets.items) (map (λ (b : Bor RRset). b.now) (into_iter_items l.set-iterator))
    ≡ fold (with_new same_owner) (map (λ (b : Bor RRset). b.now) l.fn.sets.items) (map (λ (b : Bor RRset). b.now) l.fn.more.items)
