use Rattle.std.proofs.Common.{◌≡◌, ◌&&◌, drop}
use Rattle.std.specs.List.{list_all}
use Rattle.zone_proto.specs.declared.record.Record.{Record}
use Rattle.zone_check.specs.Digests.{is_digest_right}
use Rattle.zone_check.proofs.digests.tell_set.Given as goal

abbrev pub invariant-loop-given : goal.invariant-loop-given
invariant-loop-given g l =
    (l.is_right && list_all (λ (r : Record). is_digest_right l.loaded.origin l.loaded.records l.set r.rdata) (drop l.given-index l.set))
    ≡ list_all (λ (r : Record). is_digest_right l.loaded.origin l.loaded.records l.set r.rdata) l.set
