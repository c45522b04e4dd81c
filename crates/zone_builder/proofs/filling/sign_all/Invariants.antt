use Rattle.std.proofs.Common.{◌≡◌, true}
use Rattle.std.specs.List.{AllByRecursion}
use Rattle.std.specs.Vec.Iter.{into_iter_items}
use Rattle.zone_builder.specs.declared.given.GivenRecord.{GivenRecord}
use Rattle.zone_builder.specs.Records.{is_signature}
use Rattle.zone_builder.proofs.SignedSets.{signing}
use Rattle.zone_builder.proofs.filling.sign_all.Given as goal

-- with the signatures that are left the set becomes what it is with all
abbrev pub invariant-loop-given : goal.invariant-loop-given
invariant-loop-given l = record {
  kinds : AllByRecursion (λ (g : GivenRecord). is_signature g.record.rdata ≡ true) (into_iter_items l.given-iterator);
  same : signing l.ttl l.set (into_iter_items l.given-iterator) ≡ signing l.ttl l.fn.set l.fn.signatures.items;
}
