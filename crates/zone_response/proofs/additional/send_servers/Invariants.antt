use Rattle.std.proofs.Common.{◌≡◌, ◌++◌}
use Rattle.std.specs.Prelude.{flat_map, IfSome}
use Rattle.std.specs.Vec.Iter.{into_iter_items}
use Rattle.zone_proto.specs.Names.{lower}
use Rattle.zone_response.specs.Additional.{glue_of, glue, sibling_sets, sibling_glue}
use Rattle.zone_response.specs.Sections.{sent_sets}
use Rattle.zone_response.specs.NodeSets.{IsFromSome}
use Rattle.zone_response.proofs.additional.send_servers.Given as goal

-- the addresses so far, and those of the servers that are left, are all
abbrev pub invariant-loop-host : goal.invariant-loop-host
invariant-loop-host g l = record {
  siblings :
      sent_sets l.siblings ++ flat_map (sibling_sets l.asked.origin.now l.inner.records l.asked.signed (lower l.cut.owner)) (into_iter_items l.host-iterator)
      ≡ sent_sets l.fn.siblings ++ sibling_glue l.asked.origin.now l.inner.records l.asked.signed l.cut;
  own :
      sent_sets l.own ++ flat_map (glue_of l.inner.records (lower l.cut.owner)) (into_iter_items l.host-iterator)
      ≡ sent_sets l.fn.own ++ glue l.inner.records l.cut;
  near : IfSome l.near (IsFromSome l.inner.records);
}
