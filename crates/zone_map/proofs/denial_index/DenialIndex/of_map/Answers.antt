use Rattle.std.proofs.Common.{◌≡◌}
use Rattle.zone_proto.specs.Types.{NSEC, NSEC3}
use Rattle.zone_map.specs.Zones.{owners}
use Rattle.zone_map.proofs.OwnersKept.{collected}
use Rattle.zone_map.proofs.denial_index.DenialIndex.of_map.Goals as goal

pub returns-clause-ok : goal.returns-clause-ok
returns-clause-ok c =
    let m = c.args.sets.now in
    let listed = c.in_ok-nsec in
    let nsec : c.in_ok-collect_names.field-0.keys ≡ owners m NSEC = collected m NSEC listed.nsec.items c.in_ok-collect_names.field-0 listed.ensures.nsec listed.ensures.ordered c.in_ok-collect_names.ensures in
    let nsec3 : c.in_ok-collect_names-2.field-0.keys ≡ owners m NSEC3 = collected m NSEC3 listed.nsec3.items c.in_ok-collect_names-2.field-0 listed.ensures.nsec3 listed.ensures.ordered c.in_ok-collect_names-2.ensures in
    λ i. record { nsec = nsec i; nsec3 = nsec3 i }
