use Rattle.std.proofs.Common.{◌≡◌, Some, sym, ap, ◌∙◌}
use Rattle.zone_proto.specs.declared.rr_key.RrKey.{RrKey}
use Rattle.zone_map.specs.Zones.{set_at}
use Rattle.zone_digest.specs.ZoneText.{zonemd_type}
use Rattle.zone_check.proofs.ToldSets.{told_of_set}
use Rattle.zone_check.proofs.digests.tell_digests.Goals as goal

pub returns-in-Some-get : goal.returns-in-Some-get
returns-in-Some-get g c =
    let found : set_at c.args.loaded.now.records c.args.loaded.now.origin zonemd_type ≡ Some c.in-Some-get.set.now =
    ap (λ (k : RrKey). set_at c.args.loaded.now.records k.name k.record_type.0) (sym c.in-Some-key_of.ensures) ∙ sym c.in-Some-get.ensures.found in
    told_of_set c.tell_set.result c.args.loaded.now.origin c.args.loaded.now.records (set_at c.args.loaded.now.records c.args.loaded.now.origin zonemd_type) c.in-Some-get.set.now
    c.as_slice.result.now found c.as_slice.ensures.value c.tell_set.ensures
