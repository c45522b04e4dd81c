use Rattle.std.proofs.Common.{◌∙◌, ap, sym}
use Rattle.std.specs.Prelude.{option_map}
use Rattle.zone_map.specs.DenialOwners.{denial_owners, Listed, listed_of}
use Rattle.zone_map.specs.Upserts.{is_denial_type}
use Rattle.zone_map.specs.Zones.{owners}
use Rattle.zone_map.proofs.OwnersKept.{listed_owners, read_before}
use Rattle.zone_map.proofs.record_map.RecordMap.denial_owners_before.Goals as goal

pub returns-in-Some-clause-value : goal.returns-in-Some-clause-value
returns-in-Some-clause-value c =
    let listed = ap (option_map (λ set. set.now.keys)) (sym c.in-Some.is) ∙ c.owners.ensures c.args.self.now (c.denials.ensures ∙ ap (λ (l : Listed). l.denials) (c.self.invariant.index ∙ ap listed_of c.self.view_is)) in
    c.new.ensures
    ∙ read_before c.args.name.now c.in-Some.owners.now.keys (denial_owners c.args.self.now c.args.record_type.0) c.range.result
    (listed_owners (is_denial_type c.args.record_type.0) (owners c.args.self.now c.args.record_type.0) c.in-Some.owners.now.keys listed) (c.range.ensures.between tt)
