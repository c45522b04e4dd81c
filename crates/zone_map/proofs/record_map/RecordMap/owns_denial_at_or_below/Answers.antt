use Rattle.std.proofs.Common.{◌∙◌, ap, sym}
use Rattle.std.specs.Prelude.{option_map}
use Rattle.zone_map.specs.DenialOwners.{denial_owners, Listed, listed_of}
use Rattle.zone_map.specs.Upserts.{is_denial_type}
use Rattle.zone_map.specs.Zones.{owners}
use Rattle.zone_map.proofs.OwnersBelow.{listed_ascend, none_tells, first_tells}
use Rattle.zone_map.proofs.OwnersKept.{listed_owners}
use Rattle.zone_map.proofs.record_map.RecordMap.owns_denial_at_or_below.Goals as goal

pub returns-in-Some-next : goal.returns-in-Some-next
returns-in-Some-next c =
    let m = c.args.self.now in
    let t = c.args.record_type.0 in
    let listed = ap (option_map (λ set. set.now.keys)) (sym c.in-Some.is) ∙ c.owners.ensures m (c.denials.ensures ∙ ap (λ (l : Listed). l.denials) (c.self.invariant.index ∙ ap listed_of c.self.view_is)) in
    first_tells c.args.name.now c.in-Some.owners.now.keys (denial_owners m t) c.range.result (listed_owners (is_denial_type t) (owners m t) c.in-Some.owners.now.keys listed)
    (listed_ascend m t c.self.inside.sets c.self.view_is c.self.invariant.zone) (c.range.ensures.between tt) c.in-Some-next.first.now c.next.new.self c.zone_of.result c.in-Some-next.ensures.steps c.zone_of.ensures

pub returns-in-None : goal.returns-in-None
returns-in-None c =
    let m = c.args.self.now in
    let t = c.args.record_type.0 in
    let listed = ap (option_map (λ set. set.now.keys)) (sym c.in-Some.is) ∙ c.owners.ensures m (c.denials.ensures ∙ ap (λ (l : Listed). l.denials) (c.self.invariant.index ∙ ap listed_of c.self.view_is)) in
    none_tells c.args.name.now c.in-Some.owners.now.keys (denial_owners m t) c.range.result (listed_owners (is_denial_type t) (owners m t) c.in-Some.owners.now.keys listed)
    (listed_ascend m t c.self.inside.sets c.self.view_is c.self.invariant.zone) (c.range.ensures.between tt) c.in-None.ensures.steps.0
