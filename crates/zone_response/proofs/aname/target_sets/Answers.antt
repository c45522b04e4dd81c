use Rattle.std.proofs.Common.{map, sym, ap, ◌∙◌, subst}
use Rattle.std.specs.Prelude.{Some}
use Rattle.zone_lookup.specs.Additionals.{AreAdditionals}
use Rattle.zone_lookup.specs.FoundSets.{found_set, listed_sets}
use Rattle.zone_response.proofs.StandInFacts.{targets_listed}
use Rattle.zone_response.proofs.aname.target_sets.Goals as goal

pub returns-in-Some-2-clause-ok : goal.returns-in-Some-2-clause-ok
returns-in-Some-2-clause-ok g c =
    let m = c.args.inner.now.records in
    let t = c.args.asked.record_type.0 in
    targets_listed m c.as_map-records.ensures.zone c.args.asked.signed c.args.name.now t c.args.aname.now c.in-Some.from (listed_sets (Some c.in-Some-2.sets))
    (sym c.in-Some.is ∙ c.in_ok-from.ensures.target)
    (subst (λ o. AreAdditionals m c.args.asked.signed c.args.name.now t c.in-Some.from (listed_sets o)) c.in-Some-2.is c.in_ok-sets.ensures.additionals)

pub returns-in-None-clause-ok : goal.returns-in-None-clause-ok
returns-in-None-clause-ok g c =
    let m = c.args.inner.now.records in
    let t = c.args.asked.record_type.0 in
    ap (map found_set) c.new-in-None.ensures.items
    ∙ targets_listed m c.as_map-records.ensures.zone c.args.asked.signed c.args.name.now t c.args.aname.now c.in-Some.from _
    (sym c.in-Some.is ∙ c.in_ok-from.ensures.target)
    (subst (λ o. AreAdditionals m c.args.asked.signed c.args.name.now t c.in-Some.from (listed_sets o)) c.in-None.is c.in_ok-sets.ensures.additionals)
