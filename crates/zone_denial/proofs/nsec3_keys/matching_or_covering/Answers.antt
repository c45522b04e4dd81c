use Rattle.std.proofs.Common.{sym, ap, ◌∙◌}
use Rattle.std.specs.Prelude.{filter_map, option_to_list}
use Rattle.std.specs.Option.{option_or}
use Rattle.std.proofs.lemmas.Result.{IfOk-weaker}
use Rattle.zone_proto.specs.Types.{NSEC3}
use Rattle.zone_map.specs.Zones.{set_at}
use Rattle.zone_denial.specs.Nsec3Denial.{cover_owner}
use Rattle.zone_denial.proofs.Hashed.CoverSets.{matched_or_covered, none_matched, set_of_one}
use Rattle.zone_denial.proofs.nsec3_keys.matching_or_covering.Goals as goal

pub returns-in-Some-clause-ok : goal.returns-in-Some-clause-ok
returns-in-Some-clause-ok c =
    let m = c.args.records.now in
    let upto = c.denial_owners_upto-upto.ensures in
    let owner = matched_or_covered m upto.zone c.args.hashed.now c.read_last.new.self c.in-Some.owner.now (sym upto.value ∙ c.in-Some.ensures.last) in
    IfOk-weaker c.own_set.result _ _
    (λ set is. ap option_to_list is ∙ set_of_one m c.in-Some.owner.now ∙ ap (λ o. filter_map (λ o. set_at m o NSEC3) (option_to_list o)) owner)
    c.own_set.ensures.ok

pub returns-in-None-clause-ok : goal.returns-in-None-clause-ok
returns-in-None-clause-ok c =
    let m = c.args.records.now in
    let upto = c.denial_owners_upto-upto.ensures in
    let none = none_matched m upto.zone c.args.hashed.now (sym upto.value ∙ c.in-None.ensures.last.0) in
    IfOk-weaker c.covering.result _ _
    (λ set is. is ∙ ap (λ o. filter_map (λ o. set_at m o NSEC3) (option_to_list (option_or o (cover_owner m c.args.hashed.now)))) (sym none))
    c.covering.ensures.ok
