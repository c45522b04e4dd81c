use Rattle.std.proofs.Common.{◌≡◌, ◌++◌, [], true, cond, sym, ap, ◌∙◌}
use Rattle.std.specs.Prelude.{option_map}
use Rattle.std.proofs.lemmas.Result.{IfOk-equal}
use Rattle.zone_proto.specs.Names.{is_at_or_above}
use Rattle.zone_proto.specs.Types.{A}
use Rattle.zone_response.specs.Additional.{diverted_host}
use Rattle.zone_response.specs.Sections.{sent_sets}
use Rattle.zone_response.specs.Descent.{diversion, diversion_of}
use Rattle.zone_response.proofs.TurnWalk.{of_above, of_itself}
use Rattle.zone_response.proofs.additional.send_host.Goals as goal

pub returns-in-Some-clause-ok : goal.returns-in-Some-clause-ok
returns-in-Some-clause-ok g c =
    let m = c.args.inner.now.records in
    let origin = c.args.origin.now in
    let h = c.args.host.now in
    let inside : is_at_or_above origin h ≡ true = sym c.is_at_or_above.ensures ∙ c.if-not-is_at_or_above.false in
    let turns = of_above origin m h A (diversion_of c.in-Some.turning) (ap (option_map diversion_of) (sym c.in-Some.is) ∙ c.in_ok-turning.ensures.ok A) in
    IfOk-equal c.send_diverted.result (sent_sets c.send_diverted.new.list) _ _ (c.send_diverted.ensures.ok c.args.signed)
    (ap (λ o. sent_sets c.args.list.now ++ diverted_host m c.args.signed c.args.below h o) turns
    ∙ ap (λ b. sent_sets c.args.list.now ++ cond b (diverted_host m c.args.signed c.args.below h (diversion origin m h A)) []) (sym inside))

pub returns-in-None-clause-ok : goal.returns-in-None-clause-ok
returns-in-None-clause-ok g c =
    let m = c.args.inner.now.records in
    let origin = c.args.origin.now in
    let h = c.args.host.now in
    let inside : is_at_or_above origin h ≡ true = sym c.is_at_or_above.ensures ∙ c.if-not-is_at_or_above.false in
    let turns = of_itself origin m h A (ap (option_map diversion_of) (sym c.in-None.is) ∙ c.in_ok-turning.ensures.ok A) in
    IfOk-equal c.send_undiverted.result (sent_sets c.send_undiverted.new.list) _ _ c.send_undiverted.ensures.ok
    (ap (λ o. sent_sets c.args.list.now ++ diverted_host m c.args.signed c.args.below h o) turns
    ∙ ap (λ b. sent_sets c.args.list.now ++ cond b (diverted_host m c.args.signed c.args.below h (diversion origin m h A)) []) (sym inside))
