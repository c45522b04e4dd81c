use Rattle.std.proofs.Common.{◌≡◌, sym, ap, ◌∙◌}
use Rattle.std.specs.Option.{option_map_or}
use Rattle.std.proofs.lemmas.Result.{IfOk-weaker}
use Rattle.zone_response.specs.Queries.{inquiry_of}
use Rattle.zone_response.specs.Aname.{at_last_target, by_addresses, by_last_set, answer_of}
use Rattle.zone_response.proofs.aname.by_last_set.Goals as goal

pub returns-in-None-clause-ok : goal.returns-in-None-clause-ok
returns-in-None-clause-ok g c =
    let q = inquiry_of g.S.Signer.signature_of c.args.asked c.args.inner.now in
    let s = c.args.aname.now in
    let last = c.args.last.now in
    IfOk-weaker c.by_addresses.result (λ answer. answer_of answer ≡ by_addresses q s last) (λ answer. answer_of answer ≡ by_last_set q s last)
    (λ answer e. e ∙ ap (λ o. option_map_or (at_last_target q) o (by_addresses q s last)) (sym c.in-None.is ∙ c.in_ok-target.ensures.target))
    c.by_addresses.ensures.ok
