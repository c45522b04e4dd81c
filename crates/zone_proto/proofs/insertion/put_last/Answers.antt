use Rattle.std.proofs.Common.{rules, ◌≡◌, ◌∙◌, ◌++◌, ◌∷◌, [], ap}
use Rattle.zone_proto.proofs.insertion.put_last.Goals as goal

pub returns : goal.returns
returns c =
    let same : c.if-is_empty.records.items ≡ c.args.records.now.items = search rules in
    record { ok = c.in_ok-push.ensures.items ∙ ap (λ rs. rs ++ c.args.new ∷ []) same; err = tt; same = tt }
