use Rattle.std.proofs.Common.{rules, ◌<◌, ◌∙◌, ap, length, set}
use Rattle.zone_proto.proofs.SetLaws.{written_alone}
use Rattle.zone_proto.proofs.insertion.put_alone.Goals as goal

pub returns : goal.returns
returns c =
    let some : 0 < length c.args.records.now.items = search rules in
    record { ok = ap (λ rs. set rs 0 c.args.new) c.truncate.ensures.items ∙ written_alone c.args.records.now.items c.args.new some; err = tt; same = tt }
