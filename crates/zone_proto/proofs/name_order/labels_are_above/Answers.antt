use Rattle.std.proofs.Common.{ap, ◌∙◌, ◌-◌, drop}
use Rattle.std.specs.Ordering.{is_eq}
use Rattle.zone_proto.specs.Names.{caseless_cmp}
use Rattle.zone_proto.proofs.Names.NameTree.{caseless_suffix_test}
use Rattle.zone_proto.proofs.name_order.labels_are_above.Goals as goal

pub returns : goal.returns
returns c =
    caseless_suffix_test c.args.b c.args.a c.is_eq.result
    (c.is_eq.ensures
    ∙ ap is_eq (c.compare_alike.ensures ∙ λ t. caseless_cmp c.args.a ((c.skip.ensures ∙ λ u. drop (c.len-j.ensures u - c.len-i.ensures u) c.args.b) t)))
