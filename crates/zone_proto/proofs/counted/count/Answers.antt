use Rattle.std.proofs.Common.{◌≡◌, ◌++◌, ap, ◌∙◌}
use Rattle.zone_proto.specs.Counting.{counting}
use Rattle.zone_proto.proofs.Names.Countings.{is_counting, is_counted_name}
use Rattle.zone_proto.proofs.counted.count.Goals as goal

pub returns-clause-counting : goal.returns-clause-counting
returns-clause-counting c =
    let all : c.push_labels.new.octets.items ≡ counting c.args.labels =
    c.in_ok-push_labels.ensures ∙ ap (λ z. z ++ counting c.args.labels) c.in_ok-octets.ensures.items in
    is_counting c.push_labels.new.octets.items c.args.labels c.requires.labels all

pub returns-clause-name : goal.returns-clause-name
returns-clause-name c =
    let all : c.push_labels.new.octets.items ≡ counting c.args.labels =
    c.in_ok-push_labels.ensures ∙ ap (λ z. z ++ counting c.args.labels) c.in_ok-octets.ensures.items in
    is_counted_name c.push_labels.new.octets.items c.args.labels all
