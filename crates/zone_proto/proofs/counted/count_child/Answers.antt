use Rattle.std.proofs.Common.{◌≡◌, ◌++◌, ◌∷◌, length, ap, ◌∙◌}
use Rattle.zone_proto.specs.Counting.{counting}
use Rattle.zone_proto.proofs.Names.Countings.{is_counting, is_counted_name}
use Rattle.zone_proto.proofs.counted.count_child.Goals as goal

pub returns-clause-counting : goal.returns-clause-counting
returns-clause-counting c =
    let all : c.push_labels.new.octets.items ≡ counting (c.args.label.now ∷ c.args.labels) =
    c.in_ok-push_labels.ensures ∙ ap (λ z. z ++ counting c.args.labels) (c.in_ok-push_label.ensures ∙ ap (λ z. z ++ length c.args.label.now ∷ c.args.label.now) c.in_ok-octets.ensures.items) in
    is_counting c.push_labels.new.octets.items (c.args.label.now ∷ c.args.labels) (c.requires.label, c.requires.labels.labels) all

pub returns-clause-name : goal.returns-clause-name
returns-clause-name c =
    let all : c.push_labels.new.octets.items ≡ counting (c.args.label.now ∷ c.args.labels) =
    c.in_ok-push_labels.ensures ∙ ap (λ z. z ++ counting c.args.labels) (c.in_ok-push_label.ensures ∙ ap (λ z. z ++ length c.args.label.now ∷ c.args.label.now) c.in_ok-octets.ensures.items) in
    is_counted_name c.push_labels.new.octets.items (c.args.label.now ∷ c.args.labels) all
