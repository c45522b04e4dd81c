use Rattle.std.proofs.Common.{◌≡◌, map, ap, ◌∙◌}
use Rattle.std.specs.Char.{to_ascii_lowercase}
use Rattle.zone_proto.specs.Names.{Name, lower}
use Rattle.zone_proto.specs.Counting.{counting, counted_name}
use Rattle.zone_proto.proofs.Names.Lower.{labels_lower}
use Rattle.zone_proto.proofs.Names.Countings.{is_counting, is_counted_name, counting_lower}
use Rattle.zone_proto.proofs.counted.Counted.lower.Goals as goal

pub invariant_of-self : goal.invariant_of-self
invariant_of-self c =
    let n : Name = counted_name (c.self.inside.octets.items) in
    let low : c.lower.new.self.items ≡ counting (lower n) =
    c.lower.ensures ∙ ap (map to_ascii_lowercase) c.self.invariant.octets ∙ counting_lower n c.self.invariant.labels in
    is_counting c.lower.new.self.items (lower n) (labels_lower n c.self.invariant.labels) low

pub returns : goal.returns
returns c =
    let n : Name = counted_name (c.self.inside.octets.items) in
    let low : c.lower.new.self.items ≡ counting (lower n) =
    c.lower.ensures ∙ ap (map to_ascii_lowercase) c.self.invariant.octets ∙ counting_lower n c.self.invariant.labels in
    is_counted_name c.lower.new.self.items (lower n) low ∙ ap lower c.self.view_is
