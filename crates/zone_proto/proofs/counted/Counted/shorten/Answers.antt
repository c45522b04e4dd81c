use Rattle.std.proofs.Common.{◌≡◌, [], ap, sym, ◌∙◌, length, drop, get_or, arith}
use Rattle.zone_proto.proofs.Names.LabelFaults.{some_octets}
use Rattle.zone_proto.proofs.Names.Countings.{cut}
use Rattle.zone_proto.proofs.counted.Counted.shorten.Goals as goal

pub invariant_of-self : goal.invariant_of-self
invariant_of-self c =
    let s = c.self.inside.octets.items in
    let some : s ≡ [] → ⊥ = λ e. omega (arith, some_octets (length c.octets-octets.result.now) (sym c.is_empty.ensures ∙ c.if-is_empty.false), ap length c.octets-octets.ensures, ap length e) in
    let at : c.from-count.result ≡ get_or s 0 0 = c.from-count.ensures ∙ ap (λ z. get_or z 0 0) c.octets-octets.ensures in
    (cut s c.cut_front.new.octets.items c.from-count.result c.self.invariant some at c.cut_front.ensures).counting

pub returns : goal.returns
returns c =
    let s = c.self.inside.octets.items in
    let some : s ≡ [] → ⊥ = λ e. omega (arith, some_octets (length c.octets-octets.result.now) (sym c.is_empty.ensures ∙ c.if-is_empty.false), ap length c.octets-octets.ensures, ap length e) in
    let at : c.from-count.result ≡ get_or s 0 0 = c.from-count.ensures ∙ ap (λ z. get_or z 0 0) c.octets-octets.ensures in
    (cut s c.cut_front.new.octets.items c.from-count.result c.self.invariant some at c.cut_front.ensures).name ∙ ap (drop 1) c.self.view_is
